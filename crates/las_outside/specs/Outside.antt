-- What contracts see of files: what they hold and three counts, as one value, and what a call makes of it.
use Rattle.std.specs.Prelude.{◌≡◌, ℕ, ◌≤◌, List, Option, is_some, refl}
use Rattle.std.specs.Ordering.{nat_cmp}
use Rattle.std.specs.Cmp.Lexicographic.{slice_cmp}
use Rattle.std.specs.FinMap as map
use Rattle.std.specs.Coded.{Coded, code_by, coded×, coded_ℕ, coded_list, coded_option}
use Rattle.las_outside.specs.Faults.{count_after}
use Rattle.las_outside.specs.Files.{FileMap, with_file}

-- the files, if they are known; how often a call that reads and a call that writes has failed; and how many bytes the
-- calls of `read_at` have asked for
pub record Outside : Type 0 where
  pub held : Option FileMap
  pub read_faults : ℕ
  pub write_faults : ℕ
  pub asked : ℕ

abbrev pub outside_code : Coded Outside
outside_code =
    code_by (Option FileMap × (ℕ × (ℕ × ℕ)))
    (coded× (coded_option (map.code {R = slice_cmp nat_cmp} (coded_list coded_ℕ) (coded_list coded_ℕ)))
    (coded× coded_ℕ (coded× coded_ℕ coded_ℕ)))
    (λ o. (o.held, (o.read_faults, (o.write_faults, o.asked))))
    (λ p. record { held = p.0; read_faults = p.1.0; write_faults = p.1.1.0; asked = p.1.1.1 }) (λ _. refl)

-- the outside with these bytes under a name, if the files are known
abbrev pub with_bytes : Outside → List ℕ → List ℕ → Outside
with_bytes outside name bytes = record outside { held = with_file outside.held name bytes }

-- the outside with one failed read more
abbrev pub with_read_fault : Outside → Outside
with_read_fault outside = record outside { read_faults = count_after outside.read_faults 1 }

-- the outside with one failed write more
abbrev pub with_write_fault : Outside → Outside
with_write_fault outside = record outside { write_faults = count_after outside.write_faults 1 }

-- the outside after more bytes were asked for
abbrev pub with_asked : Outside → ℕ → Outside
with_asked outside size = record outside { asked = count_after outside.asked size }

-- What holds of the outside before and after any calls: no count falls, and known files stay known, unknown ones
-- unknown.
pub record Later (old new : Outside) : Type 0 where
  pub known : is_some new.held ≡ is_some old.held
  pub reads : old.read_faults ≤ new.read_faults
  pub writes : old.write_faults ≤ new.write_faults
  pub asked : old.asked ≤ new.asked
