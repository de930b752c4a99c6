-- A write that failed is of a part: there is a record.
use Rattle.std.proofs.Common.{◌≡◌, ℕ, ◌+◌, ◌≤◌, List, [], ◌∷◌, ◌++◌, length, take, Option, Result, IfErr, sym, ap, subst, length-append, arith}
use Rattle.std.proofs.lemmas.List.{length-take-le}
use Rattle.las_header.specs.declared.refusal.Refusal.{Refusal}
use Rattle.las_outside.specs.Files.{FileMap}
use Rattle.las_outside.specs.Outside.{Outside}
use Rattle.laz_forms.specs.declared.fault.Fault.{Fault}
use Rattle.laz_forms.specs.declared.fault.Fault.TheVariants.{Refused, Read, Write, Memory}
use Rattle.laz_forms.specs.FileFaults.{end_of}
use Rattle.laz_reader.specs.Reading.{EndsReading}
use Rattle.laz_writer.specs.Writing.{WriterSeen}
use Rattle.las_split.specs.Sorting.{InParts, SortsBlock, SplitTask, bytes_at}
use Rattle.las_split.proofs.Standing.{writers_length}

-- some writers are of some records
pub some_opened : (task : SplitTask) (was now : Option FileMap) (ns : List ℕ) (ws : List WriterSeen) (opened written : List (List ℕ)) → InParts task was now ns ws opened written → 1 ≤ length ws → 1 ≤ length opened
some_opened task was now ns ws [] written i some =
    let none : ns ≡ [] = i.numbers_are in
    absurd (omega (arith, some, writers_length task (bytes_at task written) ns ws i.writers_are, ap (λ (t : List ℕ). length t) none))
some_opened task was now ns ws (r ∷ opened) written i some = omega arith

pub some_pushed : (task : SplitTask) (was now : Option FileMap) (ns : List ℕ) (ws : List WriterSeen) (texts records block : List (List ℕ)) (taken : ℕ) → SortsBlock task was now ns ws texts records block taken → 1 ≤ length ws
    → 1 ≤ length records + length block
some_pushed task was now ns ws texts records block taken s some =
    omega (arith, some_opened task was now ns ws (records ++ take taken block) records s.parts some, length-append records (take taken block), length-take-le taken block s.within, s.within)

-- no call that reads ends with a write that failed
pub never_write : (fault : Fault) (r : Result (Option Refusal) Fault) (P : Type 0) (old new : Outside) → r ≡ end_of fault → EndsReading ⊥ old new fault → IfErr r (λ f. f ≡ Write → P)
never_write fault r P old new is ends = subst (λ (x : Result (Option Refusal) Fault). IfErr x (λ f. f ≡ Write → P)) (sym is) (by fault ends)
  where
    by : (f : Fault) → EndsReading ⊥ old new f → IfErr (end_of f) (λ f. f ≡ Write → P)
    by (Refused cause) e = tt
    by Read e = λ same. absurd (cc)
    by Write e = absurd e
    by Memory e = λ same. absurd (cc)
