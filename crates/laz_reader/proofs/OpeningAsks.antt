-- How many bytes of a file are asked for when it is opened.
use Rattle.std.proofs.Common.{◌≡◌, ℕ, ◌+◌, ◌-◌, ◌≤◌, min, List, [], length, take, drop, Option, refl, sym, ◌∙◌, ap, arith}
use Rattle.std.specs.Prelude.{max}
use Rattle.las_header.specs.Fields.{point_offset_of}
use Rattle.las_header.proofs.Public.{number_at-take}
use Rattle.las_outside.specs.Files.{FileMap, WhereKnown}
use Rattle.laz_reader.specs.Asking.{asked_for_head}
use Rattle.laz_reader.specs.Reading.{table_size}
use Rattle.laz_forms.proofs.Public.{known_both, known_then}
use Rattle.laz_reader.proofs.TableFront.{table_asks}

-- the head, of which the front was read first
pub head_asks : (held : Option FileMap) (name front : List ℕ) (offset old new : ℕ) → WhereKnown held name (λ file. front ≡ take 227 file) → offset ≡ point_offset_of front → new ≤ old + max 227 offset
    → WhereKnown held name (λ file. new ≤ old + asked_for_head file)
head_asks held name front offset old new known offset_is asks =
    known_then held name (λ file. front ≡ take 227 file) (λ file. new ≤ old + asked_for_head file)
    (λ file is. let same : offset ≡ point_offset_of file = offset_is ∙ ap point_offset_of is ∙ number_at-take 4 96 227 file (omega arith) in omega (arith, asks, same)) known

-- the table's part of a file, of which the first eight bytes were read first
pub part_asks : (held : Option FileMap) (name empty first : List ℕ) (start end none eight most old new : ℕ) → start ≤ end → WhereKnown held name (λ file. end ≤ length file) → empty ≡ [] → none ≡ 0 → eight ≡ min (end - start) 8
    → WhereKnown held name (λ file. empty ≡ take none (drop start file) → first ≡ take eight (drop start file)) → (8 ≤ length first → most ≡ table_size first) → new ≤ old + min (end - start) most
    → WhereKnown held name (λ file. new ≤ old + table_size (drop start (take end file)))
part_asks held name empty first start end none eight most old new order within empty_is none_is eight_is read most_is asks =
    known_both held name (λ file. end ≤ length file) (λ file. empty ≡ take none (drop start file) → first ≡ take eight (drop start file)) (λ file. new ≤ old + table_size (drop start (take end file)))
    (λ file le one.
    let first_is = one (empty_is ∙ ap (λ (n : ℕ). take n (drop start file)) (sym none_is)) ∙ ap (λ (n : ℕ). take n (drop start file)) eight_is in
    omega (arith, asks, table_asks file first start end (end - start) most order le refl first_is most_is)) within read
