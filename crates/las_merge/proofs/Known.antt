-- What follows of readers and of what was copied, if the files are known.
use Rattle.std.proofs.Common.{◌≡◌, ℕ, zero, suc, ◌+◌, ◌<◌, ◌≤◌, List, [], ◌∷◌, length, map, Option, Some, None, IsSomeAnd, unwrap_or, refl, sym, ◌∙◌, ap, subst, arith}
use Rattle.std.specs.Prelude.{All}
use Rattle.std.specs.FinMap as finmap
use Rattle.std.proofs.lemmas.List.{get_or-map, get_or-take}
use Rattle.std.proofs.lemmas.List.Sums.{sum_by-cons}
use Rattle.las_header.specs.Fields.{head_of, points_of}
use Rattle.las_header.specs.Heads.{HeadView}
use Rattle.las_outside.specs.Files.{FileMap, WhereKnown, bytes_of}
use Rattle.laz_forms.specs.Refusing.{IsAcceptedFile}
use Rattle.las_merge.specs.Copying.{AreCopied, OnlyRecords}
use Rattle.las_merge.specs.Fields.{first_difference}
use Rattle.laz_copied.specs.Copied.{first_head, points_of_files}
use Rattle.las_merge.specs.Inputs.{AreFirstInputs, item_at}
use Rattle.las_merge.specs.Opening.{AreOpen, InputSeen, IsItsFile, IsOpen, first_read, input_names, points_read}
use Rattle.las_merge.proofs.Merges.{AllOnly}

-- what is known of a file that is held
some_at : (o : Option (List ℕ)) (P : List ℕ → Type 0) → IsSomeAnd o P → (o ≡ Some (unwrap_or o [])) × P (unwrap_or o [])
some_at None P k = absurd k
some_at (Some file) P k = (refl, k)

module _ (known : FileMap) where
  -- the file under a name
  abbrev pub file_of : List ℕ → List ℕ
  file_of name = bytes_of (Some known) name

  abbrev pub files_of : (names : List (List ℕ)) → List (List ℕ)
  files_of names = map file_of names

  pub held_at : (name : List ℕ) (P : List ℕ → Type 0) → WhereKnown (Some known) name P → (finmap.get known name ≡ Some (file_of name)) × P (file_of name)
  held_at name P k = some_at (finmap.get known name) P k

  -- ---- readers, and their files

  pub read_head : (reader : InputSeen) → IsOpen (Some known) reader → reader.head.bytes ≡ head_of (file_of reader.name)
  read_head reader o = ap (λ (h : HeadView). h.bytes) (held_at reader.name (IsItsFile reader) o.stands).1.head

  pub read_held : (reader : InputSeen) → IsOpen (Some known) reader → finmap.get known reader.name ≡ Some (file_of reader.name)
  read_held reader o = (held_at reader.name (IsItsFile reader) o.stands).0

  pub read_points : (readers : List InputSeen) → All (IsOpen (Some known)) readers → points_of_files (files_of (input_names readers)) ≡ points_read readers
  read_points [] all = refl
  read_points (r ∷ rs) all =
      let tail : All (IsOpen (Some known)) rs = λ k d lt. all (suc k) d (omega (arith, lt)) in
      let here : points_of (head_of (file_of r.name)) ≡ points_of r.head.bytes = ap points_of (sym (read_head r (all 0 r (omega arith)))) in
      sum_by-cons (λ (file : List ℕ). points_of (head_of file)) (file_of r.name) (files_of (input_names rs))
      ∙ (let e : points_of (head_of (file_of r.name)) + points_of_files (files_of (input_names rs)) ≡ points_of r.head.bytes + points_read rs = omega (arith, here, read_points rs tail) in e)
      ∙ sym (sum_by-cons (λ (reader : InputSeen). points_of reader.head.bytes) r rs)

  pub read_first : (readers : List InputSeen) → All (IsOpen (Some known)) readers → 1 ≤ length readers → first_read readers ≡ first_head (files_of (input_names readers))
  read_first [] all some = absurd (omega (arith, some))
  read_first (r ∷ rs) all some = read_head r (all 0 r (omega arith))

  pub name_length : (readers : List InputSeen) → length (input_names readers) ≡ length readers
  name_length [] = refl
  name_length (r ∷ rs) = omega (arith, name_length rs)

  pub file_length : (names : List (List ℕ)) → length (files_of names) ≡ length names
  file_length [] = refl
  file_length (n ∷ ns) = omega (arith, file_length ns)

  pub file_at : (names : List (List ℕ)) (k : ℕ) → k < length names → item_at (files_of names) k ≡ file_of (item_at names k)
  file_at names k lt = get_or-map file_of names k [] [] lt

  -- each file is held, accepted, and like the first
  held_by : (readers : List InputSeen) → All (IsOpen (Some known)) readers → (k : ℕ) → k < length readers → finmap.get known (item_at (input_names readers) k) ≡ Some (file_of (item_at (input_names readers) k))
  held_by [] all k lt = absurd (omega (arith, lt))
  held_by (r ∷ rs) all zero lt = read_held r (all 0 r (omega arith))
  held_by (r ∷ rs) all (suc k) lt = held_by rs (λ j d le. all (suc j) d (omega (arith, le))) k (omega (arith, lt))

  accepted_by : (readers : List InputSeen) → All (IsOpen (Some known)) readers → All IsAcceptedFile (files_of (input_names readers))
  accepted_by [] all k d lt = absurd (omega (arith, lt))
  accepted_by (r ∷ rs) all zero d lt = (held_at r.name (IsItsFile r) (all 0 r (omega arith)).stands).1.accepted
  accepted_by (r ∷ rs) all (suc k) d lt = accepted_by rs (λ j e le. all (suc j) e (omega (arith, le))) k d (omega (arith, lt))

  alike_by : (first : List ℕ) (readers : List InputSeen) → All (IsOpen (Some known)) readers → All (λ r. first_difference first r.head.bytes ≡ None) readers → All (λ file. first_difference first (head_of file) ≡ None) (files_of (input_names readers))
  alike_by first [] all same k d lt = absurd (omega (arith, lt))
  alike_by first (r ∷ rs) all same zero d lt = ap (λ (h : List ℕ). first_difference first h) (sym (read_head r (all 0 r (omega arith)))) ∙ same 0 r (omega arith)
  alike_by first (r ∷ rs) all same (suc k) d lt = alike_by first rs (λ j e le. all (suc j) e (omega (arith, le))) (λ j e le. same (suc j) e (omega (arith, le))) k d (omega (arith, lt))

  alike_to : (names : List (List ℕ)) (readers : List InputSeen) → AreOpen (Some known) names readers → All (λ file. first_difference (first_head (files_of (input_names readers))) (head_of file) ≡ None) (files_of (input_names readers))
  alike_to names [] o = λ k d lt. absurd (omega (arith, lt))
  alike_to names (r ∷ rs) o =
      let first = first_head (files_of (input_names (r ∷ rs))) in
      alike_by first (r ∷ rs) o.opened (subst (λ (h : List ℕ). All (λ x. first_difference h x.head.bytes ≡ None) (r ∷ rs)) (read_first (r ∷ rs) o.opened (omega arith)) o.alike)

  pub first_by : (names : List (List ℕ)) (readers : List InputSeen) → AreOpen (Some known) names readers → AreFirstInputs known names (files_of (input_names readers))
  first_by names readers o =
      let count : length (files_of (input_names readers)) ≡ length readers = file_length (input_names readers) ∙ name_length readers in
      record {
        within = omega (arith, count, o.within);
        held = λ k lt.
            let below : k < length readers = omega (arith, lt, count) in
            let same : item_at (input_names readers) k ≡ item_at names k = ap (λ (ns : List (List ℕ)). item_at ns k) o.named ∙ get_or-take (length readers) names k [] below in
            ap (λ (n : List ℕ). finmap.get known n) (sym same) ∙ held_by readers o.opened k below ∙ ap (λ (file : List ℕ). Some file) (sym (file_at (input_names readers) k (omega (arith, below, name_length readers))));
        accepted = accepted_by readers o.opened;
        alike = alike_to names readers o;
      }

  -- ---- what was copied

  pub only_by : (names parts : List (List ℕ)) → AreCopied (Some known) names parts → AllOnly (files_of names) parts
  only_by names [] all = tt
  only_by [] (p ∷ ps) all = absurd all
  only_by (n ∷ ns) (p ∷ ps) all = ((held_at n (λ file. OnlyRecords file p None) all.0).1, only_by ns ps all.1)
