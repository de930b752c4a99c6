-- Blocks of a reader that go into parts, one after another.
use Rattle.std.proofs.Common.{◌≡◌, ◌≢◌, ℕ, suc, ◌*◌, ◌/◌, ◌<◌, ◌^◌, map, List, [], ◌∷◌, ◌++◌, length, Option, refl, sym, ◌∙◌, ap, subst, arith}
use Rattle.std.specs.Prelude.{All}
use Rattle.std.specs.List.{concat}
use Rattle.std.proofs.lemmas.List.{append-nil}
use Rattle.las_filter.specs.Parts.{part_name}
use Rattle.las_header.specs.Fields.{points_of, record_length_of}
use Rattle.las_header.specs.Heads.{HeadView, IsHead}
use Rattle.las_header.specs.Plain.{cut_all}
use Rattle.las_header.proofs.Public.{cut_length, cut_none}
use Rattle.las_outside.specs.Files.{FileMap, with_file}
use Rattle.laz_reader.specs.Reading.{ReaderSeen, records_in}
use Rattle.laz_reader.specs.Turns.{MayCome, file_at}
use Rattle.laz_writer.specs.Writing.{WriterSeen}
use Rattle.laz_file.proofs.Public.{file_beside, records_come}
use Rattle.las_split.specs.Files.{with_files}
use Rattle.las_split.specs.Sorting.{PartsHaveRoom, InParts, IsPlainFor, LeavesBlock, SplitTask, bytes_at, standing}
use Rattle.las_split.proofs.Placing.{leaves_here}
use Rattle.las_split.proofs.SortingPoints.{all_bytes}
use Rattle.laz_forms.proofs.Public.{record_least}

-- ---- what is known of a file that is none of the parts

same_in : (task : SplitTask) (f : ℕ → List ℕ) (ns : List ℕ) (held : Option FileMap) (name : List ℕ) → ((n : ℕ) → n < 2 ^ 32 → part_name task.stem task.end n ≢ name) → All (λ n. n < 2 ^ 32) ns → file_at (with_files held (map (standing task f) ns)) name ≡ file_at held name
same_in task f [] held name apart small = refl
same_in task f (n ∷ ns) held name apart small =
    let p = standing task f n in
    let ne : name ≢ p.0 = λ e. apart n (small 0 0 (omega arith)) (sym e) in
    same_in task f ns (with_file held p.0 p.1) name apart (λ j d lt. small (suc j) d (omega (arith, lt))) ∙ file_beside held p.0 p.1 name ne

pub parts_apart : (task : SplitTask) (was now : Option FileMap) (ns : List ℕ) (ws : List WriterSeen) (opened written : List (List ℕ)) → InParts task was now ns ws opened written → (name : List ℕ) → ((n : ℕ) → n < 2 ^ 32 → part_name task.stem task.end n ≢ name) → file_at now name ≡ file_at was name
parts_apart task was now ns ws opened written i name apart =
    ap (λ (h : Option FileMap). file_at h name) i.held ∙ same_in task (bytes_at task written) ns was name apart i.small

pub parts_held : (task : SplitTask) (was now later : Option FileMap) (ns : List ℕ) (ws : List WriterSeen) (opened written : List (List ℕ)) → later ≡ now → InParts task was now ns ws opened written → InParts task was later ns ws opened written
parts_held task was now later ns ws opened written same i = subst (λ (h : Option FileMap). InParts task was h ns ws opened written) (sym same) i

-- no part at first
pub parts_none : (task : SplitTask) (was : Option FileMap) (ns : List ℕ) (ws : List WriterSeen) (size : ℕ) → 0 < size → ns ≡ [] → ws ≡ [] → InParts task was was ns ws (cut_all size []) (cut_all size [])
parts_none task was ns ws size some none empty =
    subst (λ (b : List (List ℕ)). InParts task was was ns ws b b) (sym (cut_none size some))
    (subst (λ (ms : List ℕ). InParts task was was ms ws [] []) (sym none) (subst (λ (vs : List WriterSeen). InParts task was was [] vs [] []) (sym empty) nothing))
  where
    nothing : InParts task was was [] [] [] []
    nothing = record {
      numbers_are = refl;
      few = omega arith;
      small = λ k d lt. absurd (omega (arith, lt));
      writers_are = tt;
      held = refl;
      sized = omega arith;
    }

-- ---- the records of a reader

pub head_some : (head : List ℕ) → IsHead head → 0 < record_length_of head
head_some head is = omega (arith, record_least head is)

-- the records with those of the block that comes next
module _ (first : ReaderSeen) (xs : List (List ℕ)) (block : List ℕ) (is : IsHead first.head.bytes) (come : MayCome first (concat xs) block) where
  pub cut_come : cut_all (record_length_of first.head.bytes) (concat (xs ++ block ∷ [])) ≡ cut_all (record_length_of first.head.bytes) (concat xs) ++ cut_all (record_length_of first.head.bytes) block
  cut_come = records_come first (record_length_of first.head.bytes) xs block (head_some first.head.bytes is) refl come

  -- there is room for it
  pub room_come : (task : SplitTask) (plain : HeadView) (index : ℕ) → task.head ≡ plain.bytes → IsPlainFor first.head plain → records_in first.left ≡ points_of first.head.bytes → index ≡ length (cut_all (record_length_of first.head.bytes) (concat xs)) → PartsHaveRoom task (record_length_of first.head.bytes) index (length block)
  room_come task plain index same p all at =
      let s = record_length_of first.head.bytes in
      let place : s * index ≡ length (concat xs) = ap (λ (k : ℕ). s * k) (at ∙ cut_length s (length (concat xs) / s) (concat xs)) ∙ all_bytes s (concat xs) come.before in
      let points : points_of task.head ≡ records_in first.left = ap points_of same ∙ p.points ∙ sym all in
      record {
        size_is = sym p.size ∙ ap record_length_of (sym same);
        some = record_least first.head.bytes is;
        room = omega (arith, place, come.within, ap (λ (k : ℕ). s * k) points);
        few = subst (λ (k : ℕ). k < 2 ^ 32) (sym (ap points_of same ∙ p.points)) is.points;
      }

pub none_yet : (size : ℕ) → 0 < size → 0 ≡ length (cut_all size [])
none_yet size some = ap (λ (b : List (List ℕ)). length b) (sym (cut_none size some))

-- all records that were taken
pub left_whole : (task : SplitTask) (was now : Option FileMap) (ns : List ℕ) (ws : List WriterSeen) (x : List (List ℕ)) → InParts task was now ns ws x x → LeavesBlock task was now [] x
left_whole task was now ns ws x i = (x, [], sym (append-nil x), leaves_here task was now ns ws x x i [] (sym (append-nil x)) now refl)
