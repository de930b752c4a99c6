-- The records of ranges: one answer, all records, no records, and a slice of all records.
use Rattle.std.proofs.Common.{◌≡◌, ℕ, ◌+◌, ◌-◌, ◌*◌, ◌≤◌, Bool, true, false, List, [], ◌∷◌, length, take, drop, Option, Some, None, refl, sym, ◌∙◌, ap, subst, arith}
use Rattle.las_header.specs.Fields.{head_of, is_packed, point_offset_of, record_length_of}
use Rattle.laz_file.specs.Copying.{AreOnlyRecordsIn}
use Rattle.laz_forms.specs.Laws.{IsEmptyRange, IsRangeReadOnce, IsWholeOfAll}
use Rattle.laz_forms.specs.Pieces.{Piece, plain_from}
use Rattle.laz_forms.specs.Ranges.{Range, first_of, parts_if, parts_of, whole_range}
use Rattle.laz_reader.specs.Reading.{ReaderSeen, StandsFor}
use Rattle.laz_forms.specs.Records.{AreRead, AreRecordsIn, AreRecordsOf, HoldOnly, IsBadPiece, moved}
use Rattle.laz_reader.proofs.Public.{all_of}
use Rattle.laz_reader.proofs.Public.{inside}
use Rattle.laz_forms.proofs.Public.{one_pieces}
use Rattle.laz_reader.proofs.Public.{empty_parts}
use Rattle.laz_forms.proofs.Public.{once}
use Rattle.std.proofs.lemmas.List.{take_all}

moved_none : (o : Option ℕ) → moved 0 o ≡ o
moved_none None = refl
moved_none (Some i) = ap (λ (n : ℕ). Some n) (omega arith)

-- ---- all records
pub whole_of_all : IsWholeOfAll
whole_of_all file blocks bad = (to, from)
  where
    to : AreRecordsIn file (whole_range (head_of file)) blocks bad → AreRecordsOf file blocks bad
    to r =
        let all = all_of file r.0 r.2 in
        let same : bad ≡ r.1 = r.4 ∙ ap (λ (n : ℕ). moved n r.1) all.1 ∙ moved_none r.1 in
        (r.0, r.2, subst (λ (b : Option ℕ). AreRead file r.0 blocks b) (sym same) (subst (λ (ps : List Piece). AreRead file ps blocks r.1) all.0 r.3))

    from : AreRecordsOf file blocks bad → AreRecordsIn file (whole_range (head_of file)) blocks bad
    from r =
        let all = all_of file r.0 r.1 in
        (r.0, bad, r.1, subst (λ (ps : List Piece). AreRead file ps blocks bad) (sym all.0) r.2, sym (ap (λ (n : ℕ). moved n bad) all.1 ∙ moved_none bad))

-- ---- one answer
pub range_once : IsRangeReadOnce
range_once file range pieces blocks bad are holds is others worse of =
    let same = one_pieces file of.0 pieces of.2 are in
    let read = subst (λ (ps : List Piece). AreRead file (parts_of file range ps) others of.1) same of.3 in
    let o = once file (parts_of file range pieces) blocks bad holds is others of.1 read in
    (o.0, of.4 ∙ ap (λ (ps : List Piece). moved (first_of file range ps) of.1) same ∙ ap (moved (first_of file range pieces)) o.1)

-- ---- no records
read_none : (file : List ℕ) (blocks : List (List ℕ)) (found : Option ℕ) → AreRead file [] blocks found → (blocks ≡ []) × (found ≡ None)
read_none file [] None read = (refl, refl)
read_none file (b ∷ blocks) None read = absurd read
read_none file blocks (Some i) read = absurd (let few = inside [] i read.1.0 read.1.1 in omega (arith, few))

none_if : (packed : Bool) (head : List ℕ) (offset : ℕ) (range : Range) (pieces : List Piece) → range.stop ≤ range.start → parts_if packed head offset range pieces ≡ []
none_if true head offset range pieces empty = empty_parts range 0 pieces empty
none_if false head offset range pieces empty =
    let none : range.stop - range.start ≡ 0 = omega (arith, empty) in
    ap (plain_from (record_length_of head) (offset + record_length_of head * range.start)) none

pub empty_range : IsEmptyRange
empty_range file range blocks bad empty of =
    let none = none_if (is_packed (head_of file)) (head_of file) (point_offset_of file) range of.0 empty in
    let r = read_none file blocks of.1 (subst (λ (ps : List Piece). AreRead file ps blocks of.1) none of.3) in
    (r.0, of.4 ∙ ap (moved (first_of file range of.0)) r.1)

-- ---- what a reader finds that has read nothing
module _ (first : ReaderSeen) (file : List ℕ) (s : StandsFor first file) (unread : first.next ≡ first.first) where
  range_left : first.left ≡ parts_of file first.range s.pieces
  range_left =
      let none : first.next - first.first ≡ 0 = omega (arith, unread) in
      s.left ∙ ap (λ (n : ℕ). drop n (parts_of file first.range s.pieces)) none

  pub all_records_in : (blocks : List (List ℕ)) → HoldOnly file (take (length first.left) first.left) blocks → AreOnlyRecordsIn file first.range blocks None
  all_records_in blocks hold =
      let parts = parts_of file first.range s.pieces in
      let here : HoldOnly file parts blocks = subst (λ (ps : List Piece). HoldOnly file ps blocks) (take_all (length first.left) first.left (omega arith) ∙ range_left) hold in
      record { are = (s.pieces, None, s.are, here.hold, refl); only = range_once file first.range s.pieces blocks None s.are here tt }

  pub records_in_before : (n : ℕ) (blocks : List (List ℕ)) → HoldOnly file (take n first.left) blocks → IsBadPiece file first.left n → AreOnlyRecordsIn file first.range blocks (Some (first.first + n))
  records_in_before n blocks hold bad =
      let parts = parts_of file first.range s.pieces in
      let here : HoldOnly file (take n parts) blocks = subst (λ (ps : List Piece). HoldOnly file (take n ps) blocks) range_left hold in
      let there : IsBadPiece file parts n = subst (λ (ps : List Piece). IsBadPiece file ps n) range_left bad in
      let number : Some (first_of file first.range s.pieces + n) ≡ Some (first.first + n) = ap (λ (k : ℕ). Some (k + n)) (sym s.first) in
      subst (λ (b : Option ℕ). AreOnlyRecordsIn file first.range blocks b) number
      (record { are = (s.pieces, Some n, s.are, (here.hold, there), refl); only = range_once file first.range s.pieces blocks (Some n) s.are here there })
