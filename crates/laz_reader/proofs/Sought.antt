-- A reader that has sought a range of records.
use Rattle.std.proofs.Common.{◌≡◌, ℕ, zero, suc, ◌+◌, ◌*◌, ◌-◌, ◌<◌, ◌≤◌, Bool, true, false, List, [], ◌∷◌, length, take, drop, Option, Some, None, refl, sym, ◌∙◌, ap, subst, if◌then◌else◌, arith}
use Rattle.std.specs.Prelude.{All, sum}
use Rattle.std.specs.Option.{is_some}
use Rattle.std.proofs.Math.Nat.{mul-le-mul, mul-le-mul_left}
use Rattle.std.proofs.lemmas.List.{length-drop, length-map}
use Rattle.las_header.specs.Fields.{head_of, is_packed, point_offset_of, points_of, record_length_of}
use Rattle.las_header.specs.Heads.{HeadView, IsHead}
use Rattle.laz_table.specs.Chunks.{fixed_sizes}
use Rattle.laz_table.specs.VlrCauses.{chunk_size_of}
use Rattle.laz_forms.specs.Pieces.{Piece, pieces_from, plain_from}
use Rattle.laz_forms.specs.Ranges.{Range, first_if, first_in, first_of, parts_if, parts_in, parts_of}
use Rattle.laz_reader.specs.Keeping.{IsSought, cuts_from, left_of}
use Rattle.laz_reader.specs.Reading.{AgreesWithHead, AreListed, IsInPlace, LiesIn, Position, ReaderSeen, StandsFor, chunks_in, pieces_left, records_in, with_range}
use Rattle.laz_forms.proofs.Public.{head_long, plain_records}
use Rattle.laz_reader.proofs.Parts.{parts_lie, taken_in}
use Rattle.laz_reader.proofs.PieceLists.{piece_taken, plain_lie}
use Rattle.laz_forms.proofs.Public.{sum-sizes}

-- ---- the numbers of a reader that has read nothing
module _ (chunk : Option ℕ) (offset points size : ℕ) (position : Position) (counts sizes : List ℕ) (l : AreListed chunk offset points counts sizes) (p : IsInPlace size position counts sizes) (unread : position.next + position.blocks ≡ position.ends.first) where
  pub no_blocks : position.blocks ≡ 0
  no_blocks = omega (arith, unread, p.first, p.batch)

  pub no_batch : position.next - position.batch ≡ 0
  no_batch = omega (arith, unread, p.first, p.batch)

  pub not_bad : position.bad ≡ false
  not_bad = by position.bad p.bad
    where
      by : (b : Bool) → (b ≡ true → (position.ends.first < position.next) × (position.next < position.ends.last)) → b ≡ false
      by true h = absurd (let few = (h refl).0 in omega (arith, unread, few))
      by false h = refl

  pub no_cuts : cuts_from position.ends position.batch (take (position.next - position.batch) (drop position.batch counts)) ≡ []
  no_cuts = ap (λ (n : ℕ). cuts_from position.ends position.batch (take n (drop position.batch counts))) no_batch

  -- of a plain file
  module _ (plain : chunk ≡ None) where
    no_counts : length counts ≡ 0
    no_counts = ap (λ (t : List ℕ). length t) (l.plain plain)

    pub no_first : position.ends.first ≡ 0
    no_first = omega (arith, p.first, p.batch, p.next, p.last, no_counts)

    pub no_next : position.next + position.blocks ≡ 0
    no_next = unread ∙ no_first

    pub plain_placed : (start stop : ℕ) → start ≤ stop → stop < 4294967296 → size ≤ 226 → offset < 4294967296
        → IsInPlace size (record position { at = offset + size * start; records = stop - start }) counts sizes
    plain_placed start stop order few small near =
        let none : sum (take (position.ends.last - position.next) (drop position.next sizes)) ≡ 0 = none_of (drop position.next sizes) (omega (arith, length-drop position.next sizes, l.same, no_counts)) in
        let all : size * start + size * (stop - start) ≡ size * stop = let e : start + (stop - start) ≡ stop = omega (arith, order) in omega (arith, ap (λ (n : ℕ). size * n) e) in
        let most : size * stop ≤ 226 * 4294967296 = mul-le-mul {n₁ = size} {m₁ = stop} {n₂ = 226} {m₂ = 4294967296} small (omega (arith, few)) in
        record {
          first = p.first;
          batch = p.batch;
          next = p.next;
          last = p.last;
          front = p.front;
          near = omega (arith, none, all, most, near);
          number = omega (arith, no_counts, no_blocks, few);
          bad = p.bad;
        }
      where
        none_of : (xs : List ℕ) → length xs ≡ 0 → sum (take (position.ends.last - position.next) xs) ≡ 0
        none_of [] e = none (position.ends.last - position.next)
          where
            none : (n : ℕ) → sum (take n []) ≡ 0
            none zero = refl
            none (suc n) = refl
        none_of (x ∷ xs) e = absurd (omega (arith, e))

-- ---- what is left to it
pub packed_sought : (chunk : Option ℕ) (head : List ℕ) (size offset : ℕ) (range : Range) (after : Position) (counts sizes : List ℕ) (pieces : List Piece) (c : ℕ) → chunk ≡ Some c → IsSought range (offset + 8) counts sizes after.ends after.at → after.next ≡ after.ends.first → pieces ≡ pieces_from (offset + 8) counts sizes
    → (pieces_left chunk size after counts sizes ≡ parts_if (is_some chunk) head offset range pieces) × (after.ends.first ≡ first_if (is_some chunk) range pieces)
packed_sought None head size offset range after counts sizes pieces c some s next is = absurd (cc)
packed_sought (Some k) head size offset range after counts sizes pieces c some s next is = (
  ap (λ (k : ℕ). left_of after.ends k after.at counts sizes) next ∙ s.left ∙ ap (parts_in range 0) (sym is),
  s.number ∙ ap (first_in range 0) (sym is),
)

pub plain_sought : (chunk : Option ℕ) (head : List ℕ) (offset : ℕ) (range : Range) (after : Position) (counts sizes : List ℕ) (pieces : List Piece) → chunk ≡ None → after.at ≡ offset + record_length_of head * range.start → after.records ≡ range.stop - range.start
    → (pieces_left chunk (record_length_of head) after counts sizes ≡ parts_if (is_some chunk) head offset range pieces) × (0 ≡ first_if (is_some chunk) range pieces)
plain_sought None head offset range after counts sizes pieces none at records = (
  ap (λ (n : ℕ). plain_from (record_length_of head) n after.records) at ∙ ap (plain_from (record_length_of head) (offset + record_length_of head * range.start)) records,
  refl,
)
plain_sought (Some c) head offset range after counts sizes pieces none at records = absurd (cc)

-- ---- it stands for its file
some_if : (b : Bool) (n : ℕ) (chunk : Option ℕ) → chunk ≡ (if b then Some n else None) → is_some chunk ≡ b
some_if true n chunk is = ap is_some is
some_if false n chunk is = ap is_some is

module _ (old : ReaderSeen) (file : List ℕ) (s : StandsFor old file) (range : Range) where
  kind : is_some old.chunk ≡ is_packed (head_of file)
  kind = some_if (is_packed (head_of file)) (chunk_size_of (head_of file)) old.chunk s.chunk

  -- the parts of the reader's chunks are those of the file's pieces
  parts_by : (b : Bool) (chunk : Option ℕ) (head : List ℕ) (offset : ℕ) → is_some chunk ≡ b → parts_if b head offset range (chunks_in chunk s.pieces) ≡ parts_if b head offset range s.pieces
  parts_by true None head offset is = absurd (cc)
  parts_by true (Some c) head offset is = refl
  parts_by false chunk head offset is = refl

  first_by : (b : Bool) (chunk : Option ℕ) → is_some chunk ≡ b → first_if b range (chunks_in chunk s.pieces) ≡ first_if b range s.pieces
  first_by true None is = absurd (cc)
  first_by true (Some c) is = refl
  first_by false chunk is = refl

  head_is : old.head.bytes ≡ head_of file
  head_is = ap (λ (h : HeadView). h.bytes) s.head

  parts_are : parts_if (is_some old.chunk) old.head.bytes (length old.head.bytes) range old.pieces ≡ parts_of file range s.pieces
  parts_are =
      ap (λ (b : Bool). parts_if b old.head.bytes (length old.head.bytes) range old.pieces) kind
      ∙ ap (λ (h : List ℕ). parts_if (is_packed (head_of file)) h (length h) range old.pieces) head_is
      ∙ ap (λ (n : ℕ). parts_if (is_packed (head_of file)) (head_of file) n range old.pieces) (head_long file s.accepted)
      ∙ ap (parts_if (is_packed (head_of file)) (head_of file) (point_offset_of file) range) s.chunks
      ∙ parts_by (is_packed (head_of file)) old.chunk (head_of file) (point_offset_of file) kind

  first_is : first_if (is_some old.chunk) range old.pieces ≡ first_of file range s.pieces
  first_is =
      ap (λ (b : Bool). first_if b range old.pieces) kind ∙ ap (first_if (is_packed (head_of file)) range) s.chunks
      ∙ first_by (is_packed (head_of file)) old.chunk kind

  lies_by : (b : Bool) → is_packed (head_of file) ≡ b → IsHead (head_of file) → range.start ≤ range.stop → range.stop ≤ points_of (head_of file) → All (LiesIn file) (parts_if b (head_of file) (point_offset_of file) range s.pieces)
  lies_by true is head order within = parts_lie (LiesIn file) range 0 s.pieces (λ p skip taken lies. lies) s.all_lie
  lies_by false is head order within =
      let size = record_length_of (head_of file) in
      let offset = point_offset_of file in
      let records = plain_records file s.accepted is head in
      let enough : offset ≤ length file = omega (arith, head_long file s.accepted, length_take_most offset file) in
      let all : size * range.start + size * (range.stop - range.start) ≡ size * range.stop = let e : range.start + (range.stop - range.start) ≡ range.stop = omega (arith, order) in omega (arith, ap (λ (n : ℕ). size * n) e) in
      plain_lie file size (offset + size * range.start) (range.stop - range.start) (omega (arith, records, length-drop offset file, enough, all, mul-le-mul_left size within))
    where
      length_take_most : (n : ℕ) (xs : List ℕ) → length (take n xs) ≤ length xs
      length_take_most zero xs = omega arith
      length_take_most (suc n) [] = omega arith
      length_take_most (suc n) (x ∷ xs) = omega (arith, length_take_most n xs)

  pub sought_stands : IsHead old.head.bytes → old.bad ≡ false → range.start ≤ range.stop → range.stop ≤ points_of old.head.bytes → StandsFor (with_range old range) file
  sought_stands head fine order within =
      let lies = lies_by (is_packed (head_of file)) refl (subst IsHead head_is head) order (omega (arith, within, ap (λ (b : List ℕ). points_of b) head_is)) in
      record {
        accepted = s.accepted;
        head = s.head;
        chunk = s.chunk;
        pieces = s.pieces;
        are = s.are;
        chunks = s.chunks;
        all_lie = s.all_lie;
        begun = omega arith;
        first = first_is;
        left =
            let first = first_if (is_some old.chunk) range old.pieces in
            let none : first - first ≡ 0 = omega arith in
            parts_are ∙ sym (ap (λ (n : ℕ). drop n (parts_of file range s.pieces)) none);
        lie = subst (λ (ps : List Piece). All (LiesIn file) ps) (sym parts_are) lies;
        bad = λ is. absurd (let never : true ≡ false = sym is ∙ fine in cc);
      }

-- ---- and has the records of the range
records_by : (chunk : Option ℕ) (head : List ℕ) (offset : ℕ) (range : Range) (place : ℕ) (counts sizes : List ℕ) → length counts ≡ length sizes → range.start ≤ range.stop → ((size : ℕ) → chunk ≡ Some size → range.stop ≤ sum counts)
    → records_in (parts_if (is_some chunk) head offset range (pieces_from place counts sizes)) ≡ range.stop - range.start
records_by None head offset range place counts sizes same order within =
    let blocks = fixed_sizes 50000 (range.stop - range.start) in
    ap sum (piece_taken (offset + record_length_of head * range.start) blocks _ (sym (length-map blocks _))) ∙ sum-sizes 50000 (range.stop - range.start) (omega arith)
records_by (Some c) head offset range place counts sizes same order within =
    taken_in range 0 place counts sizes same (omega (arith, within c refl)) ∙ omega arith

pub sought_agrees : (old : ReaderSeen) (range : Range) (place : ℕ) (counts sizes : List ℕ) → old.pieces ≡ pieces_from place counts sizes → length counts ≡ length sizes → ((size : ℕ) → old.chunk ≡ Some size → sum counts ≡ points_of old.head.bytes)
    → range.start ≤ range.stop → range.stop ≤ points_of old.head.bytes → AgreesWithHead old → AgreesWithHead (with_range old range)
sought_agrees old range place counts sizes is same points order within a = record {
  chunk = a.chunk;
  one = a.one;
  none = a.none;
  order = order;
  within = within;
  records =
      ap (λ (ps : List Piece). records_in (parts_if (is_some old.chunk) old.head.bytes (length old.head.bytes) range ps)) is
      ∙ records_by old.chunk old.head.bytes (length old.head.bytes) range place counts sizes same order (λ size some. omega (arith, within, points size some));
}
