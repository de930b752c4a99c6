-- What is known of an accepted packed file: its head, and its chunks.
use Rattle.std.proofs.Common.{◌≡◌, inl, inr, ℕ, ◌+◌, ◌-◌, ◌<◌, ◌≤◌, ◌==◌, ◌&&◌, min, not, nat_lt, ltb-false, sum, Bool, true, false, cond, List, [], ◌∷◌, ◌++◌, length, map, take, drop, None, refl, sym, ap, subst, ◌∙◌, arith}
use Rattle.std.specs.List.{AllByRecursion, concat}
use Rattle.std.proofs.lemmas.Bool.{cases_lt, eq-eqb, or_parts, true≢false}
use Rattle.std.proofs.lemmas.List.{length-take-le}
use Rattle.las_header.specs.declared.refusal.Refusal.{Refusal}
use Rattle.las_header.specs.declared.refusal.Refusal.TheVariants as cause
use Rattle.las_header.specs.Conditions.{conditions}
use Rattle.las_header.specs.Fields.{format_of, head_of, is_packed, minor_of, point_offset_of, points_of}
use Rattle.las_header.specs.Heads.{IsHead}
use Rattle.las_header.specs.Refusals.{causes_of, first_cause, front_causes, head_causes}
use Rattle.las_header.specs.Vlrs.{laszip_vlrs_of}
use Rattle.las_header.proofs.Public.{accepted_front, accepted_head, can_read, front_decides, is_head, least_any, none_first, points_fit, first_is_tested, number_at-take}
use Rattle.las_header.proofs.Public.{limit-bound}
use Rattle.laz_range.specs.Span.{IsBytes}
use Rattle.laz_range.proofs.Public.{IsBytes-take}
use Rattle.laz_table.specs.declared.chunks.Blocks.{Blocks}
use Rattle.laz_table.specs.declared.chunks.Blocks.TheVariants.{Fixed, Counted}
use Rattle.laz_table.specs.Chunks.{HasChunkSize, IsAccepted, IsCountedSize}
use Rattle.laz_table.specs.Laws.{AreWords}
use Rattle.laz_table.specs.VlrCauses.{chunk_count, chunk_size_of, extra_of, is_bad_chunk_size, is_counted, lacks_vlr, makes_many_chunks, payload_causes, payload_of, vlr_causes}
use Rattle.laz_forms.specs.Pieces.{ArePieces, ArePiecesIf, Piece}
use Rattle.laz_reader.specs.Reading.{AreFewChunks, points_listed}
use Rattle.laz_forms.specs.Refusing.{IsAcceptedFile, blocks_in, chunk_causes, chunks_place, has_bad_pointer, has_last_pointer, table_end, table_part, table_place, tested_causes}
use Rattle.laz_forms.proofs.Public.{IsFirst-none, both_none}
use Rattle.laz_reader.proofs.Public.{one_vlr, accepted_lists, accepted_points}
use Rattle.laz_copied.specs.Copied.{byte_lists_in, chunk_at}
use Rattle.laz_copied.proofs.Chunks.{chunks_joined, piece_sizes, sizes_listed}
use Rattle.laz_copied.proofs.Payloads.{IsPayload, payload_known}
use Rattle.laz_copied.proofs.Tables.{IsChunkSizeOf, accepted_range, table_words}

-- ---- an accepted packed file
pub record IsPackedFront (file : List ℕ) : Type 0 where
  pub long : length (head_of file) ≡ point_offset_of file
  pub near : length (head_of file) ≤ 16777216
  pub one : length (laszip_vlrs_of (head_of file)) ≡ 1
  pub vlr : first_cause (vlr_causes (head_of file)) ≡ None
  pub payload : IsPayload (format_of (head_of file)) (extra_of (head_of file)) (points_of (head_of file)) (payload_of (head_of file))
  pub pointer : has_bad_pointer file ≡ false

chosen : (b : Bool) (xs : List (Bool × Refusal)) → b ≡ true → first_cause (cond b xs []) ≡ None → first_cause xs ≡ None
chosen true xs e none = none
chosen false xs e none = absurd (cc)

module _ (file : List ℕ) (accepted : IsAcceptedFile file) (packed : is_packed (head_of file) ≡ true) where
  abbrev last : List (Bool × Refusal)
  last = (has_bad_pointer file, cause.TablePointer) ∷ []

  none : first_cause (tested_causes file) ≡ None
  none = sym (first_is_tested (tested_causes file) None (IsFirst-none (conditions (tested_causes file)) (chunk_causes (is_packed (head_of file)) file) accepted).0)

  both : (first_cause (causes_of file) ≡ None) × (first_cause (cond (is_packed (head_of file)) (vlr_causes (head_of file) ++ last) []) ≡ None)
  both = both_none (causes_of file) (cond (is_packed (head_of file)) (vlr_causes (head_of file) ++ last) []) none

  more : (first_cause (vlr_causes (head_of file)) ≡ None) × (first_cause last ≡ None)
  more = both_none (vlr_causes (head_of file)) last (chosen (is_packed (head_of file)) (vlr_causes (head_of file) ++ last) packed both.1)

  causes : (first_cause (front_causes file (length file)) ≡ None) × (first_cause (head_causes (head_of file) (length file)) ≡ None)
  causes = both_none (front_causes file (length file)) (head_causes (head_of file) (length file)) both.0

  pub packed_front_known : IsPackedFront file
  packed_front_known =
      let head = head_of file in
      let front = accepted_front file (length file) causes.0 in
      let long : length head ≡ point_offset_of file = length-take-le (point_offset_of file) file front.within in
      let shape = none_first (lacks_vlr head) cause.NoVlr (payload_causes (format_of head) (extra_of head) (points_of head) (payload_of head)) more.0 in
      record {
        long = long;
        near = omega (arith, front.near, long, limit-bound (is_packed file));
        one = one_vlr head more.0;
        vlr = more.0;
        payload = payload_known (format_of head) (extra_of head) (points_of head) (payload_of head) shape.1;
        pointer = (none_first (has_bad_pointer file) cause.TablePointer [] more.1).0;
      }

  head_known : IsBytes file → IsHead (head_of file)
  head_known bytes =
      let size = length file in
      let offset = point_offset_of file in
      let head = head_of file in
      let front = accepted_front file size causes.0 in
      let fine = accepted_head head size causes.1 in
      let least : 227 ≤ offset = omega (arith, front.header_size, front.after, least_any (minor_of file)) in
      let front_none : first_cause (front_causes (take 227 file) size) ≡ None = ap first_cause (front_decides file size) ∙ causes.0 in
      let can = can_read file offset size least front.within front_none (sym (number_at-take 4 96 227 file (omega arith))) in
      is_head head size (points_fit head (IsBytes-take offset file bytes) fine.counts) can.accepted can.whole causes.1

-- and its head, if it is made of bytes
pub record IsPackedFile (file : List ℕ) : Type 0 where
  pub front : IsPackedFront file
  pub head : IsHead (head_of file)
  pub bytes : IsBytes (head_of file)

pub packed_file_known : (file : List ℕ) → IsAcceptedFile file → is_packed (head_of file) ≡ true → IsBytes file → IsPackedFile file
packed_file_known file accepted packed bytes = record {
  front = packed_front_known file accepted packed;
  head = head_known file accepted packed bytes;
  bytes = IsBytes-take (point_offset_of file) file bytes;
}

-- ---- what its head says of the chunks
by_kind : (b : Bool) (chunk points : ℕ) → is_counted chunk ≡ b → is_bad_chunk_size points chunk ≡ false → IsChunkSizeOf (cond b (Counted points) (Fixed chunk points))
by_kind true chunk points e fine = tt
by_kind false chunk points e fine =
    let parts = or_parts (chunk == 0) (not (is_counted chunk) && nat_lt 250000 (min chunk points)) fine in
    let few : nat_lt 250000 (min chunk points) ≡ false = ap (λ (b : Bool). not b && nat_lt 250000 (min chunk points)) (sym e) ∙ parts.1 in
    (some chunk parts.0, ltb-false 250000 (min chunk points) few)
  where
    some : (n : ℕ) → (n == 0) ≡ false → 0 < n
    some n zero_not = elim (cases_lt 0 n) [
      | inl more ↦ more
      | inr none ↦ let is : n ≡ 0 = omega (arith, none) in absurd (true≢false (sym (eq-eqb n 0 is) ∙ zero_not))
    ]

few_by : (b : Bool) (chunk points : ℕ) → is_counted chunk ≡ b → makes_many_chunks points chunk ≡ false → AreFewChunks (cond b (Counted points) (Fixed chunk points))
few_by true chunk points e fine n count = omega (arith, count)
few_by false chunk points e fine n count =
    let few : nat_lt 16777216 (chunk_count points chunk) ≡ false = ap (λ (b : Bool). not b && nat_lt 16777216 (chunk_count points chunk)) (sym e) ∙ fine in
    omega (arith, count, ltb-false 16777216 (chunk_count points chunk) few)

has_size : (blocks : Blocks) → IsChunkSizeOf blocks → HasChunkSize blocks
has_size (Fixed chunk points) h = h.0
has_size (Counted points) h = tt

points_by : (b : Bool) (chunk points : ℕ) → points_listed (cond b (Counted points) (Fixed chunk points)) ≡ points
points_by true chunk points = refl
points_by false chunk points = refl

-- ---- its chunks
pub record IsListed (file : List ℕ) (counts sizes : List ℕ) : Type 0 where
  pub same : length counts ≡ length sizes
  pub words : AreWords sizes
  pub range : AllByRecursion IsCountedSize counts
  pub points : sum counts ≡ points_of (head_of file)
  pub lie : chunks_place file + sum sizes ≤ length file

end-within : (b : Bool) (n : ℕ) → cond b (n - 8) n ≤ n
end-within true n = omega arith
end-within false n = omega arith

pub listed : (file : List ℕ) (p : IsPackedFront file) (counts sizes : List ℕ) → IsAccepted (table_part file) (blocks_in (head_of file)) (table_place file - chunks_place file) counts sizes → IsListed file counts sizes
listed file p counts sizes a =
    let head = head_of file in
    let chunk = chunk_size_of head in
    let points = points_of head in
    let blocks = blocks_in head in
    let kind = by_kind (is_counted chunk) chunk points refl p.payload.chunk in
    let few = few_by (is_counted chunk) chunk points refl p.payload.many in
    let lists = accepted_lists (table_part file) blocks (table_place file - chunks_place file) counts sizes few a in
    let first = or_parts _ _ p.pointer in
    let second = or_parts _ _ first.0 in
    let place : chunks_place file ≤ table_place file = ltb-false (table_place file) (chunks_place file) second.1 in
    let end : table_place file ≤ table_end file = ltb-false (table_end file) (table_place file) first.1 in
    record {
      same = lists.same;
      words = table_words (table_part file) (length sizes) _ a.coded sizes a.table.begins.holds;
      range = accepted_range (table_part file) blocks (table_place file - chunks_place file) counts sizes kind a;
      points = accepted_points (table_part file) blocks (table_place file - chunks_place file) counts sizes (has_size blocks kind) a ∙ points_by (is_counted chunk) chunk points;
      lie = omega (arith, lists.whole, place, end, end-within (has_last_pointer file) (length file));
    }

-- ---- its chunks, as pieces
pub record IsChunked (file : List ℕ) (pieces : List Piece) : Type 0 where
  pub sizes : map length (byte_lists_in (map (chunk_at file) pieces)) ≡ map (λ p. p.size) pieces
  pub joined : concat (byte_lists_in (map (chunk_at file) pieces)) ≡ take (sum (map (λ p. p.size) pieces)) (drop (chunks_place file) file)
  pub lie : chunks_place file + sum (map (λ p. p.size) pieces) ≤ length file

chunked_if : (packed : Bool) (file : List ℕ) → IsPackedFront file → (pieces : List Piece) → packed ≡ true → ArePiecesIf packed file pieces → IsChunked file pieces
chunked_if false file p pieces e are = absurd (cc)
chunked_if true file p pieces e are =
    let l = listed file p are.0 are.1 are.2 in
    let at = chunks_place file in
    let sizes = piece_sizes at are.0 are.1 l.same in
    subst (λ (ps : List Piece). IsChunked file ps) (sym are.3)
    (record {
      sizes = sizes_listed file at are.0 are.1 l.same l.lie ∙ sym sizes;
      joined = chunks_joined file at are.0 are.1;
      lie = subst (λ (ns : List ℕ). chunks_place file + sum ns ≤ length file) (sym sizes) l.lie;
    })

pub chunked : (file : List ℕ) (pieces : List Piece) → IsAcceptedFile file → is_packed (head_of file) ≡ true → ArePieces file pieces → IsChunked file pieces
chunked file pieces accepted packed are = chunked_if (is_packed (head_of file)) file (packed_front_known file accepted packed) pieces packed are
