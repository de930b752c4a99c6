-- Which file is accepted, and by which cause a file is refused, from what was read of it.
use Rattle.std.proofs.Common.{◌≡◌, ℕ, ◌+◌, ◌-◌, ◌*◌, ◌≤◌, nat_lt, ltb-false, Bool, true, false, if◌then◌else◌, not, ◌&&◌, List, [], ◌∷◌, ◌++◌, length, take, drop, Option, Some, None, refl, sym, ◌∙◌, ap, subst, arith}
use Rattle.std.specs.Prelude.{sum, All, ◌==◌}
use Rattle.std.proofs.lemmas.List.{length-take-le}
use Rattle.las_header.specs.declared.refusal.Refusal.{Refusal}
use Rattle.las_header.specs.declared.refusal.Refusal.TheVariants as cause
use Rattle.las_header.specs.Conditions.{Condition, IsFirst, conditions}
use Rattle.las_header.specs.Fields.{format_of, head_of, is_packed, minor_of, point_offset_of, points_of, record_length_of}
use Rattle.las_header.specs.Heads.{HeadView}
use Rattle.las_header.specs.Refusals.{causes_of, counted_size, first_cause, front_causes, head_causes, or_else}
use Rattle.las_header.proofs.Public.{IsAcceptedHead, IsFront, accepted_front, accepted_head, first_of_both, least_any, none_first, IsFirst-append_none, IsFirst-append_some, IsFirst-tests, number_at-take}
use Rattle.laz_table.specs.declared.chunks.Blocks.{Blocks}
use Rattle.laz_table.specs.Chunks.{IsAccepted, table_causes}
use Rattle.laz_table.specs.VlrCauses.{chunk_size_of, extra_of, is_counted, lacks_vlr, payload_causes, payload_of, vlr_causes}
use Rattle.las_header.specs.Vlrs.{laszip_vlrs_of}
use Rattle.std.proofs.lemmas.Bool.{eqb-true, not-false}
use Rattle.laz_table.specs.declared.chunks.Blocks.TheVariants.{Fixed, Counted}
use Rattle.laz_forms.specs.Pieces.{ArePieces, ArePiecesIf, pieces_from, plain_from}
use Rattle.laz_reader.specs.Reading.{IsHeadOf, IsTablePlace, LiesIn, pieces_listed, points_listed}
use Rattle.laz_forms.specs.Refusing.{IsAcceptedFile, IsRefusal, blocks_in, chunk_causes, chunks_place, has_bad_pointer, table_end, table_part, table_place, tested_causes}
use Rattle.laz_reader.proofs.PieceLists.{pieces_lie, plain_lie}

-- the first of joined conditions, of which the first ones are tests
by_tests : (tests : List (Bool × Refusal)) (others : List Condition) (c : Refusal) → first_cause tests ≡ Some c → IsFirst (conditions tests ++ others) (Some c)
by_tests tests others c is = IsFirst-append_some (conditions tests) others c (subst (λ (o : Option Refusal). IsFirst (conditions tests) o) is (IsFirst-tests tests))

after_tests : (tests : List (Bool × Refusal)) (others : List Condition) (answer : Option Refusal) → first_cause tests ≡ None → IsFirst others answer → IsFirst (conditions tests ++ others) answer
after_tests tests others answer none is = IsFirst-append_none (conditions tests) others answer (subst (λ (o : Option Refusal). IsFirst (conditions tests) o) none (IsFirst-tests tests)) is

module _ (file : List ℕ) where
  abbrev rest : Bool → List (Bool × Refusal)
  rest b = if b then vlr_causes (head_of file) ++ (has_bad_pointer file, cause.TablePointer) ∷ [] else []

  tested : (b : Bool) → is_packed (head_of file) ≡ b → first_cause (tested_causes file) ≡ or_else (first_cause (causes_of file)) (first_cause (rest b))
  tested b e = first_of_both (causes_of file) (rest (is_packed (head_of file))) ∙ ap (λ (x : Bool). or_else (first_cause (causes_of file)) (first_cause (rest x))) e

  pub refused_head : (c : Refusal) → first_cause (causes_of file) ≡ Some c → IsRefusal file (Some c)
  refused_head c is = by_tests (tested_causes file) (chunk_causes (is_packed (head_of file)) file) c
      (first_of_both (causes_of file) (rest (is_packed (head_of file))) ∙ ap (λ (o : Option Refusal). or_else o (first_cause (rest (is_packed (head_of file))))) is)

  module _ (head : HeadView) (h : IsHeadOf file head) where
    front : IsFront file (length file)
    front = accepted_front file (length file) (none_left (first_cause (front_causes file (length file))) _ (sym (first_of_both (front_causes file (length file)) (head_causes (head_of file) (length file))) ∙ h.none))
      where
        none_left : (a b : Option Refusal) → or_else a b ≡ None → a ≡ None
        none_left None b is = refl
        none_left (Some c) b is = absurd (cc)

    accepted : IsAcceptedHead (head_of file) (length file)
    accepted = accepted_head (head_of file) (length file) (none_right (first_cause (front_causes file (length file))) _ (sym (first_of_both (front_causes file (length file)) (head_causes (head_of file) (length file))) ∙ h.none))
      where
        none_right : (a b : Option Refusal) → or_else a b ≡ None → b ≡ None
        none_right None b is = is
        none_right (Some c) b is = absurd (cc)

    least : 227 ≤ point_offset_of file
    least = omega (arith, front.header_size, front.after, least_any (minor_of file))

    pub head_long : length head.bytes ≡ point_offset_of file
    head_long = ap (λ (b : List ℕ). length b) h.bytes ∙ length-take-le (point_offset_of file) file front.within

    same_offset : point_offset_of (head_of file) ≡ point_offset_of file
    same_offset = number_at-take 4 96 (point_offset_of file) file (omega (arith, least))

    pub offset_same : point_offset_of head.bytes ≡ point_offset_of file
    offset_same = ap point_offset_of h.bytes ∙ same_offset

    none_packed : is_packed head.bytes ≡ true → first_cause (tested_causes file) ≡ or_else (first_cause (vlr_causes head.bytes)) (first_cause ((has_bad_pointer file, cause.TablePointer) ∷ []))
    none_packed packed =
        tested true (ap is_packed (sym h.bytes) ∙ packed) ∙ ap (λ (o : Option Refusal). or_else o (first_cause (rest true))) h.none ∙ first_of_both (vlr_causes (head_of file)) ((has_bad_pointer file, cause.TablePointer) ∷ [])
        ∙ ap (λ (b : List ℕ). or_else (first_cause (vlr_causes b)) (first_cause ((has_bad_pointer file, cause.TablePointer) ∷ []))) (sym h.bytes)

    pub refused_vlr : (c : Refusal) → is_packed head.bytes ≡ true → first_cause (vlr_causes head.bytes) ≡ Some c → IsRefusal file (Some c)
    refused_vlr c packed is = by_tests (tested_causes file) (chunk_causes (is_packed (head_of file)) file) c (none_packed packed ∙ ap (λ (o : Option Refusal). or_else o (first_cause ((has_bad_pointer file, cause.TablePointer) ∷ []))) is)

    module _ (packed : is_packed head.bytes ≡ true) (vlr : first_cause (vlr_causes head.bytes) ≡ None) where
      after_vlr : first_cause (tested_causes file) ≡ first_cause ((has_bad_pointer file, cause.TablePointer) ∷ [])
      after_vlr = none_packed packed ∙ ap (λ (o : Option Refusal). or_else o (first_cause ((has_bad_pointer file, cause.TablePointer) ∷ []))) vlr

      pub refused_pointer : has_bad_pointer file ≡ true → IsRefusal file (Some cause.TablePointer)
      refused_pointer bad = by_tests (tested_causes file) (chunk_causes (is_packed (head_of file)) file) cause.TablePointer (after_vlr ∙ ap (λ (b : Bool). first_cause ((b, cause.TablePointer) ∷ [])) bad)

      module _ (start end total offset : ℕ) (blocks : Blocks) (place : IsTablePlace file start end) (blocks_are : blocks ≡ blocks_in head.bytes) (offset_is : offset ≡ point_offset_of head.bytes) (total_is : total ≡ start - (offset + 8)) where
        total_place : total ≡ table_place file - chunks_place file
        total_place = total_is ∙ ap (λ (n : ℕ). start - (n + 8)) (offset_is ∙ offset_same) ∙ ap (λ (n : ℕ). n - chunks_place file) place.starts

        part_same : drop start (take end file) ≡ table_part file
        part_same = ap (λ (n : ℕ). drop start (take n file)) place.ends ∙ ap (λ (n : ℕ). drop n (take (table_end file) file)) place.starts

        blocks_same : blocks ≡ blocks_in (head_of file)
        blocks_same = blocks_are ∙ ap blocks_in h.bytes

        pub refused_table : (answer : Option Refusal) → IsFirst (table_causes (drop start (take end file)) blocks total) answer → IsRefusal file answer
        refused_table answer is =
            let one = subst (λ (b : List ℕ). IsFirst (table_causes b blocks total) answer) part_same is in
            let two = subst (λ (b : Blocks). IsFirst (table_causes (table_part file) b total) answer) blocks_same one in
            let three = subst (λ (n : ℕ). IsFirst (table_causes (table_part file) (blocks_in (head_of file)) n) answer) total_place two in
            after_tests (tested_causes file) (chunk_causes (is_packed (head_of file)) file) answer (after_vlr ∙ ap (λ (b : Bool). first_cause ((b, cause.TablePointer) ∷ [])) place.fine)
            (subst (λ (b : Bool). IsFirst (chunk_causes b file) answer) (sym (ap is_packed (sym h.bytes) ∙ packed)) three)

        pub accepted_packed : (chunk : ℕ) (counts sizes : List ℕ) → IsAccepted (drop start (take end file)) blocks total counts sizes → IsAcceptedFile file × ArePieces file (pieces_listed (Some chunk) head.bytes counts sizes)
        accepted_packed chunk counts sizes a =
            let one = subst (λ (b : List ℕ). IsAccepted b blocks total counts sizes) part_same a in
            let two = subst (λ (b : Blocks). IsAccepted (table_part file) b total counts sizes) blocks_same one in
            let three = subst (λ (n : ℕ). IsAccepted (table_part file) (blocks_in (head_of file)) n counts sizes) total_place two in (
              refused_table None a.fine,
              subst (λ (b : Bool). ArePiecesIf b file (pieces_listed (Some chunk) head.bytes counts sizes)) (sym (ap is_packed (sym h.bytes) ∙ packed))
                  (counts, sizes, three, ap (λ (n : ℕ). pieces_from (n + 8) counts sizes) head_long),
            )

        pub packed_lie : (chunk : ℕ) (counts sizes : List ℕ) → offset + 8 ≤ start → start ≤ length file → sum sizes ≡ total → All (LiesIn file) (pieces_listed (Some chunk) head.bytes counts sizes)
        packed_lie chunk counts sizes before within whole =
            pieces_lie file (length head.bytes + 8) counts sizes (omega (arith, before, within, whole, total_is, head_long, offset_is, offset_same))

    pub accepted_plain : is_packed head.bytes ≡ false → IsAcceptedFile file × ArePieces file (pieces_listed None head.bytes [] [])
    accepted_plain plain =
        let is : is_packed (head_of file) ≡ false = ap is_packed (sym h.bytes) ∙ plain in (
          after_tests (tested_causes file) (chunk_causes (is_packed (head_of file)) file) None (tested false is ∙ ap (λ (o : Option Refusal). or_else o None) h.none)
              (subst (λ (b : Bool). IsFirst (chunk_causes b file) None) (sym is) refl),
          subst (λ (b : Bool). ArePiecesIf b file (pieces_listed None head.bytes [] [])) (sym is)
              (ap (λ (b : List ℕ). plain_from (record_length_of b) (length head.bytes) (points_of b)) h.bytes ∙ ap (λ (n : ℕ). plain_from (record_length_of (head_of file)) n (points_of (head_of file))) head_long),
        )

    pub plain_lies : is_packed head.bytes ≡ false → All (LiesIn file) (pieces_listed None head.bytes [] [])
    plain_lies plain =
        let is : is_packed (head_of file) ≡ false = ap is_packed (sym h.bytes) ∙ plain in
        let enough = ltb-false (length file - point_offset_of (head_of file)) (counted_size (head_of file)) (ap (λ (b : Bool). not b && nat_lt (length file - point_offset_of (head_of file)) (counted_size (head_of file))) (sym is) ∙ accepted.early) in
        let size : record_length_of head.bytes * points_of head.bytes ≡ counted_size (head_of file) = ap counted_size h.bytes in
        plain_lie file (record_length_of head.bytes) (length head.bytes) (points_of head.bytes) (omega (arith, enough, size, head_long, same_offset, front.within))

-- what a head says of the chunks of its table
pub blocks_as : (head : List ℕ) (chunk points : ℕ) (blocks : Blocks) → blocks ≡ (if is_counted chunk then Counted points else Fixed chunk points) → chunk ≡ chunk_size_of head → points ≡ points_of head → blocks ≡ blocks_in head
blocks_as head chunk points blocks is chunk_is points_are =
    is ∙ ap (λ (n : ℕ). if is_counted n then Counted points else Fixed n points) chunk_is ∙ ap (λ (n : ℕ). if is_counted (chunk_size_of head) then Counted n else Fixed (chunk_size_of head) n) points_are

points_if : (counted : Bool) (chunk points : ℕ) → points_listed (if counted then Counted points else Fixed chunk points) ≡ points
points_if true chunk points = refl
points_if false chunk points = refl

pub points_as : (chunk points : ℕ) → points_listed (if is_counted chunk then Counted points else Fixed chunk points) ≡ points
points_as chunk points = points_if (is_counted chunk) chunk points

-- a packed head that is not refused for its laszip VLR has one
pub one_vlr : (head : List ℕ) → first_cause (vlr_causes head) ≡ None → length (laszip_vlrs_of head) ≡ 1
one_vlr head none =
    let first = none_first (lacks_vlr head) cause.NoVlr (payload_causes (format_of head) (extra_of head) (points_of head) (payload_of head)) none in
    eqb-true (length (laszip_vlrs_of head)) 1 (not-false (length (laszip_vlrs_of head) == 1) first.0)
