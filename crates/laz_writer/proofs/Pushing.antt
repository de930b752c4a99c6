-- What an output and its writer stand for, and the definitions of outputs.
use Rattle.std.proofs.Common.{◌≡◌, ℕ, ◌+◌, ◌*◌, ◌/◌, ◌%◌, ◌<◌, ◌≤◌, ◌^◌, Bool, true, false, List, [], ◌++◌, length, map, Option, Some, None, refl, sym, ◌∙◌, ap, subst, length-append, arith}
use Rattle.std.proofs.lemmas.List.{append-nil, drop_all}
use Rattle.std.proofs.Math.Nat.{div-add-mod, le_of_mul-le-mul_left, mul-div-le}
use Rattle.las_header.specs.declared.counts.Counts.{Counts}
use Rattle.las_header.specs.Counting.{counts_bytes, long_counts_bytes, with_counts}
use Rattle.las_header.specs.Fields.{format_of, record_length_of}
use Rattle.las_header.specs.Heads.{IsHead}
use Rattle.las_header.specs.Plain.{cut_records}
use Rattle.las_header.proofs.Public.{cut_length}
use Rattle.las_outside.specs.Outside.{Outside, with_bytes}
use Rattle.las_points.specs.Tally.{IsWithinPoints, counts_of}
use Rattle.laz_chunk.specs.Chunks.{chunk_bytes}
use Rattle.laz_chunk.specs.Layouts.{Format, layout, record_length}
use Rattle.laz_table.specs.Payload.{laszip_payload}
use Rattle.laz_table.specs.VlrCauses.{extra_of}
use Rattle.laz_forms.specs.Outputs.{Output, front, front_written, full_points, points_written, records_after, stopped}
use Rattle.laz_forms.specs.Packing.{packed_head, packed_points}
use Rattle.laz_writer.specs.Writing.{ChunksStand, IsPlanOf, IsTally, PackingSeen, Plan, PointsStand, Stands, WriterSeen, all_chunks, block_size, full_blocks, full_chunks, packed_text, pointer_part, record_size, written_head}
use Rattle.laz_forms.specs.Packing.{format_in}
use Rattle.laz_forms.proofs.Public.{counted_format, counted_lengths, counted_packed}
use Rattle.laz_writer.proofs.Cutting.{full_blocks_more, rest_of}
use Rattle.laz_forms.proofs.Public.{head-by, long-size, short-size}
use Rattle.laz_forms.proofs.Public.{record_is, record_least, whole_both}

module _ (head : List ℕ) (is : IsHead head) (chunk most : ℕ) (plan : Plan) (p : IsPlanOf head chunk most plan) where
  pub record_size_is : record_size plan ≡ record_length_of head
  record_size_is = ap (λ (f : Format). record_length (layout f)) p.format ∙ record_is head is

  pub block_size_is : block_size plan ≡ record_length_of head * chunk
  block_size_is = ap (λ (n : ℕ). n * plan.chunk) record_size_is ∙ ap (λ (n : ℕ). record_length_of head * n) p.chunk_is

  -- what full blocks give
  pub full_is : (records : List ℕ) → full_chunks plan records ≡ full_points (Some chunk) head records
  full_is records =
      ap (λ (f : Format). all_chunks f (full_blocks (block_size plan) records)) p.format
      ∙ ap (λ (n : ℕ). all_chunks (format_in head) (full_blocks n records)) block_size_is

  -- and what all of them give, with their table
  pub packed_is : (records : List ℕ) → packed_text plan records ≡ points_written (Some chunk) head records
  packed_is records =
      ap (λ (f : Format). packed_points (map (chunk_bytes (layout f)) (Rattle.laz_forms.specs.Packing.blocks_of (block_size plan) records))) p.format
      ∙ ap (λ (n : ℕ). packed_points (map (chunk_bytes (layout (format_in head))) (Rattle.laz_forms.specs.Packing.blocks_of n records))) block_size_is

-- an output that stands for records holds some text
pub text_of : (chunk : Option ℕ) (before now : Outside) (out : Output) (most : ℕ) (packing : Option PackingSeen) (records : List ℕ) → PointsStand chunk before now out most packing records
    → (text : List ℕ) × (now ≡ with_bytes before out.name text)
text_of None before now out most None records s = (front out ++ records, s)
text_of None before now out most (Some p) records s = absurd s
text_of (Some chunk) before now out most None records s = absurd s
text_of (Some chunk) before now out most (Some p) records s = (front out ++ all_chunks p.plan.format s.stands.done, s.stands.file)

-- whole records, cut one by one, with more records after them
pub cut-append : (size : ℕ) (xs ys : List ℕ) → 0 < size → length xs % size ≡ 0 → cut_records size (length (xs ++ ys) / size) (xs ++ ys) ≡ cut_records size (length xs / size) xs ++ cut_records size (length ys / size) ys
cut-append size xs ys some whole =
    let all : size * (length xs / size) ≡ length xs = omega (arith, div-add-mod (length xs) size, whole) in
    let none : rest_of size xs ≡ [] = drop_all (size * (length xs / size)) xs (omega (arith, all)) in
    full_blocks_more size xs ys some ∙ ap (λ (r : List ℕ). full_blocks size xs ++ full_blocks size (r ++ ys)) none

-- counts of zero are set before or after the head is packed
pub zero_packed : (head : List ℕ) (chunk : ℕ) → IsHead head → with_counts (counts_of []) (packed_head head chunk) ≡ packed_head (with_counts (counts_of []) head) chunk
zero_packed head chunk is =
    let none = counts_of [] in
    let short = counts_bytes none in
    let long = long_counts_bytes none in
    sym (
    head-by (format_of head) (record_length_of head) (with_counts none head) chunk (counted_format head short long is (short-size []) (long-size [])) (counted_lengths head short long is (short-size []) (long-size []))
    ∙ counted_packed head short long is (short-size []) (long-size []) (laszip_payload (format_of head) (extra_of head) chunk))

-- A plain output and a packed one, by the packing of its writer.
module _ (chunk : Option ℕ) (before now : Outside) (out : Output) (most : ℕ) (packing : Option PackingSeen) (records : List ℕ) where
  pub plain_points : PointsStand chunk before now out most packing records → packing ≡ None → (chunk ≡ None) × (now ≡ with_bytes before out.name (front out ++ records))
  plain_points s none = by chunk packing s none
    where
      by : (k : Option ℕ) (p : Option PackingSeen) → PointsStand k before now out most p records → p ≡ None → (k ≡ None) × (now ≡ with_bytes before out.name (front out ++ records))
      by None None s e = (refl, s)
      by None (Some p) s e = absurd s
      by (Some k) None s e = absurd s
      by (Some k) (Some p) s e = absurd (let clash : Some p ≡ None = e in cc)

  pub packed_points_of : (p : PackingSeen) → PointsStand chunk before now out most packing records → packing ≡ Some p → (k : ℕ) × (chunk ≡ Some k) × ChunksStand before now out k most p records
  packed_points_of p s some = by chunk packing s some
    where
      by : (k : Option ℕ) (q : Option PackingSeen) → PointsStand k before now out most q records → q ≡ Some p → (n : ℕ) × (k ≡ Some n) × ChunksStand before now out n most p records
      by None None s e = absurd (let clash : None ≡ Some p = e in cc)
      by None (Some q) s e = absurd s
      by (Some k) None s e = absurd s
      by (Some k) (Some q) s e = let same : q ≡ p = cc in (k, refl, subst (λ (x : PackingSeen). ChunksStand before now out k most x records) same s)

  pub plain_stands : chunk ≡ None → packing ≡ None → now ≡ with_bytes before out.name (front out ++ records) → PointsStand chunk before now out most packing records
  plain_stands c p is = subst (λ (k : Option ℕ). PointsStand k before now out most packing records) (sym c) (subst (λ (q : Option PackingSeen). PointsStand None before now out most q records) (sym p) is)

  pub packed_stands : (k : ℕ) (p : PackingSeen) → chunk ≡ Some k → packing ≡ Some p → ChunksStand before now out k most p records → PointsStand chunk before now out most packing records
  packed_stands k p c some s = subst (λ (o : Option ℕ). PointsStand o before now out most packing records) (sym c) (subst (λ (q : Option PackingSeen). PointsStand (Some k) before now out most q records) (sym some) s)

-- what stands of a stopped output, by its form
pub stopped_plain : (out : Output) (records : List ℕ) → out.chunk ≡ None → stopped out records ≡ front out ++ records
stopped_plain out records c = ap (λ (k : Option ℕ). front out ++ full_points k out.head records) c

pub stopped_packed : (out : Output) (chunk most : ℕ) (plan : Plan) (records : List ℕ) → IsHead out.head → IsPlanOf out.head chunk most plan → out.chunk ≡ Some chunk → stopped out records ≡ front out ++ full_chunks plan records
stopped_packed out chunk most plan records is p c =
    ap (λ (k : Option ℕ). front out ++ full_points k out.head records) c ∙ ap (λ (t : List ℕ). front out ++ t) (sym (full_is out.head is chunk most plan p records))

-- the same of a head in the form in which it is written
pub zero_written : (chunk : Option ℕ) (head : List ℕ) → IsHead head → with_counts (counts_of []) (written_head chunk head) ≡ written_head chunk (with_counts (counts_of []) head)
zero_written None head is = refl
zero_written (Some k) head is = zero_packed head k is

-- a front is a head in its form, and a pointer if it is packed
pub front_is : (chunk : Option ℕ) (head : List ℕ) → front_written chunk head ≡ written_head chunk head ++ pointer_part (Rattle.std.specs.Prelude.is_some chunk) (written_head chunk head)
front_is None head = sym (append-nil head)
front_is (Some k) head = refl

-- fewer records than a number of 32 bits has values
pub few_records : (size m n most : ℕ) → 0 < size → most < 2 ^ 32 → m + n ≤ size * most → m / size + n / size < 2 ^ 32
few_records size m n most some few within =
    let both : size * (m / size + n / size) ≡ size * (m / size) + size * (n / size) = omega arith in
    let less : size * (m / size + n / size) ≤ size * most = omega (arith, both, mul-div-le m size, mul-div-le n size, within) in
    omega (arith, le_of_mul-le-mul_left less some, few)

-- A writer that has room for some records counts fewer than 2^32 with them.
pub few_taken : (before now : Outside) (w : WriterSeen) (out : Output) (bytes records : List ℕ) → Stands before now w out bytes → w.taken + length records ≤ w.size * w.most → length (records_after out.head bytes) + length records / w.size < 2 ^ 32
few_taken before now w out bytes records s most =
    let head = record_length_of out.head in
    let room : length bytes + length records ≤ w.size * w.most = omega (arith, most, s.taken) in
    let some : 0 < w.size = omega (arith, s.size, record_least out.head s.head) in
    let size : length bytes / head ≡ length bytes / w.size = ap (λ n. length bytes / n) (sym s.size) in
    omega (arith, cut_length head (length bytes / head) bytes, size, few_records w.size (length bytes) (length records) w.most some s.few room)

-- A writer that took some records more stands for them too.
pub pushed : (before old new : Outside) (w v : WriterSeen) (out : Output) (bytes records : List ℕ) (packing : Option PackingSeen) (counts : Option Counts) → Stands before old w out bytes → length records % w.size ≡ 0 → w.taken + length records ≤ w.size * w.most
    → v ≡ record w { taken = w.taken + length records; counts = counts; packing = packing } → PointsStand out.chunk before new out w.most packing (bytes ++ records)
    → IsTally out.counted counts (records_after out.head bytes ++ cut_records w.size (length records / w.size) records) → Stands before new v out (bytes ++ records)
pushed before old new w v out bytes records packing counts s whole room is points tally =
    let x : WriterSeen = record w { taken = w.taken + length records; counts = counts; packing = packing } in
    let size = record_length_of out.head in
    let both = length-append bytes records in
    let even : length records % size ≡ 0 = subst (λ (n : ℕ). length records % n ≡ 0) s.size whole in
    let cut : records_after out.head bytes ++ cut_records w.size (length records / w.size) records ≡ records_after out.head (bytes ++ records) =
    ap (λ (n : ℕ). records_after out.head bytes ++ cut_records n (length records / n) records) s.size ∙ sym (cut-append size bytes records (omega (arith, record_least out.head s.head)) s.whole) in
    let stands : Stands before new x out (bytes ++ records) = record {
      head = s.head;
      named = s.named;
      start = s.start;
      size = s.size;
      few = s.few;
      taken = omega (arith, both, s.taken);
      whole = ap (λ (n : ℕ). n % size) both ∙ whole_both size (length bytes) (length records) s.whole even;
      within = subst (λ (n : ℕ). length (bytes ++ records) ≤ n * w.most) s.size (omega (arith, both, room, s.taken));
      long = s.long;
      tally = subst (IsTally out.counted counts) cut tally;
      points = points;
    } in
    subst (λ (y : WriterSeen). Stands before new y out (bytes ++ records)) (sym is) stands

-- the counts of more records
pub tally_more : (counted : Bool) (old : Option Counts) (c0 c1 : Counts) (before more : List (List ℕ)) → old ≡ Some c0 → IsTally counted old before → ((xs : List (List ℕ)) → c0 ≡ counts_of xs → c1 ≡ counts_of (xs ++ more)) → IsWithinPoints c1
    → IsTally counted (Some c1) (before ++ more)
tally_more true None c0 c1 before more is t list within = absurd t
tally_more true (Some c) c0 c1 before more is t list within = let same : c ≡ c0 = cc in (list before (sym same ∙ t.0), within)
tally_more false None c0 c1 before more is t list within = absurd (let clash : None ≡ Some c0 = is in cc)
tally_more false (Some c) c0 c1 before more is t list within = absurd t
