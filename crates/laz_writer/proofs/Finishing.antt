-- The end of an output: its length, and the patches that finish it.
use Rattle.std.proofs.Common.{◌≡◌, ℕ, ◌+◌, ◌*◌, ◌/◌, ◌≤◌, ◌<◌, ◌^◌, Bool, true, false, if◌then◌else◌, List, [], ◌∷◌, ◌++◌, length, Option, Some, None, refl, sym, ◌∙◌, ap, subst, length-append, arith}
use Rattle.std.specs.Prelude.{All}
use Rattle.std.specs.List.{concat}
use Rattle.std.proofs.lemmas.List.Elements.{All-append, All-cons, All-nil}
use Rattle.std.proofs.lemmas.List.{append-nil}
use Rattle.std.proofs.lemmas.Nat.{div-mul-add}
use Rattle.std.proofs.Math.Nat.{one-le-mul}
use Rattle.std.specs.Option.{ForSome}
use Rattle.las_header.specs.Plain.{cut_records}
use Rattle.byteorder.specs.Endian.{little_bytes}
use Rattle.las_header.specs.declared.counts.Counts.{Counts}
use Rattle.las_header.specs.Counting.{counts_bytes, long_counts_bytes, with_counts}
use Rattle.las_header.specs.Fields.{format_of, has_long_counts}
use Rattle.las_header.specs.Heads.{IsHead}
use Rattle.las_outside.specs.Drafts.{Patch}
use Rattle.las_header.specs.Limits.{IsChunkSize}
use Rattle.las_points.specs.Tally.{counts_of}
use Rattle.laz_chunk.specs.Layouts.{Format}
use Rattle.laz_table.specs.Payload.{laszip_payload}
use Rattle.laz_table.specs.VlrCauses.{extra_of}
use Rattle.laz_forms.specs.Outputs.{Output, counts_patches, draft_of, finished, unfinished_head, front, front_written, patches_of, pointer_patches, points_written, records_after}
use Rattle.laz_forms.specs.Packing.{blocks_of, chunk_blocks, chunks_of, packed_head, table_after}
use Rattle.las_outside.specs.Outside.{Outside, with_bytes}
use Rattle.laz_writer.specs.Writing.{ChunksStand, IsPlanOf, IsTally, PackingSeen, Plan, PointsStand, Stands, WriterSeen, first_packing, record_size, written_head, all_chunks, block_size, every_chunk, pointer_patch, tally_patches}
use Rattle.laz_forms.specs.Packing.{format_in}
use Rattle.laz_forms.proofs.Public.{length-counted, packed_long, packed_longer}
use Rattle.laz_forms.proofs.Public.{LiesIn, length-with_patches}
use Rattle.laz_forms.proofs.Public.{long-size, short-size}
use Rattle.laz_writer.proofs.Pushing.{block_size_is, zero_packed}

-- the patches of the counts that a writer keeps
pub tally_is : (counted : Bool) (counts : Option Counts) (long : Bool) (head : List ℕ) (records : List (List ℕ)) → IsTally counted counts records → long ≡ has_long_counts head
    → tally_patches long counts ≡ (if counted then counts_patches head (counts_of records) else [])
tally_is true None long head records t same = absurd t
tally_is true (Some c) long head records t same = ap (λ (b : Bool). tally_patches b (Some c)) same ∙ ap (λ (x : Counts). counts_patches head x) t.0
tally_is false None long head records t same = refl
tally_is false (Some c) long head records t same = absurd t

-- a head with counts of zero is as long as before, packed or not
pub first_size : (head : List ℕ) (counted : Bool) → IsHead head → length (if counted then with_counts (counts_of []) head else head) ≡ length head
first_size head false is = refl
first_size head true is = length-counted head (counts_bytes (counts_of [])) (long_counts_bytes (counts_of [])) (omega (arith, is.block)) is.long_block (short-size []) (long-size [])

pub first_packed_size : (head : List ℕ) (chunk : ℕ) (counted : Bool) → IsHead head → length (packed_head (if counted then with_counts (counts_of []) head else head) chunk) ≡ length (packed_head head chunk)
first_packed_size head chunk false is = refl
first_packed_size head chunk true is =
    let payload = laszip_payload (format_of head) (extra_of head) chunk in
    let longer = packed_longer payload head is in
    ap (λ (t : List ℕ). length t) (sym (zero_packed head chunk is))
    ∙ length-counted (packed_head head chunk) (counts_bytes (counts_of [])) (long_counts_bytes (counts_of [])) (omega (arith, longer, is.block))
    (λ four. let far = is.long_block (sym (packed_long payload head is) ∙ four) in omega (arith, longer, far)) (short-size []) (long-size [])

-- the length of a front
pub front_plain : (out : Output) → IsHead out.head → out.chunk ≡ None → length (front out) ≡ length out.head
front_plain out is c = ap (λ (k : Option ℕ). length (front_written k (unfinished_head out))) c ∙ first_size out.head out.counted is

pub front_packed : (out : Output) (chunk : ℕ) → IsHead out.head → out.chunk ≡ Some chunk → length (front out) ≡ length (packed_head out.head chunk) + 8
front_packed out chunk is c =
    let first = packed_head (unfinished_head out) chunk in
    ap (λ (k : Option ℕ). length (front_written k (unfinished_head out))) c ∙ length-append first (little_bytes 8 (length first)) ∙ ap (λ (n : ℕ). n + 8) (first_packed_size out.head chunk out.counted is)

-- a front is at least as long as the head
front_least : (out : Output) → IsHead out.head → length out.head ≤ length (front out)
front_least out is = by out.chunk refl
  where
    by : (k : Option ℕ) → out.chunk ≡ k → length out.head ≤ length (front out)
    by None c = omega (arith, front_plain out is c)
    by (Some k) c = omega (arith, front_packed out k is c, packed_longer (laszip_payload (format_of out.head) (extra_of out.head) k) out.head is)

draft_least : (out : Output) (records : List ℕ) → length (front out) ≤ length (draft_of out records)
draft_least out records = omega (arith, length-append (front out) (points_written out.chunk out.head records))

-- each patch of an output lies within its draft
module _ (out : Output) (records : List ℕ) (is : IsHead out.head) where
  long_fit : (b : Bool) → has_long_counts out.head ≡ b → All (LiesIn (draft_of out records)) (if b then (247, long_counts_bytes (counts_of (records_after out.head records))) ∷ [] else [])
  long_fit false which = All-nil (LiesIn (draft_of out records))
  long_fit true which =
      let far = is.long_block which in
      All-cons (LiesIn (draft_of out records)) (247, long_counts_bytes (counts_of (records_after out.head records))) [] (omega (arith, far, front_least out is, draft_least out records, long-size (records_after out.head records))) (All-nil (LiesIn (draft_of out records)))

  counts_fit : (b : Bool) → All (LiesIn (draft_of out records)) (if b then counts_patches out.head (counts_of (records_after out.head records)) else [])
  counts_fit false = All-nil (LiesIn (draft_of out records))
  counts_fit true =
      All-cons (LiesIn (draft_of out records)) (107, counts_bytes (counts_of (records_after out.head records)))
      (if has_long_counts out.head then (247, long_counts_bytes (counts_of (records_after out.head records))) ∷ [] else [])
      (omega (arith, is.block, front_least out is, draft_least out records, short-size (records_after out.head records))) (long_fit (has_long_counts out.head) refl)

  pointer_fits : (k : Option ℕ) → out.chunk ≡ k → All (LiesIn (draft_of out records)) (pointer_patches k out.head records)
  pointer_fits None c = All-nil (LiesIn (draft_of out records))
  pointer_fits (Some k) c =
      All-cons (LiesIn (draft_of out records)) (length (packed_head out.head k), little_bytes 8 (table_after out.head k (chunks_of out.head (chunk_blocks out.head records k)))) []
      (omega (arith, front_packed out k is c, draft_least out records)) (All-nil (LiesIn (draft_of out records)))

  pub patches_fit : All (LiesIn (draft_of out records)) (patches_of out records)
  patches_fit =
      All-append (LiesIn (draft_of out records)) (if out.counted then counts_patches out.head (counts_of (records_after out.head records)) else []) (pointer_patches out.chunk out.head records)
      (counts_fit out.counted) (pointer_fits out.chunk refl)

  -- so a finished output is as long as its draft
  pub finished_size : length (finished out records) ≡ length (draft_of out records)
  finished_size = length-with_patches (draft_of out records) (patches_of out records) patches_fit

-- the pointer of a packed output
pub pointer_is : (head : List ℕ) (chunk most : ℕ) (plan : Plan) (records : List ℕ) (at table : ℕ) → IsHead head → IsPlanOf head chunk most plan → at ≡ plan.pointer → table ≡ plan.pointer + 8 + length (every_chunk plan records)
    → pointer_patch (Some (at, table)) ≡ pointer_patches (Some chunk) head records
pointer_is head chunk most plan records at table is p here there =
    let every : every_chunk plan records ≡ concat (chunks_of head (chunk_blocks head records chunk)) =
    ap (λ (f : Format). all_chunks f (blocks_of (block_size plan) records)) p.format ∙ ap (λ (n : ℕ). all_chunks (format_in head) (blocks_of n records)) (block_size_is head is chunk most plan p) in
    let place : at ≡ length (packed_head head chunk) = here ∙ p.pointer in
    let value : table ≡ table_after head chunk (chunks_of head (chunk_blocks head records chunk)) = omega (arith, there, p.pointer, ap (λ (t : List ℕ). length t) every) in
    ap (λ (n : ℕ). pointer_patch (Some (n, table))) place ∙ ap (λ (n : ℕ). pointer_patch (Some (length (packed_head head chunk), n))) value

-- the list of patches that a writer makes
pub list_is : (before now : Outside) (w v : WriterSeen) (out : Output) (records : List ℕ) (list : List Patch) (pointer : Option (ℕ × ℕ)) → Stands before now w out records → v ≡ record w { packing = v.packing }
    → list ≡ tally_patches v.long_counts v.counts ++ pointer_patch pointer → pointer_patch pointer ≡ pointer_patches out.chunk out.head records → list ≡ patches_of out records
list_is before now w v out records list pointer s same is there =
    is ∙ ap (λ (x : WriterSeen). tally_patches x.long_counts x.counts ++ pointer_patch pointer) same
    ∙ ap (λ (t : List Patch). t ++ pointer_patch pointer) (tally_is out.counted w.counts w.long_counts out.head (records_after out.head records) s.tally s.long)
    ∙ ap (λ (t : List Patch). (if out.counted then counts_patches out.head (counts_of (records_after out.head records)) else []) ++ t) there

-- An output that begins stands for no records.
pub begins : (before new : Outside) (out : Output) (most pointer workers : ℕ) (packing : Option PackingSeen) → IsHead out.head → new ≡ with_bytes before out.name (front out) → packing ≡ first_packing out.head most pointer workers out.chunk
    → pointer ≡ length (written_head out.chunk (unfinished_head out)) → ForSome out.chunk IsChunkSize → most < 2 ^ 32 → pointer < 2 ^ 32 → 0 < workers → PointsStand out.chunk before new out most packing []
begins before new out most pointer workers packing is file kept place sizes few near hands = by out.chunk refl kept place sizes
  where
    held : new ≡ with_bytes before out.name (front out ++ [])
    held = file ∙ ap (with_bytes before out.name) (sym (append-nil (front out)))

    by : (k : Option ℕ) → out.chunk ≡ k → packing ≡ first_packing out.head most pointer workers k → pointer ≡ length (written_head k (unfinished_head out)) → ForSome k IsChunkSize → PointsStand k before new out most packing []
    by None form p at sizes = subst (λ (q : Option PackingSeen). PointsStand None before new out most q []) (sym p) held
    by (Some k) form p at sizes =
        let plan : Plan = record { format = format_in out.head; chunk = k; most = most; pointer = pointer; workers = workers } in
        let q : PackingSeen = record { plan = plan; lengths = []; kept = []; rest = [] } in
        let range : IsChunkSize k = sizes k refl in
        let long : 1 ≤ record_size plan * k = one-le-mul (omega arith) (omega (arith, range.0)) in
        let stands : ChunksStand before new out k most q [] = record {
          plan = record { format = refl; chunk_is = refl; most_is = refl; pointer = at ∙ first_packed_size out.head k out.counted is };
          few = omega (arith, hands);
          stands = record {
            done = [];
            file = held;
            whole = refl;
            full = tt;
            short = omega (arith, long);
            lengths = refl;
            within = omega arith;
            numbers = record { size = range; most = few; near = near };
          };
        } in
        subst (λ (x : Option PackingSeen). PointsStand (Some k) before new out most x []) (sym p) stands

-- no records are cut of nothing
pub no_records : (size : ℕ) → 0 < size → cut_records size (0 / size) [] ≡ []
no_records size some =
    let same : 0 ≡ 0 * size + 0 = omega arith in
    ap (λ (n : ℕ). cut_records size n []) (ap (λ (n : ℕ). n / size) same ∙ div-mul-add 0 size 0 some)
