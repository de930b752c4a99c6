-- The two forms of an output, as the calls of a writer tell them apart.
use Rattle.std.proofs.Common.{◌≡◌, ℕ, ◌+◌, ◌*◌, ◌%◌, ◌≤◌, ◌<◌, List, ◌++◌, length, take, Option, Some, None, sym, ◌∙◌, ap, subst, append_assoc, arith}
use Rattle.std.proofs.Math.Seq.{take-append-add}
use Rattle.las_outside.specs.Outside.{Outside, with_bytes}
use Rattle.laz_forms.specs.Outputs.{Output, draft_of, front, points_written, stopped}
use Rattle.laz_writer.specs.Writing.{ChunksStand, PackedStands, PackingSeen, Plan, PointsStand, Stands, WriterSeen, all_chunks, full_chunks, packed_text, record_size}
use Rattle.laz_writer.proofs.Pushing.{packed_is, packed_points_of, packed_stands, plain_points, plain_stands, record_size_is, stopped_packed, stopped_plain, text_of}
use Rattle.laz_writer.proofs.Standing.{flushed_text, stopped_in}

-- what an output holds
pub held_text : (before now : Outside) (w : WriterSeen) (out : Output) (bytes : List ℕ) → Stands before now w out bytes → (text : List ℕ) × (now ≡ with_bytes before out.name text)
held_text before now w out bytes s = text_of out.chunk before now out w.most w.packing bytes s.points

-- A plain output.
module _ (before now : Outside) (w : WriterSeen) (out : Output) (bytes : List ℕ) (s : Stands before now w out bytes) (none : w.packing ≡ None) where
  plain : (out.chunk ≡ None) × (now ≡ with_bytes before out.name (front out ++ bytes))
  plain = plain_points out.chunk before now out w.most w.packing bytes s.points none

  pub plain_form : out.chunk ≡ None
  plain_form = plain.0

  pub plain_text : now ≡ with_bytes before out.name (front out ++ bytes)
  plain_text = plain.1

  pub plain_more : (new : Outside) (packing : Option PackingSeen) (records : List ℕ) → packing ≡ None → new ≡ with_bytes before out.name ((front out ++ bytes) ++ records) → PointsStand out.chunk before new out w.most packing (bytes ++ records)
  plain_more new packing records still is =
      plain_stands out.chunk before new out w.most packing (bytes ++ records) plain.0 still (is ∙ ap (with_bytes before out.name) (append_assoc (front out) bytes records))

  pub plain_part : (records : List ℕ) (n : ℕ) → (m : ℕ) × ((front out ++ bytes) ++ take n records ≡ take m (stopped out (bytes ++ records)))
  plain_part records n =
      let text = front out ++ bytes in
      (length text + n, sym (take-append-add text records n) ∙ ap (take (length text + n)) (append_assoc (front out) bytes records ∙ sym (stopped_plain out (bytes ++ records) plain.0)))

  -- it is stopped as it stands, and its draft too
  pub plain_stopped : now ≡ with_bytes before out.name (stopped out bytes)
  plain_stopped = plain.1 ∙ ap (with_bytes before out.name) (sym (stopped_plain out bytes plain.0))

  pub plain_draft : front out ++ bytes ≡ draft_of out bytes
  plain_draft = ap (λ (k : Option ℕ). front out ++ points_written k out.head bytes) (sym plain.0)

-- A packed output.
module _ (before now : Outside) (w : WriterSeen) (out : Output) (bytes : List ℕ) (p : PackingSeen) (s : Stands before now w out bytes) (some : w.packing ≡ Some p) where
  pub packed_form : (k : ℕ) × (out.chunk ≡ Some k) × ChunksStand before now out k w.most p bytes
  packed_form = packed_points_of out.chunk before now out w.most w.packing bytes p s.points some

  pub packed_room : (n : ℕ) → n ≤ w.size * w.most → n ≤ record_size p.plan * p.plan.most
  packed_room n room =
      let size : record_size p.plan ≡ w.size = record_size_is out.head s.head packed_form.0 w.most p.plan packed_form.2.plan ∙ sym s.size in
      let all : record_size p.plan * p.plan.most ≡ w.size * w.most = ap (λ (k : ℕ). k * p.plan.most) size ∙ ap (λ (k : ℕ). w.size * k) packed_form.2.plan.most_is in
      omega (arith, all, room)

  pub packed_even : length bytes % record_size p.plan ≡ 0
  packed_even = subst (λ (n : ℕ). length bytes % n ≡ 0) (sym (record_size_is out.head s.head packed_form.0 w.most p.plan packed_form.2.plan)) s.whole

  pub packed_more : (new : Outside) (packing : Option PackingSeen) (q : PackingSeen) (records : List ℕ) → packing ≡ Some q → q.plan ≡ p.plan → length q.kept < 2 * q.plan.workers → PackedStands before new out.name (front out) q (bytes ++ records)
      → PointsStand out.chunk before new out w.most packing (bytes ++ records)
  packed_more new packing q records still same few stands =
      let form = packed_form.2.plan in
      packed_stands out.chunk before new out w.most packing (bytes ++ records) packed_form.0 q packed_form.1 still (record {
        plan = record {
          format = ap (λ (x : Plan). x.format) same ∙ form.format;
          chunk_is = ap (λ (x : Plan). x.chunk) same ∙ form.chunk_is;
          most_is = ap (λ (x : Plan). x.most) same ∙ form.most_is;
          pointer = ap (λ (x : Plan). x.pointer) same ∙ form.pointer;
        };
        few = few;
        stands = stands;
      })

  -- what full chunks make of it, and what all of them do
  pub packed_stopped : (records : List ℕ) → front out ++ full_chunks p.plan records ≡ stopped out records
  packed_stopped records = sym (stopped_packed out packed_form.0 w.most p.plan records s.head packed_form.2.plan packed_form.1)

  pub packed_draft : front out ++ packed_text p.plan bytes ≡ draft_of out bytes
  packed_draft =
      ap (λ (t : List ℕ). front out ++ t) (packed_is out.head s.head packed_form.0 w.most p.plan packed_form.2.plan bytes)
      ∙ ap (λ (k : Option ℕ). front out ++ points_written k out.head bytes) (sym packed_form.1)

  -- the chunks of the blocks that are kept back
  pub kept_text : (front out ++ all_chunks p.plan.format packed_form.2.stands.done) ++ all_chunks p.plan.format p.kept ≡ stopped out bytes
  kept_text = flushed_text before now out.name (front out) p bytes packed_form.2.stands ∙ packed_stopped bytes

  pub kept_part : (n : ℕ) → (m : ℕ) × ((front out ++ all_chunks p.plan.format packed_form.2.stands.done) ++ take n (all_chunks p.plan.format p.kept) ≡ take m (stopped out bytes))
  kept_part n =
      let m = stopped_in before now out.name (front out) p bytes packed_form.2.stands n in
      (m.0, m.1 ∙ ap (take m.0) (packed_stopped bytes))
