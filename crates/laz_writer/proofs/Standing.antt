-- What an output and its packing stand for, from call to call.
use Rattle.std.proofs.Common.{◌≡◌, ℕ, zero, suc, ◌+◌, ◌-◌, ◌*◌, ◌<◌, ◌≤◌, min, List, [], ◌∷◌, ◌++◌, length, take, drop, map, sym, ◌∙◌, ap, subst, append_assoc, length-append, arith}
use Rattle.std.specs.Prelude.{All}
use Rattle.std.specs.List.{concat}
use Rattle.std.proofs.lemmas.List.{append-nil, length-drop, length-take, take_min, take-append-le, length-take-le, take-append-drop, take_rest}
use Rattle.std.proofs.Math.Seq.{take-append-add}
use Rattle.std.proofs.Math.Nat.{le_of_mul-le-mul_left, mul-le-mul_left}
use Rattle.las_outside.specs.Outside.{Outside, with_bytes}
use Rattle.laz_chunk.specs.Chunks.{chunk_bytes}
use Rattle.laz_chunk.specs.Layouts.{Format, layout}
use Rattle.laz_writer.specs.Writing.{AreFull, IsBlock, IsPlan, PackedStands, PackingSeen, Plan, Took, all_chunks, block_size, chunks, full_blocks, full_chunks, record_size}
use Rattle.laz_writer.proofs.Cutting.{AreFull-append, AreFull-back, Splits, full_blocks_are, full_blocks_more, length_full, rest_of}
use Rattle.laz_forms.proofs.Public.{concat-append, joined-append, sizes-append}

pub all_chunks-append : (f : Format) (xs ys : List (List ℕ)) → all_chunks f (xs ++ ys) ≡ all_chunks f xs ++ all_chunks f ys
all_chunks-append f xs ys = joined-append (λ (b : List ℕ). chunk_bytes (layout f) b) xs ys

pub sizes-chunks : (f : Format) (xs ys : List (List ℕ)) → map (λ (t : List ℕ). length t) (chunks f (xs ++ ys)) ≡ map (λ (t : List ℕ). length t) (chunks f xs) ++ map (λ (t : List ℕ). length t) (chunks f ys)
sizes-chunks f xs ys = sizes-append (λ (b : List ℕ). chunk_bytes (layout f) b) xs ys

-- How an output stands, over plain lists.
module _ (before now : Outside) (name front : List ℕ) (p : PackingSeen) (records : List ℕ) (s : PackedStands before now name front p records) where
  pub split : Splits (block_size p.plan) records (s.done ++ p.kept) p.rest
  split = record { whole = s.whole; full = s.full; short = s.short }

  -- what a call leaves that ends within the chunks of the blocks that were kept back
  pub stopped_in : (n : ℕ) → (m : ℕ) × ((front ++ all_chunks p.plan.format s.done) ++ take n (all_chunks p.plan.format p.kept) ≡ take m (front ++ full_chunks p.plan records))
  stopped_in n =
      let f = p.plan.format in
      let text = front ++ all_chunks f s.done in
      let whole : front ++ full_chunks p.plan records ≡ text ++ all_chunks f p.kept =
      ap (λ (t : List (List ℕ)). front ++ all_chunks f t) (full_blocks_are (block_size p.plan) records (s.done ++ p.kept) p.rest split)
      ∙ ap (λ (t : List ℕ). front ++ t) (all_chunks-append f s.done p.kept)
      ∙ sym (append_assoc front (all_chunks f s.done) (all_chunks f p.kept)) in
      (length text + n, sym (ap (take (length text + n)) whole ∙ take-append-add text (all_chunks f p.kept) n))

  -- all full blocks are appended
  pub flushed_text : (front ++ all_chunks p.plan.format s.done) ++ all_chunks p.plan.format p.kept ≡ front ++ full_chunks p.plan records
  flushed_text =
      let f = p.plan.format in
      append_assoc front (all_chunks f s.done) (all_chunks f p.kept)
      ∙ ap (λ (t : List ℕ). front ++ t) (sym (all_chunks-append f s.done p.kept))
      ∙ ap (λ (t : List (List ℕ)). front ++ all_chunks f t) (sym (full_blocks_are (block_size p.plan) records (s.done ++ p.kept) p.rest split))

  pub flushed : (after : Outside) (q : PackingSeen) → after ≡ with_bytes before name ((front ++ all_chunks p.plan.format s.done) ++ all_chunks p.plan.format p.kept)
      → q ≡ record p { lengths = p.lengths ++ map (λ (t : List ℕ). length t) (chunks p.plan.format p.kept); kept = [] } → PackedStands before after name front q records
  flushed after q file is =
      let f = p.plan.format in
      let blocks = s.done ++ p.kept in
      let r : PackingSeen = record p { lengths = p.lengths ++ map (λ (t : List ℕ). length t) (chunks f p.kept); kept = [] } in
      let all : blocks ++ [] ≡ blocks = append-nil blocks in
      let stands : PackedStands before after name front r records = record {
        done = blocks;
        file = file ∙ ap (with_bytes before name) (append_assoc front (all_chunks f s.done) (all_chunks f p.kept) ∙ ap (λ (t : List ℕ). front ++ t) (sym (all_chunks-append f s.done p.kept)));
        whole = s.whole ∙ ap (λ (t : List (List ℕ)). concat t ++ p.rest) (sym all);
        full = subst (AreFull (block_size p.plan)) (sym all) s.full;
        short = s.short;
        lengths = ap (λ (t : List ℕ). t ++ map (λ (c : List ℕ). length c) (chunks f p.kept)) s.lengths ∙ sym (sizes-chunks f s.done p.kept);
        within = s.within;
        numbers = s.numbers;
      } in
      subst (λ (x : PackingSeen). PackedStands before after name front x records) (sym is) stands

  -- some records more
  pub took_in : (q : PackingSeen) (piece : List ℕ) → Took p q piece → length records + length piece ≤ record_size p.plan * p.plan.most → PackedStands before now name front q (records ++ piece)
  took_in q piece t room =
      let kept = s.done ++ p.kept in
      let all : kept ++ t.blocks ≡ s.done ++ q.kept = append_assoc s.done p.kept t.blocks ∙ ap (λ (b : List (List ℕ)). s.done ++ b) (sym t.kept) in
      record {
        done = s.done;
        file = s.file ∙ ap (λ (x : Plan). with_bytes before name (front ++ all_chunks x.format s.done)) (sym t.plan);
        whole = ap (λ (b : List ℕ). b ++ piece) s.whole ∙ append_assoc (concat kept) p.rest piece ∙ ap (λ (b : List ℕ). concat kept ++ b) (sym t.whole)
            ∙ sym (append_assoc (concat kept) (concat t.blocks) q.rest) ∙ ap (λ (b : List ℕ). b ++ q.rest) (sym (concat-append kept t.blocks) ∙ ap (λ (b : List (List ℕ)). concat b) all);
        full = subst (λ (x : Plan). AreFull (block_size x) (s.done ++ q.kept)) (sym t.plan) (subst (AreFull (block_size p.plan)) all (AreFull-append (block_size p.plan) kept t.blocks s.full t.full));
        short = subst (λ (x : Plan). length q.rest < block_size x) (sym t.plan) t.short;
        lengths = t.lengths ∙ s.lengths ∙ ap (λ (x : Plan). map (λ (c : List ℕ). length c) (chunks x.format s.done)) (sym t.plan);
        within = subst (λ (x : Plan). length (records ++ piece) ≤ record_size x * x.most) (sym t.plan) (omega (arith, length-append records piece, room));
        numbers = subst IsPlan (sym t.plan) s.numbers;
      }

  -- full blocks are blocks
  pub size_of_all : length records ≡ length (s.done ++ p.kept) * block_size p.plan + length p.rest
  size_of_all = ap (λ (t : List ℕ). length t) s.whole ∙ length-append (concat (s.done ++ p.kept)) p.rest ∙ ap (λ (n : ℕ). n + length p.rest) (length_full (block_size p.plan) (s.done ++ p.kept) s.full)

  pub kept_blocks : All (IsBlock p.plan) p.kept
  kept_blocks = each (s.done ++ p.kept) p.kept size_of_all (AreFull-back (block_size p.plan) s.done p.kept s.full) (omega (arith, length-append s.done p.kept))
    where
      each : (all blocks : List (List ℕ)) → length records ≡ length all * block_size p.plan + length p.rest → AreFull (block_size p.plan) blocks → length blocks ≤ length all → All (IsBlock p.plan) blocks
      each all [] size f more k d lt = absurd (omega (arith, lt))
      each all (b ∷ bs) size f more zero d lt =
          let one : 1 ≤ length all = omega (arith, more) in
          let first : block_size p.plan * 1 ≤ block_size p.plan * length all = mul-le-mul_left (block_size p.plan) one in
          let least : record_size p.plan * p.plan.chunk ≤ record_size p.plan * p.plan.most = omega (arith, first, size, s.within) in
          record {
            count = p.plan.chunk;
            some = omega (arith, s.numbers.size.0);
            few = omega arith;
            within = le_of_mul-le-mul_left least (omega arith);
            size = f.0;
          }
      each all (b ∷ bs) size f more (suc k) d lt = each all bs size f.1 (omega (arith, more)) k d (omega (arith, lt))

-- a prefix of what stands is one of what stands with more records
pub prefix_more : (plan : Plan) (front xs ys : List ℕ) (n : ℕ) → 0 < block_size plan → (m : ℕ) × (take n (front ++ full_chunks plan xs) ≡ take m (front ++ full_chunks plan (xs ++ ys)))
prefix_more plan front xs ys n some =
    let f = plan.format in
    let size = block_size plan in
    let text = front ++ full_chunks plan xs in
    let more = all_chunks f (full_blocks size (rest_of size xs ++ ys)) in
    let whole : front ++ full_chunks plan (xs ++ ys) ≡ text ++ more =
    ap (λ (t : List (List ℕ)). front ++ all_chunks f t) (full_blocks_more size xs ys some)
    ∙ ap (λ (t : List ℕ). front ++ t) (all_chunks-append f (full_blocks size xs) (full_blocks size (rest_of size xs ++ ys)))
    ∙ sym (append_assoc front (all_chunks f (full_blocks size xs)) more) in
    let m = min n (length text) in
    let short : m ≤ length text = omega arith in
    (m, sym (take_min n text) ∙ sym (take-append-le m text more short) ∙ ap (take m) (sym whole))

pub piece_more : (bytes records : List ℕ) (at n : ℕ) → at ≤ length records → (bytes ++ take at records) ++ take n (drop at records) ≡ bytes ++ take (at + n) records
piece_more bytes records at n within =
    append_assoc bytes (take at records) (take n (drop at records))
    ∙ ap (λ (t : List ℕ). bytes ++ t) (sym (take-append-add (take at records) (drop at records) n) ∙ ap (take (length (take at records) + n)) (take-append-drop at records) ∙ ap (λ (k : ℕ). take (k + n) records) (length-take-le at records within))

-- what is left if a call stops after some of its records
pub stopped_within : (plan : Plan) (front bytes records : List ℕ) (at n : ℕ) → 0 < block_size plan → (m : ℕ) × (take n (front ++ full_chunks plan (bytes ++ take at records)) ≡ take m (front ++ full_chunks plan (bytes ++ records)))
stopped_within plan front bytes records at n some =
    let p = prefix_more plan front (bytes ++ take at records) (drop at records) n some in
    (p.0, p.1 ∙ ap (λ (t : List ℕ). take p.0 (front ++ full_chunks plan t)) (append_assoc bytes (take at records) (drop at records) ∙ ap (λ (t : List ℕ). bytes ++ t) (take-append-drop at records)))

-- what stands of an output at any time is a prefix of its front and the chunks of all full blocks
pub stands_within : (before now : Outside) (name front : List ℕ) (p : PackingSeen) (bytes records : List ℕ) (at : ℕ) → PackedStands before now name front p (bytes ++ take at records)
    → (n : ℕ) × (now ≡ with_bytes before name (take n (front ++ full_chunks p.plan (bytes ++ records))))
stands_within before now name front p bytes records at s =
    let some : 0 < block_size p.plan = omega (arith, s.short) in
    let q = stopped_in before now name front p (bytes ++ take at records) s 0 in
    let r = stopped_within p.plan front bytes records at q.0 some in
    (r.0, s.file ∙ ap (with_bytes before name) (sym (append-nil (front ++ all_chunks p.plan.format s.done)) ∙ q.1 ∙ r.1))

-- the rest of a slice, as code takes it
pub took_rest : (p q : PackingSeen) (n : ℕ) (records : List ℕ) (at : ℕ) → Took p q (take n (take (length records - at) (drop at records))) → Took p q (take n (drop at records))
took_rest p q n records at t = subst (λ (piece : List ℕ). Took p q (take n piece)) (take_rest records at) t

-- at most one block is kept back more
pub few_more : (p q : PackingSeen) (piece : List ℕ) → Took p q piece → length q.kept ≤ length p.kept + 1
few_more p q piece t = omega (arith, ap (λ (b : List (List ℕ)). length b) t.kept, length-append p.kept t.blocks, t.count)

-- One step of a call that adds records.
module _ (p0 p q : PackingSeen) (same : p.plan ≡ p0.plan) (before now : Outside) (name front bytes records : List ℕ) (at n : ℕ) (s : PackedStands before now name front p (bytes ++ take at records)) (t : Took p q (take n (take (length records - at) (drop at records)))) (more : at < length records) (room : length bytes + length records ≤ record_size p0.plan * p0.plan.most) where
  pub next : PackedStands before now name front q (bytes ++ take (at + n) records)
  next =
      let fits : length bytes + length records ≤ record_size p.plan * p.plan.most = subst (λ (x : Plan). length bytes + length records ≤ record_size x * x.most) (sym same) room in
      let piece = take n (drop at records) in
      let sizes : length (bytes ++ take at records) + length piece ≤ length bytes + length records = omega (arith, length-append bytes (take at records), length-take-le at records (omega (arith, more)), length-take n (drop at records), length-drop at records) in
      subst (λ (b : List ℕ). PackedStands before now name front q b) (piece_more bytes records at n (omega (arith, more)))
      (took_in before now name front p (bytes ++ take at records) s q piece (took_rest p q n records at t) (omega (arith, sizes, fits)))

  pub next_plan : q.plan ≡ p0.plan
  next_plan = t.plan ∙ same

  -- the step ends with a fault before the chunks of all full blocks are appended
  pub next_within : (k : ℕ) → (m : ℕ) × (take k (front ++ full_chunks q.plan (bytes ++ take (at + n) records)) ≡ take m (front ++ full_chunks p0.plan (bytes ++ records)))
  next_within k =
      let u = next in
      let b = stopped_within q.plan front bytes records (at + n) k (omega (arith, u.short)) in
      (b.0, b.1 ∙ ap (λ (x : Plan). take b.0 (front ++ full_chunks x (bytes ++ records))) next_plan)
