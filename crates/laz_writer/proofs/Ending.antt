-- What a packed output holds at its end.
use Rattle.std.proofs.Common.{◌≡◌, ℕ, zero, suc, ◌+◌, ◌*◌, ◌/◌, ◌%◌, ◌^◌, ◌<◌, ◌≤◌, min, List, [], ◌∷◌, ◌++◌, length, take, map, sum, refl, sym, ◌∙◌, ap, subst, append_assoc, length-append, arith}
use Rattle.std.specs.Prelude.{All}
use Rattle.std.specs.List.{sum_by}
use Rattle.std.proofs.lemmas.List.{append-nil, take_at, take_min, take-append-le}
use Rattle.std.proofs.lemmas.List.Elements.{All-append}
use Rattle.std.proofs.lemmas.List.Sums.{sum_by-cons, sum-map}
use Rattle.std.proofs.Math.Seq.{take-append-add}
use Rattle.std.proofs.Math.Nat.{div-add-mod, le_of_mul-le-mul_left, mul-add-mod_self_right, mul-le-mul_left}
use Rattle.las_outside.specs.Outside.{Outside, with_bytes}
use Rattle.laz_chunk.specs.Chunks.{chunk_bytes}
use Rattle.laz_chunk.specs.Layouts.{Format, layout}
use Rattle.laz_table.specs.Table.{table_bytes}
use Rattle.laz_forms.specs.Packing.{blocks_of}
use Rattle.laz_writer.specs.Writing.{IsBlock, PackedStands, PackingSeen, Plan, all_chunks, block_size, chunks, every_chunk, packed_text, record_size}
use Rattle.laz_writer.proofs.Cutting.{blocks_are, no_block, one_block}
use Rattle.laz_writer.proofs.Standing.{all_chunks-append, kept_blocks, size_of_all, sizes-chunks, split}

-- no block is kept back of nothing
pub keeps_none : (p : PackingSeen) → 0 < block_size p.plan → (0 < length p.rest → ⊥) → p ≡ record p { kept = p.kept ++ blocks_of (block_size p.plan) p.rest; rest = [] }
keeps_none p some none = nothing p.rest refl none
  where
    nothing : (rest : List ℕ) → p.rest ≡ rest → (0 < length p.rest → ⊥) → p ≡ record p { kept = p.kept ++ blocks_of (block_size p.plan) p.rest; rest = [] }
    nothing [] is none =
        let blocks : p.kept ++ blocks_of (block_size p.plan) p.rest ≡ p.kept = ap (λ (r : List ℕ). p.kept ++ blocks_of (block_size p.plan) r) is ∙ ap (λ (bs : List (List ℕ)). p.kept ++ bs) (no_block (block_size p.plan) some) ∙ append-nil p.kept in
        ap (λ (r : List ℕ). let x : PackingSeen = record p { rest = r } in x) is ∙ ap (λ (k : List (List ℕ)). let x : PackingSeen = record p { kept = k; rest = [] } in x) (sym blocks)
    nothing (b ∷ bs) is none = absurd (none (omega (arith, ap (λ (r : List ℕ). length r) is)))

pub keeps_one : (p q : PackingSeen) → 0 < length p.rest → length p.rest < block_size p.plan → q ≡ record p { kept = p.kept ++ p.rest ∷ []; rest = [] } → q ≡ record p { kept = p.kept ++ blocks_of (block_size p.plan) p.rest; rest = [] }
keeps_one p q some short is = is ∙ ap (λ (bs : List (List ℕ)). let x : PackingSeen = record p { kept = p.kept ++ bs; rest = [] } in x) (sym (one_block (block_size p.plan) p.rest some short))

-- the lengths of chunks add up
length_by : (f : Format) (bs : List (List ℕ)) → length (all_chunks f bs) ≡ sum_by (λ (b : List ℕ). length (chunk_bytes (layout f) b)) bs
length_by f [] = refl
length_by f (b ∷ bs) =
    length-append (chunk_bytes (layout f) b) (all_chunks f bs) ∙ ap (λ (n : ℕ). length (chunk_bytes (layout f) b) + n) (length_by f bs) ∙ sym (sum_by-cons (λ (x : List ℕ). length (chunk_bytes (layout f) x)) b bs)

sizes_map : (f : Format) (bs : List (List ℕ)) → map (λ (t : List ℕ). length t) (chunks f bs) ≡ map (λ (b : List ℕ). length (chunk_bytes (layout f) b)) bs
sizes_map f [] = refl
sizes_map f (b ∷ bs) = ap (λ (ns : List ℕ). length (chunk_bytes (layout f) b) ∷ ns) (sizes_map f bs)

pub length_chunks : (f : Format) (bs : List (List ℕ)) → length (all_chunks f bs) ≡ sum (map (λ (t : List ℕ). length t) (chunks f bs))
length_chunks f bs = length_by f bs ∙ sym (sum-map (λ (b : List ℕ). length (chunk_bytes (layout f) b)) bs) ∙ ap (λ (ns : List ℕ). sum ns) (sym (sizes_map f bs))

length_sizes : (f : Format) (bs : List (List ℕ)) → length (map (λ (t : List ℕ). length t) (chunks f bs)) ≡ length bs
length_sizes f [] = refl
length_sizes f (b ∷ bs) = ap suc (length_sizes f bs)

-- a rest makes one block at most
few_rest : (size : ℕ) (rest : List ℕ) → length rest < size → length (blocks_of size rest) ≤ 1
few_rest size rest short = by rest refl
  where
    by : (r : List ℕ) → rest ≡ r → length (blocks_of size rest) ≤ 1
    by [] is = omega (arith, ap (λ (x : List ℕ). length (blocks_of size x)) is, ap (λ (bs : List (List ℕ)). length bs) (no_block size (omega (arith, short))))
    by (b ∷ bs) is = omega (arith, ap (λ (bs : List (List ℕ)). length bs) (one_block size rest (omega (arith, ap (λ (x : List ℕ). length x) is)) short))

module _ (before now : Outside) (name front : List ℕ) (p : PackingSeen) (records : List ℕ) (s : PackedStands before now name front p records) where
  abbrev last : List (List ℕ)
  last = p.kept ++ blocks_of (block_size p.plan) p.rest

  every : blocks_of (block_size p.plan) records ≡ s.done ++ last
  every = blocks_are (block_size p.plan) records (s.done ++ p.kept) p.rest (split before now name front p records s) ∙ append_assoc s.done p.kept (blocks_of (block_size p.plan) p.rest)

  pub every_text : (front ++ all_chunks p.plan.format s.done) ++ all_chunks p.plan.format last ≡ front ++ every_chunk p.plan records
  every_text =
      append_assoc front (all_chunks p.plan.format s.done) (all_chunks p.plan.format last)
      ∙ ap (λ (t : List ℕ). front ++ t) (sym (all_chunks-append p.plan.format s.done last) ∙ ap (all_chunks p.plan.format) (sym every))

  pub every_size : p.lengths ++ map (λ (t : List ℕ). length t) (chunks p.plan.format last) ≡ map (λ (t : List ℕ). length t) (chunks p.plan.format (blocks_of (block_size p.plan) records))
  every_size =
      ap (λ (ns : List ℕ). ns ++ map (λ (t : List ℕ). length t) (chunks p.plan.format last)) s.lengths
      ∙ sym (sizes-chunks p.plan.format s.done last) ∙ ap (λ (bs : List (List ℕ)). map (λ (t : List ℕ). length t) (chunks p.plan.format bs)) (sym every)

  pub every_stopped : (n : ℕ) → (m : ℕ) × ((front ++ all_chunks p.plan.format s.done) ++ take n (all_chunks p.plan.format last) ≡ take m (front ++ every_chunk p.plan records))
  every_stopped n =
      let text = front ++ all_chunks p.plan.format s.done in
      (length text + n, sym (ap (take (length text + n)) (sym every_text) ∙ take-append-add text (all_chunks p.plan.format last) n))

  -- what stands before the last blocks are appended
  pub every_within : (m : ℕ) × (now ≡ with_bytes before name (take m (front ++ every_chunk p.plan records)))
  every_within =
      let q = every_stopped 0 in
      (q.0, s.file ∙ ap (with_bytes before name) (sym (append-nil (front ++ all_chunks p.plan.format s.done)) ∙ q.1))

  -- the last block is one of whole records
  pub last_blocks : length records % record_size p.plan ≡ 0 → All (IsBlock p.plan) last
  last_blocks even = All-append (IsBlock p.plan) p.kept (blocks_of (block_size p.plan) p.rest) (kept_blocks before now name front p records s) (of_rest p.rest refl)
    where
      sized : length records ≡ length (s.done ++ p.kept) * block_size p.plan + length p.rest
      sized = size_of_all before now name front p records s

      whole : length p.rest % record_size p.plan ≡ 0
      whole =
          let k = length (s.done ++ p.kept) in
          let turned : k * block_size p.plan ≡ (k * p.plan.chunk) * record_size p.plan = omega arith in
          let all : length records ≡ (k * p.plan.chunk) * record_size p.plan + length p.rest = omega (arith, sized, turned) in
          sym (mul-add-mod_self_right (k * p.plan.chunk) (record_size p.plan) (length p.rest)) ∙ ap (λ (n : ℕ). n % record_size p.plan) (sym all) ∙ even

      of_rest : (r : List ℕ) → p.rest ≡ r → All (IsBlock p.plan) (blocks_of (block_size p.plan) p.rest)
      of_rest [] is = subst (All (IsBlock p.plan)) (sym (ap (blocks_of (block_size p.plan)) is ∙ no_block (block_size p.plan) (omega (arith, s.short)))) (λ k d lt. absurd (omega (arith, lt)))
      of_rest (b ∷ bs) is =
          let some : 0 < length p.rest = omega (arith, ap (λ (x : List ℕ). length x) is) in
          let n = length p.rest / record_size p.plan in
          let divided : length p.rest ≡ record_size p.plan * n = omega (arith, div-add-mod (length p.rest) (record_size p.plan), whole) in
          let least : 1 ≤ n = positive (record_size p.plan) n (length p.rest) some divided in
          let fewer : record_size p.plan * n ≤ record_size p.plan * p.plan.chunk = omega (arith, divided, s.short) in
          let within : record_size p.plan * n ≤ record_size p.plan * p.plan.most = omega (arith, divided, sized, s.within) in
          let block : IsBlock p.plan p.rest = record {
            count = n;
            some = least;
            few = le_of_mul-le-mul_left fewer (omega arith);
            within = le_of_mul-le-mul_left within (omega arith);
            size = divided;
          } in
          subst (All (IsBlock p.plan)) (sym (one_block (block_size p.plan) p.rest some s.short)) (only p.rest block)
        where
          positive : (m n k : ℕ) → 0 < k → k ≡ m * n → 1 ≤ n
          positive m zero k some is = absurd (omega (arith, some, is))
          positive m (suc n) k some is = omega arith

          only : (x : List ℕ) → IsBlock p.plan x → All (IsBlock p.plan) (x ∷ [])
          only x one zero d lt = one
          only x one (suc k) d lt = absurd (omega (arith, lt))

  pub last_few : length p.kept < 2 * p.plan.workers → length last ≤ 2 * p.plan.workers
  last_few few = omega (arith, length-append p.kept (blocks_of (block_size p.plan) p.rest), few_rest (block_size p.plan) p.rest s.short, few)

  -- there are at most 2^24 chunks
  pub few_chunks : length (map (λ (t : List ℕ). length t) (chunks p.plan.format (blocks_of (block_size p.plan) records))) ≤ 2 ^ 24
  few_chunks =
      let k = length (s.done ++ p.kept) in
      let sized = size_of_all before now name front p records s in
      let turned : k * block_size p.plan ≡ record_size p.plan * (k * p.plan.chunk) = omega arith in
      let under : record_size p.plan * (k * p.plan.chunk) ≤ record_size p.plan * p.plan.most = omega (arith, turned, sized, s.within) in
      let fewer : k * p.plan.chunk ≤ p.plan.most = le_of_mul-le-mul_left under (omega arith) in
      let least : k * 256 ≤ k * p.plan.chunk = mul-le-mul_left k s.numbers.size.0 in
      let all : length (blocks_of (block_size p.plan) records) ≡ k + length (blocks_of (block_size p.plan) p.rest) =
      ap (λ (bs : List (List ℕ)). length bs) (blocks_are (block_size p.plan) records (s.done ++ p.kept) p.rest (split before now name front p records s)) ∙ length-append (s.done ++ p.kept) (blocks_of (block_size p.plan) p.rest) in
      omega (arith, length_sizes p.plan.format (blocks_of (block_size p.plan) records), all, few_rest (block_size p.plan) p.rest s.short, fewer, least, s.numbers.most)

-- The text of a packed output, its chunks and then its table.
module _ (plan : Plan) (front records : List ℕ) where
  abbrev sizes : List ℕ
  sizes = map (λ (t : List ℕ). length t) (chunks plan.format (blocks_of (block_size plan) records))

  pub text_is : (front ++ every_chunk plan records) ++ table_bytes [] sizes ≡ front ++ packed_text plan records
  text_is = append_assoc front (every_chunk plan records) (table_bytes [] sizes)

  pub chunks_within : (n : ℕ) → (m : ℕ) × (take n (front ++ every_chunk plan records) ≡ take m (front ++ packed_text plan records))
  chunks_within n =
      let text = front ++ every_chunk plan records in
      let m = min n (length text) in
      let short : m ≤ length text = omega arith in
      (m, sym (take_min n text) ∙ sym (take-append-le m text (table_bytes [] sizes) short) ∙ ap (take m) text_is)

  pub all_chunks_within : (m : ℕ) × (front ++ every_chunk plan records ≡ take m (front ++ packed_text plan records))
  all_chunks_within =
      let text = front ++ every_chunk plan records in
      (length text, sym (take_at text (table_bytes [] sizes) (length text) refl) ∙ ap (take (length text)) text_is)

  pub table_within : (n : ℕ) → (m : ℕ) × ((front ++ every_chunk plan records) ++ take n (table_bytes [] sizes) ≡ take m (front ++ packed_text plan records))
  table_within n =
      let text = front ++ every_chunk plan records in
      (length text + n, sym (take-append-add text (table_bytes [] sizes) n) ∙ ap (take (length text + n)) text_is)
