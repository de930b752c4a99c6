-- Records cut into blocks of one size, and joined again.
use Rattle.std.proofs.Common.{◌≡◌, inl, inr, ℕ, zero, suc, ◌+◌, ◌*◌, ◌-◌, ◌<◌, ◌≤◌, min, List, [], ◌∷◌, ◌++◌, length, map, take, drop, sym, ap, ◌∙◌, arith, length-drop}
use Rattle.std.proofs.lemmas.Bool.{cases_lt}
use Rattle.std.proofs.lemmas.List.{length-take-le, nil_from_length, take-append-drop, take_all}
use Rattle.std.proofs.Math.Nat.{div-eq_of_lt-le, lt-mul-div-succ, min-eq_left, min-eq_right, min-le_left, mul-div-le, mul-le-mul_left}
use Rattle.std.specs.List.{concat, range_with_len}
use Rattle.las_header.specs.Plain.{cut_records}
use Rattle.laz_range.specs.Span.{IsBytes}
use Rattle.laz_range.proofs.Public.{IsBytes-drop, IsBytes-take}
use Rattle.laz_chunk.specs.Chunks.{AreRecords}
use Rattle.laz_chunk.specs.Layouts.{Layout, record_length}
use Rattle.laz_table.specs.Chunks.{fixed_sizes}
use Rattle.laz_table.specs.VlrCauses.{chunk_count}

-- blocks that are enough for the bytes are these again, when they are joined
pub cut-joined : (size count : ℕ) (bytes : List ℕ) → length bytes ≤ size * count → concat (cut_records size count bytes) ≡ bytes
cut-joined size zero bytes enough = sym (nil_from_length bytes (omega (arith, enough)))
cut-joined size (suc count) bytes enough =
    ap (λ (t : List ℕ). take size bytes ++ t) (cut-joined size count (drop size bytes) (omega (arith, enough, length-drop size bytes)))
    ∙ take-append-drop size bytes

-- a front of some whole records
part-length : (size chunk left : ℕ) (bytes : List ℕ) → length bytes ≡ size * left → length (take (size * chunk) bytes) ≡ size * min chunk left
part-length size chunk left bytes whole = elim (cases_lt chunk left) [
  | inl more ↦
      let few : chunk ≤ left = omega (arith, more) in
      length-take-le (size * chunk) bytes (omega (arith, whole, mul-le-mul_left size few)) ∙ ap (λ (n : ℕ). size * n) (sym (min-eq_left few))
  | inr all ↦
      ap length (take_all (size * chunk) bytes (omega (arith, whole, mul-le-mul_left size all))) ∙ whole ∙ ap (λ (n : ℕ). size * n) (sym (min-eq_right all))
]

-- Blocks of records: each has as many as its number, which is at least one and at most `most`.
abbrev pub AreBlocks : Layout → (most : ℕ) → (counts : List ℕ) → (blocks : List (List ℕ)) → Type 0
AreBlocks l most [] [] = Unit {0}
AreBlocks l most [] (b ∷ blocks) = ⊥
AreBlocks l most (n ∷ counts) [] = ⊥
AreBlocks l most (n ∷ counts) (b ∷ blocks) = (1 ≤ n) × (n ≤ most) × AreRecords l n b × AreBlocks l most counts blocks

-- from some block on, the blocks of records are such blocks
blocks-from : (l : Layout) (chunk points k n : ℕ) (bytes : List ℕ) → 1 ≤ chunk → chunk * (k + n) < points + chunk
    → (0 < n → length bytes + record_length l * (chunk * k) ≡ record_length l * points) → IsBytes bytes
    → AreBlocks l chunk (map (λ i. min chunk (points - chunk * i)) (range_with_len k n)) (cut_records (record_length l * chunk) n bytes)
blocks-from l chunk points k zero bytes some within whole are = tt
blocks-from l chunk points k (suc n) bytes some within whole are =
    let size = record_length l in
    let left = points - chunk * k in
    let more : chunk * k + chunk * n < points = omega (arith, within) in
    let there : points ≡ left + chunk * k = omega (arith, more) in
    let all : length bytes ≡ size * left = omega (arith, whole (omega arith), ap (λ (p : ℕ). size * p) there) in
    let one : 1 ≤ min chunk left = omega (arith, some, more) in (
      one,
      min-le_left chunk left,
      record { length = part-length size chunk left bytes all; bytes = IsBytes-take (size * chunk) bytes are },
      blocks-from l chunk points (k + 1) n (drop (size * chunk) bytes) some (omega (arith, within))
          (λ rest. let far : chunk * k + chunk ≤ points = omega (arith, more, mul-le-mul_left chunk rest) in
          omega (arith, length-drop (size * chunk) bytes, whole (omega arith), mul-le-mul_left size far))
          (IsBytes-drop (size * chunk) bytes are),
    )

-- the number of chunks is enough, and the last one has a record
pub count-enough : (points chunk : ℕ) → 1 ≤ chunk → points ≤ chunk * chunk_count points chunk
count-enough points chunk some = omega (arith, lt-mul-div-succ (points + chunk - 1) {b = chunk} (omega (arith, some)), some)

pub count-few : (points chunk : ℕ) → 1 ≤ chunk → chunk * chunk_count points chunk < points + chunk
count-few points chunk some = omega (arith, mul-div-le (points + chunk - 1) chunk, some)

-- the records of a file, cut into the blocks of its chunks
pub blocks-are : (l : Layout) (chunk points : ℕ) (bytes : List ℕ) → 1 ≤ chunk → length bytes ≡ record_length l * points → IsBytes bytes
    → AreBlocks l chunk (fixed_sizes chunk points) (cut_records (record_length l * chunk) (chunk_count points chunk) bytes)
blocks-are l chunk points bytes some whole are =
    blocks-from l chunk points 0 (chunk_count points chunk) bytes some (omega (arith, count-few points chunk some)) (λ rest. omega (arith, whole)) are

-- as many blocks of bytes as of records
pub same-count : (size points chunk : ℕ) → 1 ≤ size → 1 ≤ chunk → chunk_count (size * points) (size * chunk) ≡ chunk_count points chunk
same-count size points chunk one some =
    let count = chunk_count points chunk in
    let enough = mul-le-mul_left size (count-enough points chunk some) in
    let few : chunk * count + 1 ≤ points + chunk = omega (arith, count-few points chunk some) in
    let low = mul-le-mul_left size few in
    div-eq_of_lt-le {k = count} (size * chunk) {m = size * points + size * chunk - 1} (omega (arith, low, one)) (omega (arith, enough, one, mul-le-mul_left size some))
