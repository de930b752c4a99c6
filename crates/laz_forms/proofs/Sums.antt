-- Sums of the numbers of records and of bytes of pieces.
use Rattle.std.proofs.Common.{◌≡◌, ℕ, zero, suc, ◌+◌, ◌*◌, ◌-◌, ◌≤◌, min, List, [], ◌∷◌, map, ap, arith}
use Rattle.std.specs.Prelude.{sum}
use Rattle.std.specs.List.{range_with_len}
use Rattle.laz_table.specs.Chunks.{fixed_sizes}
use Rattle.laz_table.specs.VlrCauses.{chunk_count}
use Rattle.laz_forms.proofs.Blocks.{count-enough}
use Rattle.laz_models.proofs.Public.{sum-cons}

-- as many numbers as there are points, from a chunk on
sum-from : (chunk points k n : ℕ) → points ≤ chunk * (k + n) → sum (map (λ i. min chunk (points - chunk * i)) (range_with_len k n)) ≡ points - chunk * k
sum-from chunk points k zero enough = omega (arith, enough)
sum-from chunk points k (suc n) enough =
    omega (
      arith,
      sum-cons (min chunk (points - chunk * k)) (map (λ i. min chunk (points - chunk * i)) (range_with_len (k + 1) n)),
      sum-from chunk points (k + 1) n (omega (arith, enough)),
    )

pub sum-sizes : (chunk points : ℕ) → 1 ≤ chunk → sum (fixed_sizes chunk points) ≡ points
sum-sizes chunk points some = omega (arith, sum-from chunk points 0 (chunk_count points chunk) (omega (arith, count-enough points chunk some)))

pub sum-times : (size : ℕ) (counts : List ℕ) → sum (map (λ n. size * n) counts) ≡ size * sum counts
sum-times size [] = omega arith
sum-times size (n ∷ counts) = omega (arith, sum-times size counts, sum-cons (size * n) (map (λ n. size * n) counts), ap (λ (m : ℕ). size * m) (sum-cons n counts))
