-- The map of returns: where it has a flag byte, and that its numbers are below 16.
use Rattle.std.proofs.Common.{◌≡◌, ℕ, zero, suc, ◌+◌, ◌*◌, ◌/◌, ◌%◌, ◌<◌, ltb, Bool, true, ◌&&◌, List, [], ◌∷◌, length, get_or, refl, ap, arith, ltb-true}
use Rattle.laz_point10.specs.Points.{return_level, return_map, map_rows}
use Rattle.laz_integer.proofs.Public.{both_true}

all_below : ℕ → List ℕ → Bool
all_below n [] = true
all_below n (x ∷ xs) = ltb x n && all_below n xs

below-at : (n : ℕ) (xs : List ℕ) (i : ℕ) → all_below n xs ≡ true → i < length xs → get_or xs i 0 < n
unfolding all_below
below-at n [] i h within = absurd (omega arith)
below-at n (x ∷ xs) zero h within = ltb-true x n (both_true (ltb x n) (all_below n xs) h).0
below-at n (x ∷ xs) (suc i) h within = below-at n xs i (both_true (ltb x n) (all_below n xs) h).1 (omega arith)

rows-small : all_below 16 map_rows ≡ true
unfolding all_below
rows-small = refl

place-is : (flags : ℕ) → flags % 64 ≡ 8 * (flags / 8 % 8) + flags % 8
place-is flags = omega arith

pub map-is : (flags : ℕ) → get_or map_rows (flags % 64) 0 ≡ return_map flags
unfolding return_map
map-is flags = ap (λ i. get_or map_rows i 0) (place-is flags)

pub map-small : (flags : ℕ) → return_map flags < 16
unfolding return_map
map-small flags = below-at 16 map_rows (8 * (flags / 8 % 8) + flags % 8) rows-small (omega arith)

pub level-small : (flags : ℕ) → return_level flags < 8
unfolding return_level
level-small flags = omega arith
