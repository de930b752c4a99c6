-- Products of variables, which arithmetic alone does not multiply out. Meant for the crates of chunks.
use Rattle.std.proofs.Common.{◌≡◌, ℕ, zero, suc, ◌+◌, ◌*◌, ◌<◌, ◌≤◌, arith}

pub next_suc : (i n : ℕ) → n * suc i ≡ n + n * i
next_suc i n = omega arith

pub place-is : (i n : ℕ) → i * n ≡ n * i
place-is i n = omega arith

-- the i-th of some parts of n each ends within them
pub place-within : (i count n : ℕ) → i < count → i * n + n ≤ n * count
place-within zero (suc count) n few = omega (arith, next_suc count n)
place-within zero zero n few = absurd (omega (arith, few))
place-within (suc i) zero n few = absurd (omega (arith, few))
place-within (suc i) (suc count) n few = omega (arith, place-within i count n (omega (arith, few)), next_suc count n, next_suc i n)
