-- Lists of drawn numbers.
use Rattle.std.specs.Prelude.{◌≡◌, ℕ, Bool, ◌==◌, nat_lt, if◌then◌else◌, List, count_by}

-- 1 if the test is true, else 0
abbrev pub one_if : Bool → ℕ
one_if b = if b then 1 else 0

-- how often x stands in the list
abbrev pub times : ℕ → List ℕ → ℕ
times x xs = count_by (λ y. y == x) xs

-- each number below n stands in the list exactly once, and no other number does
abbrev pub HoldsBelow : ℕ → List ℕ → Type 0
HoldsBelow n xs = (x : ℕ) → times x xs ≡ one_if (nat_lt x n)
