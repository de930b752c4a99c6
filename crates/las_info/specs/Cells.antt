-- A list of counts, one for each bin from 0 on, as the entries of a tally: those of the bins with a count above 0.
use Rattle.std.specs.Prelude.{ℕ, zero, suc, ◌+◌, List, [], ◌∷◌}

-- the bins from a first one on, each with its count
abbrev pub bins_from : (first : ℕ) → (counts : List ℕ) → List (ℕ × ℕ)
bins_from first [] = []
bins_from first (zero ∷ counts) = bins_from (first + 1) counts
bins_from first (suc n ∷ counts) = (first, suc n) ∷ bins_from (first + 1) counts
