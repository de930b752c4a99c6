-- What a distribution answers, and the size of its look-up table.
use Rattle.std.specs.Prelude.{ℕ, ◌+◌, ◌-◌, ◌*◌, ◌/◌, ◌^◌, ◌<◌, ◌≤◌, List, [], ◌∷◌, length, count_by, nat_lt, slice_index}
use Rattle.std.specs.Prelude.{slice_index_or}
use Rattle.laz_models.specs.declared.limits.TheConstants.{GUARD}

-- s is the greatest symbol whose part begins at v or below.
pub record IsLastAt (starts : List ℕ) (v s : ℕ) : Type 0 where
  pub symbol : s < length starts
  pub start : slice_index starts s ≤ v
  pub greatest : (k : ℕ) → k < length starts → slice_index starts k ≤ v → k ≤ s

-- How many of the 15 bits of a position choose an entry of the look-up table of n symbols: the least number b from 3 on
-- with n ≤ 2 ^ (b + 2), for n up to 2,048 (LASzip).
unfoldable pub table_bits : ℕ → ℕ
table_bits n = 3 + count_by (λ b. nat_lt (2 ^ (b + 2)) n) (3 ∷ 4 ∷ 5 ∷ 6 ∷ 7 ∷ 8 ∷ [])

-- How many of the 15 bits of a place choose the symbol from which a decoder searches: the least number b from 3 on with
-- n ≤ 2 ^ b, for n up to 2,048.
unfoldable pub search_bits : ℕ → ℕ
search_bits n = 3 + count_by (λ b. nat_lt (2 ^ b) n) (3 ∷ 4 ∷ 5 ∷ 6 ∷ 7 ∷ 8 ∷ 9 ∷ 10 ∷ [])

-- The first entry of a look-up table, in steps of 2 ^ shift places, at whose place a part has begun.
abbrev pub first_entry : ℕ → ℕ → ℕ
first_entry start shift = (start + (2 ^ shift - 1)) / 2 ^ shift

-- The start of the part of symbol s, or the guard if there is no such symbol.
abbrev pub start_or_guard : List ℕ → ℕ → ℕ
start_or_guard starts s = slice_index_or starts s GUARD

-- Each entry of a look-up table that is being written has a symbol whose part has begun at the entry's place.
abbrev pub HaveBegun : List ℕ → ℕ → List ℕ → Type 0
HaveBegun starts shift table =
    (t : ℕ) → t < length table
    → (slice_index table t < length starts) × (slice_index starts (slice_index table t) ≤ t * 2 ^ shift)

-- Each of the first n symbols is at most the one at the first entry at whose place its part has begun.
abbrev pub AreMarked : ℕ → List ℕ → ℕ → List ℕ → Type 0
AreMarked n starts shift table =
    (k : ℕ) → k < n → first_entry (slice_index starts k) shift < length table
    → k ≤ slice_index table (first_entry (slice_index starts k) shift)
