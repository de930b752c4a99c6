-- The distribution that a list of symbols gives (LASzip's models of symbols).
use Rattle.std.specs.Prelude.{◌≡◌, ℕ, zero, suc, ◌+◌, ◌<◌, ◌==◌, List, length, drop, map, count_by, replicate}
use Rattle.std.specs.Prelude.{slice_index, slice_range}
use Rattle.std.specs.List.{AllByRecursion, range_with_len}
use Rattle.laz_models.specs.Counting.{Counting, first_cycle, next_cycle, small_counts, starts_of}
use Rattle.laz_models.specs.Cycles.{due, cycle_in, IsInCycle}

-- Each number of a list is a symbol of an alphabet of n symbols.
abbrev pub AreSymbols : ℕ → List ℕ → Type 0
AreSymbols n symbols = AllByRecursion (λ s. s < n) symbols

-- How long cycle j of a model of n symbols is, from 0 on (LASzip).
abbrev pub cycle : ℕ → ℕ → ℕ
cycle n zero = first_cycle n
cycle n (suc j) = next_cycle n (cycle n j)

-- The counts with the symbols of a list.
abbrev pub counts_with_all : List ℕ → List ℕ → List ℕ
counts_with_all counts symbols =
    map (λ s. slice_index counts s + count_by (λ x. x == s) symbols) (range_with_len 0 (length counts))

-- The counts at the beginning of cycle j, if h are the symbols so far: those at the beginning of the cycle before it
-- with the symbols of that cycle, halved if their sum is above 2 ^ 15 (LASzip).
unfoldable pub counts_at : ℕ → List ℕ → ℕ → List ℕ
counts_at n h zero = replicate n 1
counts_at n h (suc j) =
    small_counts (counts_with_all (counts_at n h j) (slice_range h (due (cycle n) j) (due (cycle n) (suc j))))

-- The distribution after the symbols h: the start of the part of each of n symbols, of 2 ^ 15 parts. It is computed at
-- the beginning of each cycle.
abbrev pub dist : ℕ → List ℕ → List ℕ
dist n h = starts_of (counts_at n h (cycle_in (cycle n) (length h)))

-- A model of n symbols knows what the symbols h give.
pub record Stands (n : ℕ) (h : List ℕ) (m : Counting) : Type 0 where
  pub in_cycle : IsInCycle (cycle n) (length h) m.cycle m.remaining
  pub counts : m.counts
      ≡ counts_with_all
      (counts_at n h (cycle_in (cycle n) (length h)))
      (drop (due (cycle n) (cycle_in (cycle n) (length h))) h)
  pub starts : m.starts ≡ dist n h

-- How many symbols the alphabet of a model has.
abbrev pub alphabet_size : Counting → ℕ
alphabet_size m = length m.counts

-- A model stands for the symbols h, which it has counted since it was new or reset.
abbrev pub StandsFor : List ℕ → Counting → Type 0
StandsFor h m = Stands (alphabet_size m) h m
