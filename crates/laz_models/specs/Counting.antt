-- Models of symbols, as they count.
use Rattle.std.specs.Prelude.{◌≡◌, ℕ, ◌+◌, ◌-◌, ◌*◌, ◌/◌, ◌^◌, ◌<◌, ◌≤◌, ◌==◌, min, List, length, take, map, sum, replicate}
use Rattle.std.specs.Prelude.{nat_lt, if◌then◌else◌, slice_index, slice_set}
use Rattle.std.specs.List.{range_with_len}
use Rattle.laz_models.specs.declared.limits.TheConstants.{MAX_COUNT, MAX_SYMBOLS, SYMBOL_PARTS}

-- What a model of symbols knows: the count of each symbol, the start of each symbol's part as it was last computed, the
-- length of the present cycle, and how many symbols of it are still to come.
pub record Counting : Type 0 where
  pub counts : List ℕ
  pub starts : List ℕ
  pub cycle : ℕ
  pub remaining : ℕ

-- How long the first cycle of a model of n symbols is (LASzip).
abbrev pub first_cycle : ℕ → ℕ
first_cycle n = (n + 6) / 2

-- How long the cycle after one of this length is: a quarter longer, up to 8 (n + 6) (LASzip).
abbrev pub next_cycle : ℕ → ℕ → ℕ
next_cycle n cycle = min (8 * (n + 6)) (5 * cycle / 4)

-- The start of the part of symbol k, of 2 ^ 15 parts: the share of the counts below it (LASzip, after Said).
abbrev pub part_start : List ℕ → ℕ → ℕ
part_start counts k = 2 ^ 31 / sum counts * sum (take k counts) / 2 ^ 16

-- The start of each symbol's part.
unfoldable pub starts_of : List ℕ → List ℕ
starts_of counts = map (part_start counts) (range_with_len 0 (length counts))

-- Each count halved and rounded up, so that none becomes 0.
abbrev pub halves_of : List ℕ → List ℕ
halves_of counts = map (λ c. (c + 1) / 2) counts

-- The counts, halved if their sum is above 2 ^ 15 (LASzip).
unfoldable pub small_counts : List ℕ → List ℕ
small_counts counts = if nat_lt MAX_COUNT (sum counts) then halves_of counts else counts

-- The counts with one more of symbol s.
abbrev pub counts_with : List ℕ → ℕ → List ℕ
counts_with counts s = slice_set counts s (slice_index counts s + 1)

-- A model at the beginning of a cycle, after one of this length, with these counts.
unfoldable pub new_cycle : List ℕ → ℕ → Counting
new_cycle counts cycle =
    record {
      counts = small_counts counts;
      starts = starts_of (small_counts counts);
      cycle = next_cycle (length counts) cycle;
      remaining = next_cycle (length counts) cycle;
    }

-- A model after one more symbol.
unfoldable pub after_symbol : Counting → ℕ → Counting
after_symbol m s =
    if m.remaining == 1 then new_cycle (counts_with m.counts s) m.cycle
    else record { counts = counts_with m.counts s; starts = m.starts; cycle = m.cycle; remaining = m.remaining - 1 }

-- A model of n symbols that has counted none.
unfoldable pub new_model : ℕ → Counting
new_model n =
    record {
      counts = replicate n 1;
      starts = starts_of (replicate n 1);
      cycle = first_cycle n;
      remaining = first_cycle n;
    }

-- The end of the part of symbol s. The last part ends at 2 ^ 15.
abbrev pub part_end : List ℕ → ℕ → ℕ
part_end starts s = if s + 1 == length starts then SYMBOL_PARTS else slice_index starts (s + 1)

-- Counts of a model of 2 to 2,048 symbols: each is at least 1.
pub record AreCounts (counts : List ℕ) : Type 0 where
  pub many : 2 ≤ length counts
  pub few : length counts ≤ MAX_SYMBOLS
  pub some : (k : ℕ) → k < length counts → 1 ≤ slice_index counts k

-- The starts of the parts of n symbols, none of which is empty.
pub record AreStarts (n : ℕ) (starts : List ℕ) : Type 0 where
  pub length : length starts ≡ n
  pub first : slice_index starts 0 ≡ 0
  pub rising : (k : ℕ) → k + 1 < n → slice_index starts k < slice_index starts (k + 1)
  pub within : (k : ℕ) → k < n → slice_index starts k < SYMBOL_PARTS
