-- Where the models of a bank lie among its cells, and what the cells hold.
use Rattle.std.specs.Prelude.{◌≡◌, ◌⊎◌, true, false, ℕ, ◌+◌, ◌-◌, ◌*◌, ◌^◌, ◌<◌, ◌≤◌, ◌==◌, List, [], ◌∷◌, length, take}
use Rattle.std.specs.Prelude.{drop, replicate, sum}
use Rattle.std.specs.Prelude.{if◌then◌else◌, slice_index, slice_index_or, slice_range}
use Rattle.laz_models.specs.Counting.{Counting, AreCounts, AreStarts, new_model, starts_of}
use Rattle.laz_models.specs.Lookup.{IsLastAt, search_bits}
use Rattle.laz_models.specs.declared.place.Place.{Place}
use Rattle.laz_models.specs.declared.limits.TheConstants.{GUARD, MAX_COUNT, MAX_SYMBOLS}

-- The cells of a model of n symbols: its counts, and those of its distribution.
abbrev pub counts_in : ℕ → List ℕ → List ℕ
counts_in n cells = take n cells

abbrev pub dist_in : ℕ → List ℕ → List ℕ
dist_in n cells = drop n cells

-- The cells of a distribution of n symbols: their starts, two guards after them, and the look-up table of the symbols
-- from which a search begins.
abbrev pub starts_in : ℕ → List ℕ → List ℕ
starts_in n dist = take n dist

abbrev pub guards_in : ℕ → List ℕ → List ℕ
guards_in n dist = take 2 (drop n dist)

abbrev pub table_in : ℕ → List ℕ → List ℕ
table_in n dist = drop 2 (drop n dist)

-- Each entry of the look-up table is the last symbol whose part begins at the entry's position or below.
abbrev pub IsTable : ℕ → ℕ → List ℕ → Type 0
IsTable n shift dist =
    (t : ℕ) → t < length (table_in n dist)
    → IsLastAt (starts_in n dist) (t * 2 ^ shift) (slice_index (table_in n dist) t)

-- How many cells a distribution of n symbols has.
abbrev pub dist_extent : ℕ → ℕ
dist_extent n = n + (2 + 2 ^ search_bits n)

-- Cells of a distribution of n symbols, perhaps without its look-up table.
pub record IsDist (n : ℕ) (dist : List ℕ) : Type 0 where
  pub length : length dist ≡ dist_extent n
  pub starts : AreStarts n (starts_in n dist)
  pub guards : guards_in n dist ≡ GUARD ∷ GUARD ∷ []

-- The starts of a new model.
abbrev pub even_starts : ℕ → List ℕ
even_starts n = starts_of (replicate n 1)

-- Cells of the distribution of a new model of n symbols.
pub record IsEven (n : ℕ) (dist : List ℕ) : Type 0 where
  pub whole : IsDist n dist
  pub starts : starts_in n dist ≡ even_starts n
  pub table : IsTable n (15 - search_bits n) dist

-- The cells of the distribution of a new model of n symbols, from `first` on, among those of all models.
abbrev pub first_in : ℕ → ℕ → List ℕ → List ℕ
first_in n first cells = slice_range cells first (first + dist_extent n)

-- They lie there.
pub record IsFirst (n first : ℕ) (cells : List ℕ) : Type 0 where
  pub within : first + dist_extent n ≤ length cells
  pub even : IsEven n (first_in n first cells)

-- The starts of a model whose counts are laid out: in its first cycle they are not among its cells.
abbrev pub starts_now : Place → List ℕ → List ℕ
starts_now p cells = if p.even then even_starts p.size else starts_in p.size (dist_in p.size cells)

-- What a model knows if its counts are laid out.
abbrev pub laid_state : Place → List ℕ → Counting
laid_state p cells =
    record {
      counts = counts_in p.size cells;
      starts = starts_now p cells;
      cycle = p.cycle;
      remaining = p.remaining;
    }

-- How many cells a model of n symbols has.
abbrev pub extent : ℕ → ℕ
extent n = n + dist_extent n

-- What holds of a place, whatever the cells hold.
pub record IsShaped (p : Place) : Type 0 where
  pub many : 2 ≤ p.size
  pub few : p.size ≤ MAX_SYMBOLS
  pub shift : p.shift ≡ 15 - search_bits p.size
  pub extent : p.end ≡ p.start + extent p.size

-- Where the distribution of a model begins: in its first cycle it is that of a new one, and then lies after the counts.
abbrev pub dist_place : Place → ℕ
dist_place p = if p.even then p.first else p.start + p.size

-- What holds of a model whose counts are laid out. `total` is the sum of the counts at the beginning of the cycle.
pub record IsLaid (p : Place) (cells : List ℕ) : Type 0 where
  pub counts : AreCounts (counts_in p.size cells)
  pub starts : AreStarts p.size (starts_now p cells)
  pub dist : p.dist ≡ dist_place p
  pub own : p.even ≡ false → IsDist p.size (dist_in p.size cells)
  pub table : p.indexed ≡ true → p.even ≡ false → IsTable p.size p.shift (dist_in p.size cells)
  pub total : p.total ≤ MAX_COUNT
  pub sum : sum (counts_in p.size cells) + p.remaining ≡ p.total + p.cycle
  pub remaining : 1 ≤ p.remaining
  pub within : p.remaining ≤ p.cycle
  pub four : 4 ≤ p.cycle
  pub cycle : p.cycle ≤ 8 * (p.size + 6)

-- The same of a model whose cycle has ended.
pub record IsDue (p : Place) (cells : List ℕ) : Type 0 where
  pub counts : AreCounts (counts_in p.size cells)
  pub total : p.total ≤ MAX_COUNT
  pub sum : sum (counts_in p.size cells) ≡ p.total + p.cycle
  pub four : 4 ≤ p.cycle
  pub cycle : p.cycle ≤ 8 * (p.size + 6)

-- The model has the same place and size as before.
pub record SamePlace (old new : Place) : Type 0 where
  pub start : new.start ≡ old.start
  pub end : new.end ≡ old.end
  pub first : new.first ≡ old.first
  pub size : new.size ≡ old.size
  pub shift : new.shift ≡ old.shift

-- The cells of the model at a place, out of those of all models.
abbrev pub cells_of : Place → List ℕ → List ℕ
cells_of p cells = slice_range cells p.start p.end

-- What a model knows, from its place and its own cells.
unfoldable pub counting_of : Place → List ℕ → Counting
counting_of p cells = if p.remaining == 0 then new_model p.size else laid_state p cells

-- What holds of a model between any two calls. Cells of a new model are not needed before its first symbol is counted.
pub record IsModel (p : Place) (cells : List ℕ) : Type 0 where
  pub shape : IsShaped p
  pub length : 0 < p.remaining → length cells ≡ extent p.size
  pub even : p.remaining ≡ 0 → p.even ≡ true
  pub dist : p.remaining ≡ 0 → p.dist ≡ p.first
  pub laid : 0 < p.remaining → IsLaid p cells

-- All cells that there were, except those from `start` up to `end`, are unchanged.
pub record SameOutside (start end : ℕ) (old new : List ℕ) : Type 0 where
  pub longer : length old ≤ length new
  pub before : (i : ℕ) → i < start → i < length old → slice_index new i ≡ slice_index old i
  pub after : (i : ℕ) → end ≤ i → i < length old → slice_index new i ≡ slice_index old i

-- What the model at a place knows.
abbrev pub counting_in : List ℕ → Place → Counting
counting_in cells p = counting_of p (cells_of p cells)

-- A model lies at a place among the cells of all models, which need not be there as long as it is new.
pub record IsPlaced (p : Place) (cells : List ℕ) : Type 0 where
  pub model : IsModel p (cells_of p cells)
  pub within : 0 < p.remaining → p.end ≤ length cells

-- The models of a bank lie one after another, and no two share a cell.
pub record IsBank (places : List Place) (cells : List ℕ) : Type 0 where
  pub placed : (m : ℕ) (d : Place) → m < length places → IsPlaced (slice_index_or places m d) cells
  pub apart : (i j : ℕ) (d : Place) → i < j → j < length places
      → (slice_index_or places i d).end ≤ (slice_index_or places j d).start

-- Cells of the distribution of a new model, from `first` on, are none of the models' own.
abbrev pub IsApart : (n first : ℕ) → List Place → Type 0
IsApart n first places =
    (k : ℕ) (d : Place) → k < length places
    → (first + dist_extent n ≤ (slice_index_or places k d).start) ⊎ ((slice_index_or places k d).end ≤ first)

-- For each model there is the distribution of a new one of its size, and it is apart from the models' own cells.
pub record AreFirst (places : List Place) (cells : List ℕ) : Type 0 where
  pub there : (m : ℕ) (d : Place) → m < length places
      → IsFirst (slice_index_or places m d).size (slice_index_or places m d).first cells
  pub apart : (m : ℕ) (d : Place) → m < length places
      → IsApart (slice_index_or places m d).size (slice_index_or places m d).first places

-- The models end within this many cells.
abbrev pub EndWithin : List Place → ℕ → Type 0
EndWithin places end = (m : ℕ) (d : Place) → m < length places → (slice_index_or places m d).end ≤ end

-- The places of new models of these alphabet sizes, which end within `end` cells.
pub record IsLayout (places : List Place) (sizes : List ℕ) (end : ℕ) : Type 0 where
  pub count : length places ≡ length sizes
  pub shape : (m : ℕ) (d : Place) → m < length places → IsShaped (slice_index_or places m d)
  pub size : (m : ℕ) (d : Place) → m < length places → (slice_index_or places m d).size ≡ slice_index sizes m
  pub first : (m : ℕ) (d : Place) → m < length places → (slice_index_or places m d).remaining ≡ 0
  pub even : (m : ℕ) (d : Place) → m < length places → (slice_index_or places m d).even ≡ true
  pub dist : (m : ℕ) (d : Place) → m < length places → (slice_index_or places m d).dist ≡ (slice_index_or places m d).first
  pub within : EndWithin places end
  pub apart : (i j : ℕ) (d : Place) → i < j → j < length places
      → (slice_index_or places i d).end ≤ (slice_index_or places j d).start

-- A place whose model is new.
abbrev pub as_new : Place → Place
as_new p = record p { dist = p.first; indexed = true; even = true; remaining = 0 }
