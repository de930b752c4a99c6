-- Tallies of records: how many of them have each bin.
use Rattle.std.specs.Prelude.{◌≡◌, ℕ, zero, suc, ◌+◌, ◌^◌, ◌<◌, ◌≤◌, List, [], ◌∷◌, ◌++◌, fold, take, unwrap_or}
use Rattle.std.specs.Ordering.{nat_cmp}
use Rattle.std.specs.FinMap as map

-- bins, each with a count
abbrev pub Tally : Type 0
Tally = map.FinMap nat_cmp ℕ

-- the count of a bin, 0 if it has none
abbrev pub count_at : Tally → (bin : ℕ) → ℕ
count_at tally bin = unwrap_or (map.get tally bin) 0

-- a tally with one record more in a bin
abbrev pub with_one : Tally → (bin : ℕ) → Tally
with_one tally bin = map.insert tally bin (count_at tally bin + 1)

-- a tally with a number of records more in a bin, one after another
abbrev pub with_many : Tally → (bin more : ℕ) → Tally
with_many tally bin zero = tally
with_many tally bin (suc more) = with_many (with_one tally bin) bin more

-- a tally after records, each counted in its bin
abbrev pub tally_after : (bin_of : List ℕ → ℕ) → Tally → (records : List (List ℕ)) → Tally
tally_after bin_of tally records = fold (λ counted point. with_one counted (bin_of point)) tally records

-- what contracts see of a tap: its name, the bin of a record, and what it has counted
pub record TapSeen : Type 0 where
  pub name : List ℕ
  pub bin : List ℕ → ℕ
  pub tally : Tally

-- a tap that was shown a record: it counts one more in the record's bin
abbrev pub shown_one : TapSeen → (point : List ℕ) → TapSeen
shown_one tap point = record tap { tally = with_one tap.tally (tap.bin point) }

-- a tap that was shown some records, one after another
abbrev pub shown_all : TapSeen → (records : List (List ℕ)) → TapSeen
shown_all tap records = record tap { tally = tally_after tap.bin tap.tally records }

-- There is room for a number of records more: no bin comes to a count of 2^64, if all of them have it.
pub record HasRoomToCount (records : ℕ) (tally : Tally) : Type 0 where
  pub fits : (bin : ℕ) → count_at tally bin + records < 2 ^ 64

-- A tap was shown records from the first of these on, perhaps not all of them.
abbrev pub IsShownSome : (records : List (List ℕ)) → (old new : TapSeen) → Type 0
IsShownSome records old new = (n : ℕ) × (new ≡ shown_all old (take n records))

-- A tally of records is said one record at a time.
abbrev pub GrowOneByOne : Type 0
GrowOneByOne = (bin_of : List ℕ → ℕ) (tally : Tally) (records : List (List ℕ)) (point : List ℕ)
    → tally_after bin_of tally (records ++ point ∷ []) ≡ with_one (tally_after bin_of tally records) (bin_of point)

-- No count grows by more than one for a record.
abbrev pub GrowByOne : Type 0
GrowByOne = (tally : Tally) (bin other most : ℕ) → count_at tally bin ≤ most → count_at tally other ≤ most
    → count_at (with_one tally bin) other ≤ most + 1
