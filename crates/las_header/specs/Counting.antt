-- The counts of a header: the number of point records and the numbers by return, in one set, or in two for LAS 1.4.
use Rattle.std.specs.Prelude.{ℕ, ◌+◌, if◌then◌else◌, List, ◌∷◌, ◌++◌, take, replicate}
use Rattle.std.specs.List.{flat_map, splice}
use Rattle.byteorder.specs.Endian.{little_bytes}
use Rattle.las_header.specs.declared.counts.Counts.{Counts}
use Rattle.las_header.specs.declared.limits.TheConstants.{COUNTS_AT, COUNTS_SIZE, LONG_COUNTS_AT, LONG_COUNTS_SIZE}
use Rattle.las_header.specs.Fields.{has_long_counts}

-- the 24 bytes of the short counts: the number of points, then the numbers of points of the returns 1 to 5
unfoldable pub short_bytes : (points : ℕ) → (returns : List ℕ) → List ℕ
short_bytes points returns = flat_map (little_bytes 4) (points ∷ returns)

-- the 128 bytes of the long counts: the number of points, then the numbers of points of the returns 1 to 15
unfoldable pub long_bytes : (points : ℕ) → (returns : List ℕ) → List ℕ
long_bytes points returns = flat_map (little_bytes 8) (points ∷ returns)

-- the head with these bytes for each set of counts that it has, and every other byte as it was
abbrev pub with_count_bytes : (short long head : List ℕ) → List ℕ
with_count_bytes short long head =
    let first = splice head COUNTS_AT (COUNTS_AT + COUNTS_SIZE) short in
    if has_long_counts head then splice first LONG_COUNTS_AT (LONG_COUNTS_AT + LONG_COUNTS_SIZE) long else first

-- the head with these numbers in each set of counts that it has
abbrev pub with_sums : (points : ℕ) → (returns long_returns head : List ℕ) → List ℕ
with_sums points returns long_returns head =
    with_count_bytes (short_bytes points returns) (long_bytes points long_returns) head

-- the numbers of points of the returns 1 to 15, of which no record of the formats 0 to 3 has one above 7
abbrev pub long_returns : Counts → List ℕ
long_returns counts = counts.returns ++ replicate 8 0

-- the bytes of each set of counts
abbrev pub counts_bytes : Counts → List ℕ
counts_bytes counts = short_bytes counts.points (take 5 counts.returns)

abbrev pub long_counts_bytes : Counts → List ℕ
long_counts_bytes counts = long_bytes counts.points (long_returns counts)

-- the head with these counts in each set of counts that it has
abbrev pub with_counts : Counts → (head : List ℕ) → List ℕ
with_counts counts head = with_sums counts.points (take 5 counts.returns) (long_returns counts) head
