-- Laws of chunk tables.
use Rattle.std.specs.Prelude.{◌≡◌, ℕ, ◌+◌, ◌*◌, ◌^◌, ◌<◌, ◌≤◌, ◌↔◌, Bool, true, false, List, [], length}
use Rattle.std.specs.Prelude.{take}
use Rattle.std.specs.List.{AllByRecursion}
use Rattle.laz_range.specs.Span.{IsBytes}
use Rattle.laz_table.specs.declared.limits.TheConstants.{MAX_CHUNK_BYTES, MIN_TABLE_BYTES}
use Rattle.laz_table.specs.Table.{TableHolds, table_bytes}

-- Each number of a list has 32 bits.
abbrev pub AreWords : List ℕ → Type 0
AreWords numbers = AllByRecursion (λ n. n < 2 ^ 32) numbers

-- A table that is written holds the lists that it is written of.
abbrev pub HoldsFixed : Type 0
HoldsFixed = (counts : List ℕ) → length counts < 2 ^ 32 → AreWords counts
    → TableHolds (table_bytes [] counts) (length counts) false [] counts

abbrev pub HoldsCounted : Type 0
HoldsCounted =
    (sizes counts : List ℕ) → length sizes ≡ length counts → length counts < 2 ^ 32 → AreWords sizes → AreWords counts
    → TableHolds (table_bytes sizes counts) (length counts) true sizes counts

-- Bytes hold at most one pair of lists, for each number of chunks and each kind of chunks.
abbrev pub IsOnlyOne : Type 0
IsOnlyOne =
    (bytes : List ℕ) (n : ℕ) (counted : Bool) (sizes counts others more : List ℕ) → IsBytes bytes
    → TableHolds bytes n counted sizes counts → TableHolds bytes n counted others more
    → (sizes ≡ others) × (counts ≡ more)

-- A table that is written has at most 12 bytes and 24 for each chunk.
abbrev pub IsShort : Type 0
IsShort = (sizes counts : List ℕ)
    → length (table_bytes sizes counts) ≤ MIN_TABLE_BYTES + MAX_CHUNK_BYTES * length counts

-- And that many of its first bytes decide which lists it holds.
abbrev pub FrontHolds : Type 0
FrontHolds =
    (bytes : List ℕ) (n : ℕ) (counted : Bool) (sizes counts : List ℕ)
    → TableHolds bytes n counted sizes counts
    ↔ TableHolds (take (MIN_TABLE_BYTES + MAX_CHUNK_BYTES * n) bytes) n counted sizes counts
