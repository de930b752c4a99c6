-- Numbers in files: every number of the LAS specification stands lowest byte first.
use Rattle.std.specs.Prelude.{ℕ, zero, suc, ◌+◌, List, [], ◌∷◌}
use Rattle.std.specs.List.{splice}
use Rattle.byteorder.specs.Endian.{little_bytes, little_from}

-- the unsigned number in the `width` bytes from the place `at` on
unfoldable pub number_at : (width at : ℕ) → List ℕ → ℕ
number_at width at bytes = little_from at width bytes

-- the `count` numbers of `width` bytes each from the place `at` on
abbrev pub numbers_at : (width count at : ℕ) → List ℕ → List ℕ
numbers_at width zero at bytes = []
numbers_at width (suc count) at bytes = number_at width at bytes ∷ numbers_at width count (at + width) bytes

-- the bytes with the number x in the `width` bytes from the place `at` on, and all others as they were
abbrev pub with_number_at : (width at x : ℕ) → List ℕ → List ℕ
with_number_at width at x bytes = splice bytes at (at + width) (little_bytes width x)
