-- Bytes of a record: which of them a symbol marks, their differences, and the models that code them.
use Rattle.std.specs.Prelude.{◌≡◌, ℕ, ◌+◌, ◌-◌, ◌/◌, ◌%◌, ◌==◌, Bool, List, replicate}
use Rattle.laz_models.specs.Counting.{Counting}
use Rattle.laz_models.specs.Bank.{alphabet_sizes}

-- Whether a bit of a symbol of changes is set, given as its power of 2. Each bit marks one field.
unfoldable pub has_bit : ℕ → ℕ → Bool
has_bit bit symbol = symbol / bit % 2 == 1

-- The difference of a byte to another one, modulo 256.
abbrev pub byte_difference : ℕ → ℕ → ℕ
byte_difference from byte = (byte + (256 - from)) % 256

-- The byte that a difference makes of that other one.
abbrev pub byte_plus : ℕ → ℕ → ℕ
byte_plus from difference = (from + difference) % 256

-- A bank of n models of a byte.
abbrev pub AreByteModels : ℕ → List Counting → Type 0
AreByteModels n bank = alphabet_sizes bank ≡ replicate n 256
