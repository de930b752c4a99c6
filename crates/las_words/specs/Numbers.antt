-- Numbers as words of the command line write them: one to twenty digits, leading zeros allowed.
use Rattle.std.specs.Prelude.{ℕ, ℤ, Bool, ◌&&◌, nat_lt, nat_le, if◌then◌else◌, List, drop, length, Option, Some, None}
use Rattle.std.specs.Prelude.{unwrap_or}
use Rattle.std.specs.Str.{all_ascii_digits}
use Rattle.std.specs.Str.Parse.{digits_value, starts_with_minus, signed_digits_value}
use Rattle.las_filter.specs.Coordinates.{in_range}

-- a word of digits alone
abbrev pub is_digits : List ℕ → Bool
is_digits word = nat_lt 0 (length word) && all_ascii_digits word

-- a number: one to twenty digits
abbrev pub is_number : List ℕ → Bool
is_number word = nat_le (length word) 20 && is_digits word

-- the number of a word, if it is a number from the first bound to the second
abbrev pub number_in_range : ℕ → ℕ → List ℕ → Option ℕ
number_in_range low high word =
    let number = digits_value 10 word in
    if is_number word && (nat_le low number && nat_le number high) then Some number else None

-- the number of a word, or 0 if it is none up to the bound
abbrev pub number_or_zero : ℕ → List ℕ → ℕ
number_or_zero most word = unwrap_or (number_in_range 0 most word) 0

-- a word without a minus at its front
abbrev pub without_minus : List ℕ → List ℕ
without_minus word = if starts_with_minus word then drop 1 word else word

-- the signed number of a word, if it is a number after at most one minus, in the range of 32 bits
abbrev pub signed_in : List ℕ → Option ℤ
signed_in word = if is_number (without_minus word) then in_range (signed_digits_value 10 word) else None
