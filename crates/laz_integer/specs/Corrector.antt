-- Differences of integers and their correctors (LASzip's integer compressor).
use Rattle.std.specs.Prelude.{ℕ, zero, suc, ℤ, ◌+◌, ◌-◌, ◌%◌, ◌^◌, ◌<◌, ◌==◌, nat_lt, nat_le, if◌then◌else◌}
use Rattle.laz_integer.specs.declared.limits.TheConstants.{MAX_BITS}
use Rattle.std.specs.Int.{w32, cast_signed, cast_unsigned}

-- The number of binary digits of n, if there are at most m: the greatest power of 2 that is not above n is the first of
-- them.
unfoldable pub digits_within : ℕ → ℕ → ℕ
digits_within zero n = 0
digits_within (suc j) n = if nat_le (2 ^ j) n then suc j else digits_within j n

-- The number of binary digits of a word.
abbrev pub digits_of : ℕ → ℕ
digits_of n = digits_within MAX_BITS n

-- The difference of two integers of `bits` bits, modulo 2 ^ bits.
abbrev pub difference : ℕ → ℤ → ℤ → ℕ
difference bits pred real = (cast_unsigned w32 real + (4294967296 - cast_unsigned w32 pred)) % 2 ^ bits

-- A difference d stands for the corrector c = d if d is below 2 ^ (bits - 1), and for c = d - 2 ^ bits otherwise. The
-- corrector's width is the number of digits of c - 1 if c is above 0, and of -c otherwise.
unfoldable pub width_of : ℕ → ℕ → ℕ
width_of bits d = if nat_lt d (2 ^ (bits - 1)) then digits_of (d - 1) else digits_of (2 ^ bits - d)

-- The corrector's index in its width k: c itself if k is 0, c - 1 if c is above 1, and c + 2 ^ k - 1 if c is below 0.
-- Width 32 has one corrector.
unfoldable pub corrector_index : ℕ → ℕ → ℕ → ℕ
corrector_index bits d k =
    if k == 0 then d
    else if k == MAX_BITS then 0
    else if nat_lt d (2 ^ (bits - 1)) then d - 1
    else 2 ^ k - 1 - (2 ^ bits - d)

-- The number of correctors of width k.
unfoldable pub choices : ℕ → ℕ
choices k = if k == 0 then 2 else if k == MAX_BITS then 1 else 2 ^ k

-- The corrector of width k and index v, modulo 2 ^ bits: v if k is 0, -2 ^ 31 if k is 32, v + 1 if v is in the upper
-- half, else v - (2 ^ k - 1).
unfoldable pub corrector : ℕ → ℕ → ℕ → ℕ
corrector bits k v =
    if k == 0 then v
    else if k == MAX_BITS then 2147483648
    else if nat_le (2 ^ (k - 1)) v then (v + 1) % 2 ^ bits
    else 2 ^ bits - (2 ^ k - 1 - v)

-- The integer that a corrector makes of its prediction: their sum modulo 2 ^ bits, which is a signed word if bits is
-- 32.
abbrev pub corrected : ℕ → ℤ → ℕ → ℕ → ℤ
corrected bits pred k v = cast_signed w32 ((cast_unsigned w32 pred + corrector bits k v) % 2 ^ bits)

-- An integer of `bits` bits: any i32 if bits is 32, and from 0 to 2 ^ bits - 1 otherwise.
abbrev pub HasBits : ℕ → ℤ → Type 0
HasBits bits z = cast_unsigned w32 z < 2 ^ bits
