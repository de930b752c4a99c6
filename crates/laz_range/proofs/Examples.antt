-- Worked values of the definitions, which compute.
use Rattle.std.proofs.Common.{◌≡◌, true, [], ◌∷◌, Some, None, refl}
use Rattle.laz_range.specs.declared.limits.TheConstants.{BIT_PARTS, GUARD, MAX_LENGTH, MAX_RAW_BITS, MIN_LENGTH, SYMBOL_PARTS}
use Rattle.std.specs.Option.{option_and_then}
use Rattle.laz_range.specs.Cut.{Part, Bit, Raw, raw_cuts, start_in, width_in}
use Rattle.laz_range.specs.Span.{renormal_step, subspan, span, number, digits, bytes_of, bytes_for}
use Rattle.laz_range.specs.Reading.{refill_step, reading_after_part, follow, follow_all, initial_reading, quotient}

-- no event: one byte of the number, and three zero bytes
no_event : bytes_of (span []) ≡ 1 ∷ 0 ∷ 0 ∷ 0 ∷ []
no_event = refl

-- one raw value of 8 bits
raw_0 : bytes_of (span (raw_cuts 8 0)) ≡ 0 ∷ 1 ∷ 0 ∷ 0 ∷ 0 ∷ []
unfolding renormal_step subspan
raw_0 = refl

-- .. whose end carries into the first byte
raw_255 : bytes_of (span (raw_cuts 8 255)) ≡ 255 ∷ 0 ∷ 0 ∷ 0 ∷ 0 ∷ []
unfolding renormal_step subspan
raw_255 = refl

-- the span of that value: the low end is 255 * 16777215, in one digit more
span_255 : span (raw_cuts 8 255) ≡ record { low = 1095216595200; len = 4294967040; shifts = 1 }
unfolding renormal_step subspan
span_255 = refl

-- the last of 33 symbols under counts of 1 each, and nothing more: a corrector of -2 ^ 31 in a fresh integer model of LASzip
last_of_33 : bytes_of (span (Part 31775 32768 ∷ [])) ≡ 249 ∷ 0 ∷ 0 ∷ 0 ∷ []
unfolding renormal_step subspan
last_of_33 = refl

-- symbol 1 of 17 and symbol 0 of 2: a corrector of -1 in a fresh integer model of 16 bits
one_of_17 : bytes_of (span (Part 1927 3855 ∷ Part 0 16384 ∷ [])) ≡ 16 ∷ 0 ∷ 0 ∷ 0 ∷ []
unfolding renormal_step subspan
one_of_17 = refl

-- a word of 32 bits is its low half and its high half
word : raw_cuts 32 4275878552 ≡ Raw 16 47768 ∷ Raw 16 65244 ∷ []
word = refl

-- a symbol that is the last has what the division leaves
last_width : width_in 16777217 (Part 32767 32768) ≡ 513
last_width = refl

more_width : width_in 16777217 (Part 32766 32767) ≡ 512
more_width = refl

bit_of_1 : (start_in 16777217 (Bit 8191 true) ≡ 16775168) × (width_in 16777217 (Bit 8191 true) ≡ 2049)
bit_of_1 = (refl, refl)

-- a part of 255 numbers asks for three bytes, and one of 2 ^ 24 for none
three_bytes : (bytes_for 255 ≡ 3) × (bytes_for 256 ≡ 2) × (bytes_for 65536 ≡ 1) × (bytes_for 16777216 ≡ 0)
unfolding bytes_for
three_bytes = (refl, refl, refl, refl)

-- digits, greatest first
digits_of : digits 3 66051 ≡ 1 ∷ 2 ∷ 3 ∷ []
digits_of = refl

number_of : number (1 ∷ 2 ∷ 3 ∷ []) ≡ 66051
number_of = refl

-- ---- reading
-- bytes of 255 alone begin no list of events, and three bytes none
no_opening : initial_reading (255 ∷ 255 ∷ 255 ∷ 255 ∷ []) ≡ None
no_opening = refl

too_few : initial_reading (1 ∷ 0 ∷ 0 ∷ []) ≡ None
too_few = refl

-- the raw value 255 is read again, and no byte is left
read_255 : option_and_then (λ r. follow_all r (raw_cuts 8 255)) (initial_reading (255 ∷ 0 ∷ 0 ∷ 0 ∷ 0 ∷ [])) ≡ Some (record { value = 65280; len = 4294967040; rest = [] })
unfolding follow reading_after_part refill_step
read_255 = refl

-- .. and 254 does not begin these bytes
not_254 : option_and_then (λ r. follow_all r (raw_cuts 8 254)) (initial_reading (255 ∷ 0 ∷ 0 ∷ 0 ∷ 0 ∷ [])) ≡ None
unfolding follow reading_after_part refill_step
not_254 = refl

-- a quotient of 2 ^ 8, which is no raw value of 8 bits
no_raw_value : quotient (record { value = 4294967040; len = 4294967295; rest = [] }) 8 ≡ 256
no_raw_value = refl

-- the numbers that the definitions take from the code
bit_parts_is : BIT_PARTS ≡ 8192
bit_parts_is = refl

guard_is : GUARD ≡ 65535
guard_is = refl

max_length_is : MAX_LENGTH ≡ 4294967295
max_length_is = refl

max_raw_bits_is : MAX_RAW_BITS ≡ 19
max_raw_bits_is = refl

min_length_is : MIN_LENGTH ≡ 16777216
min_length_is = refl

symbol_parts_is : SYMBOL_PARTS ≡ 32768
symbol_parts_is = refl
