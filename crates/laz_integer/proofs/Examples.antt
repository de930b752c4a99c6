-- Worked values of the definitions.
use Rattle.std.proofs.Common.{◌≡◌, ℕ, pos, negsuc, true, false, List, [], ◌∷◌, map, refl}
use Rattle.laz_integer.specs.declared.limits.TheConstants.{HIGH_BITS, MAX_BITS, MAX_CONTEXTS, MAX_INT_BYTES, MAX_SHORT_INT_BYTES, SHORT_BITS}
use Rattle.std.specs.Prelude.{codes}
use Rattle.laz_range.specs.Cut.{Part, Bit}
use Rattle.laz_range.specs.Span.{span, bytes_of, renormal_step, subspan}
use Rattle.laz_models.specs.BitCounting.{new_bit_model}
use Rattle.laz_models.specs.Counting.{new_model, starts_of}
use Rattle.laz_models.specs.Cycles.{cycle_in}
use Rattle.laz_models.specs.Dist.{counts_at}
use Rattle.laz_integer.specs.Corrector.{digits_within, width_of, corrector_index, corrector, corrected}
use Rattle.laz_integer.specs.Events.{Symbol, Flag, Bits, cuts_of}
use Rattle.laz_integer.specs.Fields.{byte_events, if_marked, word_events}
use Rattle.laz_integer.specs.Integer.{IntEvents, IntState, int_cuts, int_sizes, symbol_at, width_name, bit_name, high_name, rest_events}
use Rattle.laz_integer.specs.Uses.{apart, own_name}

-- an integer called "x"
x : List ℕ
x = 120 ∷ []

-- the least corrector of 32 bits: its width alone
least : IntEvents x 32 0 (pos 0) (negsuc 2147483647) ≡ Symbol (width_name x 0) 33 32 ∷ []
unfolding digits_within width_of corrector_index rest_events
least = refl

least_bytes : bytes_of (span (cuts_of (IntEvents x 32 0 (pos 0) (negsuc 2147483647)))) ≡ 249 ∷ 0 ∷ 0 ∷ 0 ∷ []
unfolding digits_within width_of corrector_index rest_events renormal_step subspan starts_of counts_at cycle_in
least_bytes = refl

-- a corrector of 2 ^ 20
twenty : IntEvents x 32 1 (pos 0) (pos 1048576) ≡ Symbol (width_name x 1) 33 20 ∷ Symbol (high_name x 20) 256 255 ∷ Bits 12 4095 ∷ []
unfolding digits_within width_of corrector_index rest_events
twenty = refl

-- the greatest corrector: 23 raw bits, in 16 and 7
greatest : IntEvents x 32 0 (pos 0) (pos 2147483647) ≡ Symbol (width_name x 0) 33 31 ∷ Symbol (high_name x 31) 256 255 ∷ Bits 16 65534 ∷ Bits 7 127 ∷ []
unfolding digits_within width_of corrector_index rest_events
greatest = refl

-- 65,535 with 16 bits is a corrector of -1
minus_one : IntEvents x 16 0 (pos 0) (pos 65535) ≡ Symbol (width_name x 0) 17 1 ∷ Symbol (high_name x 1) 2 0 ∷ []
unfolding digits_within width_of corrector_index rest_events
minus_one = refl

minus_one_bytes : bytes_of (span (cuts_of (IntEvents x 16 0 (pos 0) (pos 65535)))) ≡ 16 ∷ 0 ∷ 0 ∷ 0 ∷ []
unfolding digits_within width_of corrector_index rest_events renormal_step subspan starts_of counts_at cycle_in
minus_one_bytes = refl

-- correctors of 0, 1, 2 and -1: the bit 0, the bit 1, width 1 and width 1
zero_is : IntEvents x 32 0 (pos 7) (pos 7) ≡ Symbol (width_name x 0) 33 0 ∷ Flag (bit_name x) false ∷ []
unfolding digits_within width_of corrector_index rest_events
zero_is = refl

one_is : IntEvents x 32 0 (pos 7) (pos 8) ≡ Symbol (width_name x 0) 33 0 ∷ Flag (bit_name x) true ∷ []
unfolding digits_within width_of corrector_index rest_events
one_is = refl

two_is : IntEvents x 32 0 (pos 7) (pos 9) ≡ Symbol (width_name x 0) 33 1 ∷ Symbol (high_name x 1) 2 1 ∷ []
unfolding digits_within width_of corrector_index rest_events
two_is = refl

-- read again: the lower half is below the prediction, the upper half above it
below : corrected 32 (pos 7) 1 0 ≡ pos 6
unfolding corrector
below = refl

above : corrected 32 (pos 7) 1 1 ≡ pos 9
unfolding corrector
above = refl

-- with 32 bits it wraps, with 8 it is folded
wraps : corrected 32 (negsuc 0) 32 0 ≡ pos 2147483647
unfolding corrector
wraps = refl

folds : corrected 8 (pos 250) 4 9 ≡ pos 4
unfolding corrector
folds = refl

-- a number of 16 bits, marked and not
word_is : word_events x 0 7 9 ≡ Symbol (width_name x 0) 17 1 ∷ Symbol (high_name x 1) 2 1 ∷ []
unfolding digits_within width_of corrector_index rest_events
word_is = refl

unmarked : if_marked false (byte_events x 3 200) ≡ []
unmarked = refl

marked : if_marked true (byte_events x 3 200) ≡ Symbol (own_name x 3) 256 200 ∷ []
marked = refl

-- uses that differ, and one that does not
differ : apart (codes "dx" ∷ codes "z" ∷ []) (codes "dy" ∷ codes "intensity" ∷ []) ≡ true
differ = refl

again : apart (codes "dx" ∷ codes "z" ∷ []) (codes "dy" ∷ codes "z" ∷ []) ≡ false
again = refl

-- the symbol of a place: parts from 0, 100 and 32,000 on
before_second : symbol_at (0 ∷ 100 ∷ 32000 ∷ []) 99 ≡ 0
before_second = refl

at_second : symbol_at (0 ∷ 100 ∷ 32000 ∷ []) 100 ≡ 1
at_second = refl

at_last : symbol_at (0 ∷ 100 ∷ 32000 ∷ []) 32767 ≡ 2
at_last = refl

-- new models of integers of one bit: a corrector of 1 is a width of 0, in the lower half, and a bit of 1
one_bit : IntState
one_bit = record { bits = 1; contexts = 1; zero_or_one = new_bit_model; bank = map new_model (int_sizes 1 1) }

one_bit_cuts : int_cuts one_bit 0 0 1 ≡ Part 0 16384 ∷ Bit 4096 true ∷ []
unfolding one_bit int_sizes rest_events new_model starts_of
one_bit_cuts = refl

-- the numbers that the definitions take from the code
high_bits_is : HIGH_BITS ≡ 8
high_bits_is = refl

max_bits_is : MAX_BITS ≡ 32
max_bits_is = refl

max_contexts_is : MAX_CONTEXTS ≡ 32
max_contexts_is = refl

max_int_bytes_is : MAX_INT_BYTES ≡ 12
max_int_bytes_is = refl

max_short_int_bytes_is : MAX_SHORT_INT_BYTES ≡ 9
max_short_int_bytes_is = refl

short_bits_is : SHORT_BITS ≡ 27
short_bits_is = refl
