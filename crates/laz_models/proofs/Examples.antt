-- Worked values of the definitions, which compute.
use Rattle.std.proofs.Common.{◌≡◌, true, false, [], ◌∷◌, refl}
use Rattle.laz_models.specs.declared.limits.TheConstants.{BIT_PARTS, GUARD, MAX_BIT_COUNT, MAX_COUNT, MAX_MODELS, MAX_SYMBOLS, SYMBOL_PARTS}
use Rattle.laz_models.specs.BitCounting.{small_bit_counts}
use Rattle.laz_models.specs.BitDist.{bit_cycle, bit_counts_at, p0_of}
use Rattle.laz_models.specs.Counting.{starts_of, small_counts}
use Rattle.laz_models.specs.Cycles.{due, cycle_in}
use Rattle.laz_models.specs.Dist.{cycle, counts_at, dist}
use Rattle.laz_models.specs.Lookup.{first_entry, table_bits, search_bits, start_or_guard}

-- The cycles of 2 symbols are 4, 5, 6, .. long, up to 64, and those of 256 symbols 131, 163, ..
cycles : (cycle 2 0 ≡ 4) × (cycle 2 1 ≡ 5) × (cycle 2 2 ≡ 6) × (cycle 2 16 ≡ 64) × (cycle 256 0 ≡ 131) × (cycle 256 1 ≡ 163)
cycles = (refl, refl, refl, refl, refl, refl)

dues : (due (cycle 2) 0 ≡ 0) × (due (cycle 2) 1 ≡ 4) × (due (cycle 2) 2 ≡ 9) × (due (cycle 2) 3 ≡ 15)
dues = (refl, refl, refl, refl)

-- Before any symbol each has the same part.
first : (dist 2 [] ≡ 0 ∷ 16384 ∷ []) × (dist 3 [] ≡ 0 ∷ 10922 ∷ 21845 ∷ [])
unfolding cycle_in counts_at starts_of
first = (refl, refl)

-- Three symbols change nothing. The fourth ends the cycle: counts of 4 and 2, and a part of two thirds.
end_of_cycle : (dist 2 (0 ∷ 0 ∷ 1 ∷ []) ≡ 0 ∷ 16384 ∷ []) × (dist 2 (0 ∷ 0 ∷ 1 ∷ 0 ∷ []) ≡ 0 ∷ 21845 ∷ [])
unfolding cycle_in counts_at starts_of small_counts
end_of_cycle = (refl, refl)

-- Counts whose sum is above 32,768 are halved, and rounded up.
halving : (small_counts (32766 ∷ 2 ∷ []) ≡ 32766 ∷ 2 ∷ []) × (small_counts (32766 ∷ 3 ∷ []) ≡ 16383 ∷ 2 ∷ [])
unfolding small_counts
halving = (refl, refl)

-- An entry for each four symbols, or fewer symbols.
tables : (table_bits 17 ≡ 3) × (table_bits 32 ≡ 3) × (table_bits 33 ≡ 4) × (table_bits 256 ≡ 6) × (table_bits 516 ≡ 8) × (table_bits 2048 ≡ 9)
unfolding table_bits
tables = (refl, refl, refl, refl, refl, refl)

-- A search of n symbols begins at one of as many entries, rounded up to a power of 2.
searches : (search_bits 2 ≡ 3) × (search_bits 8 ≡ 3) × (search_bits 9 ≡ 4) × (search_bits 33 ≡ 6) × (search_bits 256 ≡ 8) × (search_bits 2048 ≡ 11)
unfolding search_bits
searches = (refl, refl, refl, refl, refl, refl)

-- After the last start there is the guard.
guards : (start_or_guard (0 ∷ 100 ∷ []) 1 ≡ 100) × (start_or_guard (0 ∷ 100 ∷ []) 2 ≡ 65535)
guards = (refl, refl)

-- ---- bits
bit_cycles : (bit_cycle 0 ≡ 4) × (bit_cycle 1 ≡ 5) × (bit_cycle 2 ≡ 6) × (bit_cycle 16 ≡ 64) × (due bit_cycle 2 ≡ 9)
bit_cycles = (refl, refl, refl, refl, refl)

-- Half at first, and 5 of 6 after four zeros. Three bits change nothing.
bits : (p0_of [] ≡ 4096) × (p0_of (false ∷ false ∷ false ∷ []) ≡ 4096) × (p0_of (false ∷ false ∷ false ∷ false ∷ []) ≡ 6826) × (p0_of (true ∷ true ∷ true ∷ true ∷ []) ≡ 1365)
unfolding cycle_in bit_counts_at small_bit_counts
bits = (refl, refl, refl, refl)

-- More than 8,192 bits are halved, and one of them stays a 1.
bit_halving : (small_bit_counts 8191 8192 ≡ (8191, 8192)) × (small_bit_counts 100 8193 ≡ (50, 4097)) × (small_bit_counts 8199 8200 ≡ (4100, 4101))
unfolding small_bit_counts
bit_halving = (refl, refl, refl)

-- In steps of 128 places a part that begins at 0, 1, 128 or 129 has begun at entry 0, 1, 1 or 2.
first_entries : (first_entry 0 7 ≡ 0) × (first_entry 1 7 ≡ 1) × (first_entry 128 7 ≡ 1) × (first_entry 129 7 ≡ 2)
first_entries = (refl, refl, refl, refl)

-- the numbers that the definitions take from the code
bit_parts_is : BIT_PARTS ≡ 8192
bit_parts_is = refl

guard_is : GUARD ≡ 65535
guard_is = refl

max_bit_count_is : MAX_BIT_COUNT ≡ 8192
max_bit_count_is = refl

max_count_is : MAX_COUNT ≡ 32768
max_count_is = refl

max_models_is : MAX_MODELS ≡ 1024
max_models_is = refl

max_symbols_is : MAX_SYMBOLS ≡ 2048
max_symbols_is = refl

symbol_parts_is : SYMBOL_PARTS ≡ 32768
symbol_parts_is = refl
