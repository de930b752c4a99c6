-- Values that compute: a packed file of one record, copied twice into one.
use Rattle.std.proofs.Common.{◌≡◌, ℕ, List, [], ◌∷◌, ◌++◌, replicate, codes, length, refl}
use Rattle.byteorder.specs.Endian.{little_bytes}
use Rattle.laz_range.specs.Span.{renormal_step, subspan}
use Rattle.laz_models.specs.BitDist.{bit_counts_at}
use Rattle.laz_models.specs.Counting.{starts_of}
use Rattle.laz_models.specs.Cycles.{cycle_in}
use Rattle.laz_models.specs.Dist.{counts_at}
use Rattle.laz_integer.specs.Corrector.{digits_within, width_of, corrector_index}
use Rattle.laz_integer.specs.Integer.{rest_events}
use Rattle.las_header.specs.Counting.{short_bytes, long_bytes}
use Rattle.las_header.specs.Numbers.{number_at}
use Rattle.laz_forms.proofs.Public.{chunk, head, one_packed, pointer}
use Rattle.laz_copied.specs.Copied.{Chunk, all_of, copied_file, copied_head, long_returns_in, returns_in}

-- ---- the file twice, as one
abbrev file : List ℕ
file = one_packed pointer

abbrev piece : Chunk
piece = record { count = 1; bytes = chunk }

abbrev counted_vlr : List ℕ
counted_vlr =
    (0 ∷ 0 ∷ []) ++ codes "laszip encoded" ++ (0 ∷ 0 ∷ 188 ∷ 86 ∷ 40 ∷ 0 ∷ []) ++ codes "laszip version 2 items" ++ replicate 10 0
    ++ (2 ∷ 0 ∷ 0 ∷ 0 ∷ 2 ∷ 2 ∷ 0 ∷ 0 ∷ 0 ∷ 0 ∷ 0 ∷ 0 ∷ 255 ∷ 255 ∷ 255 ∷ 255 ∷ []) ++ replicate 16 255
    ++ (1 ∷ 0 ∷ 6 ∷ 0 ∷ 20 ∷ 0 ∷ 2 ∷ 0 ∷ [])

abbrev copied : List ℕ
copied =
    head 321 1 128 2 ++ counted_vlr ++ (121 ∷ 1 ∷ 0 ∷ 0 ∷ 0 ∷ 0 ∷ 0 ∷ 0 ∷ []) ++ chunk ++ chunk
    ++ (0 ∷ 0 ∷ 0 ∷ 0 ∷ 2 ∷ 0 ∷ 0 ∷ 0 ∷ 4 ∷ 139 ∷ 210 ∷ 37 ∷ 0 ∷ 0 ∷ 0 ∷ [])

its_returns : returns_in (file ∷ file ∷ []) ≡ 2 ∷ 0 ∷ 0 ∷ 0 ∷ 0 ∷ []
unfolding number_at
its_returns = refl

its_size : length copied ≡ 392
its_size = refl

copied_twice : copied_file (file ∷ file ∷ []) (piece ∷ piece ∷ []) ≡ copied
unfolding number_at short_bytes long_bytes digits_within width_of corrector_index rest_events renormal_step subspan starts_of counts_at cycle_in bit_counts_at
copied_twice = refl

-- ---- sums of returns
-- a LAS 1.4 head that counts this many points, whose first two returns have these numbers in the two sets
abbrev long_head : (points short first second : ℕ) → List ℕ
long_head points short first second =
    codes "LASF" ++ replicate 20 0 ++ (1 ∷ 4 ∷ []) ++ replicate 68 0 ++ little_bytes 2 375 ++ little_bytes 4 375
    ++ little_bytes 4 0 ++ (0 ∷ 20 ∷ 0 ∷ []) ++ little_bytes 4 points ++ little_bytes 4 short ++ replicate 132 0
    ++ little_bytes 8 points ++ little_bytes 8 first ++ little_bytes 8 second ++ replicate 104 0

abbrev full : List ℕ
full = long_head 3 4294967295 18446744073709551615 7

long_size : length full ≡ 375
long_size = refl

-- a sum that is too great becomes the greatest number, in each set
short_sums : returns_in (full ∷ file ∷ []) ≡ 4294967295 ∷ 0 ∷ 0 ∷ 0 ∷ 0 ∷ []
unfolding number_at
short_sums = refl

long_sums : long_returns_in (full ∷ file ∷ full ∷ []) ≡ 18446744073709551615 ∷ 14 ∷ replicate 13 0
unfolding number_at
long_sums = refl

-- a file of another version gives its five numbers to the second set, and only a first file of LAS 1.4 has one
both_sets : long_returns_in (long_head 3 4 4 5 ∷ file ∷ []) ≡ 5 ∷ 5 ∷ replicate 13 0
unfolding number_at
both_sets = refl

later_long : length (copied_head (file ∷ full ∷ [])) ≡ 227
unfolding number_at short_bytes long_bytes
later_long = refl

-- an input without chunks gives none
no_pieces : copied_file (file ∷ file ∷ []) (all_of ((piece ∷ []) ∷ [] ∷ (piece ∷ []) ∷ [])) ≡ copied_file (file ∷ file ∷ []) (piece ∷ piece ∷ [])
no_pieces = refl
