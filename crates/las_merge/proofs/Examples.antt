-- Worked values of the definitions.
use Rattle.std.proofs.Common.{◌≡◌, ℕ, List, Some, None, refl}
use Rattle.std.specs.Prelude.{replicate, slice_set}
use Rattle.las_header.specs.Numbers.{number_at}
use Rattle.laz_forms.specs.declared.fault.Fault.TheVariants as fault
use Rattle.las_header.specs.declared.limits.TheConstants.{BOUNDS_AT, OFFSETS_AT, SCALES_AT}
use Rattle.las_merge.specs.declared.appending.TheConstants.{PIECE}
use Rattle.las_merge.specs.declared.field.Field.TheVariants.{Format, Length, Scales, Offsets, Bounds}
use Rattle.las_merge.specs.declared.fault.MergeFault.TheVariants.{At, Write}
use Rattle.las_merge.specs.Fields.{first_difference}
use Rattle.las_merge.specs.Opening.{merge_fault}

-- a head of nothing but zeros, and one with another byte at a place
abbrev zeros : List ℕ
zeros = replicate 227 0

abbrev with_byte : (place byte : ℕ) → List ℕ
with_byte place byte = slice_set zeros place byte

-- the places of the fields that are compared
places_are : (SCALES_AT ≡ 131) × (OFFSETS_AT ≡ 155) × (BOUNDS_AT ≡ 179)
places_are = (refl, refl, refl)

-- bit 7 of the format byte is not compared, and every other one is
packed_or_plain : first_difference zeros (with_byte 104 128) ≡ None
unfolding number_at
packed_or_plain = refl

another_format : first_difference zeros (with_byte 104 129) ≡ Some Format
another_format = refl

another_length : first_difference zeros (with_byte 105 20) ≡ Some Length
unfolding number_at
another_length = refl

-- the first and the last byte of each run of doubles, and the bytes around them
before_scales : first_difference zeros (with_byte 130 1) ≡ None
unfolding number_at
before_scales = refl

first_of_scales : first_difference zeros (with_byte 131 1) ≡ Some Scales
unfolding number_at
first_of_scales = refl

last_of_scales : first_difference zeros (with_byte 154 1) ≡ Some Scales
unfolding number_at
last_of_scales = refl

first_of_offsets : first_difference zeros (with_byte 155 1) ≡ Some Offsets
unfolding number_at
first_of_offsets = refl

last_of_offsets : first_difference zeros (with_byte 178 1) ≡ Some Offsets
unfolding number_at
last_of_offsets = refl

first_of_bounds : first_difference zeros (with_byte 179 1) ≡ Some Bounds
unfolding number_at
first_of_bounds = refl

last_of_bounds : first_difference zeros (with_byte 226 1) ≡ Some Bounds
unfolding number_at
last_of_bounds = refl

-- of two fields that differ the first is named
scales_before_bounds : first_difference zeros (slice_set (with_byte 226 1) 140 1) ≡ Some Scales
unfolding number_at
scales_before_bounds = refl

-- a write that failed is no input's
write_fault : merge_fault 3 fault.Write ≡ Write
write_fault = refl

read_fault : merge_fault 3 fault.Read ≡ At 3 fault.Read
read_fault = refl

-- chunks are copied in pieces of 2^20 bytes
piece : PIECE ≡ 1048576
piece = refl
