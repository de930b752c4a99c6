-- The fields in which the heads of files are compared before the files are merged. Doubles are compared as their bytes,
-- and never as numbers.
use Rattle.std.specs.Prelude.{ℕ, ◌==◌, Bool, if◌then◌else◌, List, [], ◌∷◌, take, drop, Option, Some, None}
use Rattle.std.specs.Str.{bytes_eq}
use Rattle.las_header.specs.declared.limits.TheConstants.{BOUNDS_AT, OFFSETS_AT, SCALES_AT}
use Rattle.las_header.specs.Fields.{format_of, record_length_of}
use Rattle.las_merge.specs.declared.field.Field.{Field}
use Rattle.las_merge.specs.declared.field.Field.TheVariants.{Format, Length, Scales, Offsets, Bounds}

-- some bytes of a head, from a place on
abbrev pub field_bytes : (place size : ℕ) → (head : List ℕ) → List ℕ
field_bytes place size head = take size (drop place head)

-- Two heads have the same in a field (LAS specification, "Public Header Block"): three doubles of scales, three of
-- offsets, and the six of the box.
abbrev pub is_same : Field → (head other : List ℕ) → Bool
is_same Format head other = format_of head == format_of other
is_same Length head other = record_length_of head == record_length_of other
is_same Scales head other = bytes_eq (field_bytes SCALES_AT 24 head) (field_bytes SCALES_AT 24 other)
is_same Offsets head other = bytes_eq (field_bytes OFFSETS_AT 24 head) (field_bytes OFFSETS_AT 24 other)
is_same Bounds head other = bytes_eq (field_bytes BOUNDS_AT 48 head) (field_bytes BOUNDS_AT 48 other)

-- the first of some fields in which two heads differ
abbrev pub first_differing : List Field → (head other : List ℕ) → Option Field
first_differing [] head other = None
first_differing (field ∷ fields) head other =
    if is_same field head other then first_differing fields head other else Some field

-- the first field in which two heads differ
abbrev pub first_difference : (head other : List ℕ) → Option Field
first_difference head other = first_differing (Format ∷ Length ∷ Scales ∷ Offsets ∷ Bounds ∷ []) head other
