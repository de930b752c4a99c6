-- The line that a run puts on standard error, for each cause for which it ends.
use Rattle.std.specs.Prelude.{ℕ, List, [], ◌∷◌, ◌++◌, codes, Option, Some, None}
use Rattle.std.specs.Fmt.{decimal}
use Rattle.std.specs.List.{concat}
use Rattle.las_header.specs.declared.refusal.Refusal.{Refusal}
use Rattle.las_header.specs.declared.refusal.Refusal.TheVariants as refusal
use Rattle.las_header.specs.Causes.{cause_number, cause_name}
use Rattle.las_merge.specs.declared.field.Field.{Field}
use Rattle.las_merge.specs.declared.field.Field.TheVariants.{Format, Length, Scales, Offsets, Bounds}
use Rattle.las_run.specs.declared.stop.Surplus.{Surplus}
use Rattle.las_run.specs.declared.stop.Surplus.TheVariants.{Chunks, Points}
use Rattle.las_run.specs.Endings.{Cause, Done, Memory, Usage, Unread, Unwritten, Refused, Differs, HasTooMany}

abbrev pub line_feed : List ℕ
line_feed = 10 ∷ []

-- the number that a refusal carries: of a chunk or of a record
abbrev pub number_in : Refusal → Option ℕ
number_in (refusal.BadChunk chunk) = Some chunk
number_in (refusal.RawRange record_number) = Some record_number
number_in _ = None

-- a carried number after a blank
abbrev pub after_blank : Option ℕ → List ℕ
after_blank None = []
after_blank (Some n) = codes " " ++ decimal n

-- the word for a field in which inputs differ
abbrev pub field_name : Field → List ℕ
field_name Format = codes "format"
field_name Length = codes "length"
field_name Scales = codes "scales"
field_name Offsets = codes "offsets"
field_name Bounds = codes "box"

-- the word for what inputs have too many of
abbrev pub surplus_name : Surplus → List ℕ
surplus_name Points = codes "points"
surplus_name Chunks = codes "chunks"

-- nothing if all is done, and else one line
abbrev pub line_of : Cause → List ℕ
line_of Done = []
line_of Memory = concat (codes "no memory" ∷ line_feed ∷ [])
line_of (Usage index) = concat (codes "usage: word " ∷ decimal index ∷ line_feed ∷ [])
line_of (Unread name) = concat (codes "read fault: " ∷ name ∷ line_feed ∷ [])
line_of Unwritten = concat (codes "write fault" ∷ line_feed ∷ [])
line_of (Refused name cause) =
    concat (codes "refused: " ∷ name ∷ codes ": " ∷ decimal (cause_number cause) ∷ codes " " ∷ cause_name cause
    ∷ after_blank (number_in cause) ∷ line_feed ∷ [])
line_of (Differs name field) = concat (codes "unequal: " ∷ name ∷ codes ": " ∷ field_name field ∷ line_feed ∷ [])
line_of (HasTooMany surplus) = concat (codes "too many " ∷ surplus_name surplus ∷ line_feed ∷ [])
