-- Worked values of the definitions.
use Rattle.std.proofs.Common.{◌≡◌, None, Some, [], ◌∷◌, ◌++◌, length, codes, refl}
use Rattle.std.specs.Fmt.{digits}
use Rattle.las_header.specs.declared.refusal.Refusal.TheVariants.{BadChunk, NotPacked, RawRange, Trailing}
use Rattle.las_merge.specs.declared.fault.MergeFault.TheVariants.{At, Unequal}
use Rattle.las_merge.specs.declared.field.Field.TheVariants.{Format, Length, Scales, Offsets, Bounds}
use Rattle.laz_forms.specs.declared.fault.Fault.TheVariants as file
use Rattle.las_run.specs.declared.stop.Surplus.TheVariants.{Chunks, Points}
use Rattle.las_thin.specs.declared.pick.Pick.TheVariants.{First, Lowest, Highest}
use Rattle.las_run.specs.Asking.{in_readings}
use Rattle.las_run.specs.Endings.{Memory, Usage, Unread, Unwritten, Refused, Differs, HasTooMany, ends_at_once}
use Rattle.las_run.specs.Lines.{field_name, line_of}
use Rattle.las_run.specs.Tools.{cause_at, cause_of_fault, converted, made_text}

no_memory : line_of Memory ≡ codes "no memory" ++ 10 ∷ []
no_memory = refl

write_fault : line_of Unwritten ≡ codes "write fault" ++ 10 ∷ []
write_fault = refl

fifth : line_of (Usage 5) ≡ codes "usage: word 5" ++ 10 ∷ []
unfolding digits
fifth = refl

hundredth : line_of (Usage 100) ≡ codes "usage: word 100" ++ 10 ∷ []
unfolding digits
hundredth = refl

missing : line_of (Unread (codes "none.las")) ≡ codes "read fault: none.las" ++ 10 ∷ []
missing = refl

too_long : line_of (Refused (codes "a.las") Trailing) ≡ codes "refused: a.las: 10 Trailing" ++ 10 ∷ []
unfolding digits
too_long = refl

bad_chunk : line_of (Refused (codes "a.laz") (BadChunk 3)) ≡ codes "refused: a.laz: 21 BadChunk 3" ++ 10 ∷ []
unfolding digits
bad_chunk = refl

raw_range : line_of (Refused (codes "a.las") (RawRange 0)) ≡ codes "refused: a.las: 22 RawRange 0" ++ 10 ∷ []
unfolding digits
raw_range = refl

-- the inputs of a merge are named by their numbers
second_differs : cause_of_fault (codes "a.las" ∷ codes "b.las" ∷ []) (Unequal 1 Bounds) ≡ Differs (codes "b.las") Bounds
second_differs = refl

second_is_refused :
    cause_of_fault (codes "a.las" ∷ codes "b.las" ∷ []) (At 1 (file.Refused Trailing)) ≡ Refused (codes "b.las") Trailing
second_is_refused = refl

chunk_of_the_second :
    cause_at (codes "a.laz" ∷ codes "b.laz" ∷ []) (Some (record { file = 1; chunk = 2 }))
    ≡ Refused (codes "b.laz") (BadChunk 2)
chunk_of_the_second = refl

unequal : line_of (Differs (codes "b.las") Bounds) ≡ codes "unequal: b.las: box" ++ 10 ∷ []
unequal = refl

formats : line_of (Differs (codes "b.las") Format) ≡ codes "unequal: b.las: format" ++ 10 ∷ []
formats = refl

-- the other fields have their words too
fields : (field_name Length ≡ codes "length") × (field_name Scales ≡ codes "scales") × (field_name Offsets ≡ codes "offsets")
fields = (refl, refl, refl)

too_many : line_of (HasTooMany Points) ≡ codes "too many points" ++ 10 ∷ []
too_many = refl

too_many_chunks : line_of (HasTooMany Chunks) ≡ codes "too many chunks" ++ 10 ∷ []
too_many_chunks = refl

-- a plain input whose chunks are to be copied
not_packed : line_of (cause_of_fault (codes "a.laz" ∷ codes "a.las" ∷ []) (At 1 (file.Refused NotPacked))) ≡ codes "refused: a.las: 27 NotPacked" ++ 10 ∷ []
unfolding digits
not_packed = refl

three_lines :
    made_text 3 327 180 ≡ codes "points 3" ++ 10 ∷ codes "plain 327" ++ 10 ∷ codes "packed 180" ++ 10 ∷ []
unfolding digits
three_lines = refl

-- a bad chunk ends a run of two readings before there is an output
no_output : converted None [] (codes "a") (codes "b") Lowest [] [] (Some (BadChunk 1)) ≡ ends_at_once (Refused (codes "a") (BadChunk 1))
no_output = refl

begun : length (converted None [] (codes "a") (codes "b") First [] [] (Some (BadChunk 1))).outputs ≡ 1
begun = refl

begun_twice : length (converted None [] (codes "a") (codes "b") Highest [] [] (Some (RawRange 1))).outputs ≡ 1
begun_twice = refl

-- two readings ask for twice the bytes of one
readings : (in_readings First 30 ≡ 30) × (in_readings Lowest 30 ≡ 60) × (in_readings Highest 30 ≡ 60)
readings = (refl, refl, refl)
