-- What is kept of packed inputs from their opening on: their heads, where their chunks stand, and the numbers of points
-- and of bytes of all chunks.
use Rattle.std.specs.Prelude.{◌≡◌, ◌⊎◌, ℕ, ◌+◌, ◌<◌, ◌≤◌, Bool, true, false, List, length, map}
use Rattle.std.specs.Prelude.{Option, Some, All, ◌++◌}
use Rattle.std.specs.Prelude.{[], ◌∷◌}
use Rattle.las_header.specs.Fields.{is_packed}
use Rattle.las_outside.specs.Faults.{Rose}
use Rattle.las_outside.specs.Files.{FileMap, IsMissing, WhereKnown}
use Rattle.las_outside.specs.Outside.{Outside}
use Rattle.laz_table.specs.declared.limits.TheConstants.{MAX_CHUNKS}
use Rattle.laz_forms.specs.declared.fault.Fault.{Fault}
use Rattle.laz_forms.specs.declared.fault.Fault.TheVariants as fault
use Rattle.laz_reader.specs.Asking.{asked_for_chunks}
use Rattle.laz_forms.specs.Pieces.{ArePieces, Piece, bytes_in}
use Rattle.laz_reader.specs.Reading.{ReaderSeen}
use Rattle.laz_copied.specs.Copied.{all_of}
use Rattle.las_merge.specs.declared.fault.MergeFault.{MergeFault}
use Rattle.las_merge.specs.declared.fault.MergeFault.TheVariants.{At, Unequal, TooManyPoints, TooManyChunks, Write}
use Rattle.las_merge.specs.declared.fault.MergeFault.TheVariants.{Memory}
use Rattle.las_merge.specs.declared.listing.Listed.{Listed}
use Rattle.las_merge.specs.Appending.{SourceSeen}
use Rattle.las_merge.specs.Fields.{first_difference}
use Rattle.las_merge.specs.Inputs.{item_at}
use Rattle.las_merge.specs.Opening.{InputSeen, IsOpen, OpensTo, first_read}
use Rattle.las_merge.specs.Packed.{IsRefusedToCopy}

-- an input, and the pieces of its file that are its chunks
pub record ListedInput : Type 0 where
  pub input : InputSeen
  pub pieces : List Piece

-- what is kept of an input that was opened, and what is kept with its pieces
abbrev pub input_opened : (name : List ℕ) → ReaderSeen → InputSeen
input_opened name reader = record { name = name; head = reader.head }

abbrev pub listed_as : (name : List ℕ) → ReaderSeen → ListedInput
listed_as name reader = record { input = input_opened name reader; pieces = reader.pieces }

-- the part of an input that its chunks are: they stand one after another, after the head and the pointer
abbrev pub chunks_source : ListedInput → SourceSeen
chunks_source listed = record {
  name = listed.input.name;
  place = length listed.input.head.bytes + 8;
  size = bytes_in listed.pieces;
}

-- An input is packed, and these are its chunks.
pub record IsListed (held : Option FileMap) (listed : ListedInput) : Type 0 where
  pub packed : is_packed listed.input.head.bytes ≡ true
  pub stands : WhereKnown held listed.input.name (λ file. ArePieces file listed.pieces)

-- the chunks of all inputs, one input after another
abbrev pub all_pieces : List ListedInput → List Piece
all_pieces listed = all_of (map (λ l. l.pieces) listed)

-- at most, how many bytes inputs are asked for when they are opened
abbrev pub asked_to_list : List ListedInput → ℕ
asked_to_list [] = 0
asked_to_list (l ∷ listed) =
    length l.input.head.bytes + asked_for_chunks (length l.pieces) + asked_to_list listed

-- The inputs have these numbers of points and of bytes in all their chunks, unless there are too many; and they were
-- asked for this many bytes.
pub record ListsChunks (held : Option FileMap) (inputs : List InputSeen) (sources : List SourceSeen) (many : Bool)
    (points bytes : List ℕ) (asked : ℕ) : Type 0 where
  pub listed : List ListedInput
  pub inputs_are : inputs ≡ map (λ l. l.input) listed
  pub sources_are : sources ≡ map chunks_source listed
  pub each : All (IsListed held) listed
  pub few : length points ≤ MAX_CHUNKS
  pub once : asked ≤ asked_to_list listed
  pub many_are : many ≡ true → MAX_CHUNKS < length (all_pieces listed)
  pub points_are : many ≡ false → points ≡ map (λ piece. piece.count) (all_pieces listed)
  pub bytes_are : many ≡ false → bytes ≡ map (λ piece. piece.size) (all_pieces listed)

-- The same of what is kept.
abbrev pub Lists : (held : Option FileMap) → Listed → (asked : ℕ) → Type 0
Lists held listed asked =
    ListsChunks held listed.inputs.items listed.sources.items listed.lists.many listed.lists.points.items
    listed.lists.bytes.items asked

-- The lists get these numbers more, unless there would be too many, or were before.
pub record AddsChunks (was now : Bool) (points points_now bytes bytes_now more_points more_bytes : List ℕ) : Type 0
  where
    pub still_many : was ≡ true → now ≡ true
    pub too_many : was ≡ false → now ≡ true → MAX_CHUNKS < length points + length more_points
    pub points_are : now ≡ false → points_now ≡ points ++ more_points
    pub bytes_are : now ≡ false → bytes_now ≡ bytes ++ more_bytes

-- How a packed input is not opened.
abbrev pub FailsToList : (name : List ℕ) → (old new : Outside) → Fault → Type 0
FailsToList name old new (fault.Refused cause) = WhereKnown old.held name (λ file. IsRefusedToCopy file cause)
FailsToList name old new fault.Read = IsMissing old.held name ⊎ Rose old.read_faults new.read_faults
FailsToList name old new fault.Write = ⊥
FailsToList name old new fault.Memory = Unit {0}

-- An input is packed by its head.
abbrev pub IsPackedInput : InputSeen → Type 0
IsPackedInput input = is_packed input.head.bytes ≡ true

-- How the next input is not opened, is plain, or differs.
abbrev pub FailsNextPacked : (name : List ℕ) → List InputSeen → (old new : Outside) → MergeFault → Type 0
FailsNextPacked name inputs old new (At number cause) = (number ≡ length inputs) × FailsToList name old new cause
FailsNextPacked name inputs old new (Unequal number field) =
    (number ≡ length inputs) × (1 ≤ length inputs)
    × ((input : InputSeen) × (input.name ≡ name) × IsOpen old.held input × IsPackedInput input
    × (first_difference (first_read inputs) input.head.bytes ≡ Some field))
FailsNextPacked name inputs old new TooManyPoints = ⊥
FailsNextPacked name inputs old new TooManyChunks = ⊥
FailsNextPacked name inputs old new Write = ⊥
FailsNextPacked name inputs old new Memory = ⊥

-- How opening the inputs ends with a fault: those before the one that it names were opened, and are packed.
abbrev pub EndsListing : (names : List (List ℕ)) → (old new : Outside) → MergeFault → Type 0
EndsListing names old new (At number cause) =
    (inputs : List InputSeen) × OpensTo old.held names number inputs × All IsPackedInput inputs
    × FailsToList (item_at names number) old new cause
EndsListing names old new (Unequal number field) =
    (inputs : List InputSeen) × (input : InputSeen) × OpensTo old.held names number inputs × (1 ≤ number)
    × All IsPackedInput inputs × (input.name ≡ item_at names number) × IsOpen old.held input × IsPackedInput input
    × (first_difference (first_read inputs) input.head.bytes ≡ Some field)
EndsListing names old new TooManyPoints = ⊥
EndsListing names old new TooManyChunks = ⊥
EndsListing names old new Write = ⊥
EndsListing names old new Memory = ⊥
