-- How many bytes of its input a command asks for.
use Rattle.std.specs.Prelude.{◌≡◌, ℕ, ◌+◌, ◌*◌, ◌-◌, ◌^◌, Bool, true, false, List, Option, Some, None}
use Rattle.std.specs.FinMap as finmap
use Rattle.las_header.specs.declared.refusal.Refusal.{Refusal}
use Rattle.las_outside.specs.Files.{FileMap}
use Rattle.las_outside.specs.Outside.{Outside}
use Rattle.las_thin.specs.declared.pick.Pick.{Pick}
use Rattle.las_thin.specs.declared.pick.Pick.TheVariants.{First, Lowest, Highest}
use Rattle.las_words.specs.Asked.{LasmergeOptions, OneInput, Work, las2las, lasinfo, lasmerge, lassplit, laszip, make}
use Rattle.las_words.specs.Asked.{reads}
use Rattle.las_merge.specs.Asking.{IsAskedToRead, asked_of_all, asked_with_chunks, asked_to_merge}
use Rattle.laz_reader.specs.Asking.{AsksAtMost, asked_in, asked_to_open}
use Rattle.laz_forms.specs.Pieces.{ArePieces, Piece}
use Rattle.laz_forms.specs.Ranges.{parts_of}
use Rattle.laz_forms.specs.Refusing.{IsRefusal}
use Rattle.las_run.specs.declared.conversion.Conversion.{Conversion}
use Rattle.las_run.specs.Tools.{range_in}

-- the bytes that reading an input once asks for, or those of two readings if the lowest or the highest of a cell stays
abbrev pub in_readings : Pick → ℕ → ℕ
in_readings First size = size
in_readings Lowest size = 2 * size
in_readings Highest size = 2 * size

-- the bytes that a first reading asks for, if there are two
abbrev pub in_first_reading : Pick → ℕ → ℕ
in_first_reading First size = 0
in_first_reading Lowest size = size
in_first_reading Highest size = size

-- What is asked of a file that was opened: in a first reading, with opening it again, the bytes of those of its pieces
-- that meet the range; and that, and then the same bytes again.
abbrev pub AsksToLook : Conversion → (file : List ℕ) → (old new : Outside) → Type 0
AsksToLook conversion file old new =
    (pieces : List Piece) → ArePieces file pieces → AsksAtMost
    (in_first_reading conversion.pick (asked_to_open file
    + asked_in file (parts_of file (range_in conversion.start conversion.stop file) pieces))) old new

abbrev pub AsksAfterOpening : Conversion → (file : List ℕ) → (old new : Outside) → Type 0
AsksAfterOpening conversion file old new =
    (pieces : List Piece) → ArePieces file pieces → AsksAtMost
    (in_first_reading conversion.pick (asked_to_open file
    + asked_in file (parts_of file (range_in conversion.start conversion.stop file) pieces))
    + asked_in file (parts_of file (range_in conversion.start conversion.stop file) pieces)) old new

-- What is asked of an input: nothing if it is missing; if it is refused when it is opened, at most what opening it
-- takes; and else, in each reading, at most that, and the bytes of those of its pieces that meet the range, but none of
-- a chunk that may not hold its records.
abbrev pub AsksOf : (input : Option (List ℕ)) → Pick → (start stop : ℕ) → (old new : Outside) → Type 0
AsksOf None pick start stop old new = new.asked ≡ old.asked
AsksOf (Some file) pick start stop old new =
    ((cause : Refusal) → IsRefusal file (Some cause) → AsksAtMost (asked_to_open file) old new)
    × ((pieces : List Piece) → ArePieces file pieces → AsksAtMost
    (in_readings pick (asked_to_open file + asked_in file (parts_of file (range_in start stop file) pieces))) old new)

-- If the files are known, no more is asked of the input of this name, however the run ends.
abbrev pub AsksFor : (input : List ℕ) → Pick → (start stop : ℕ) → (old new : Outside) → Type 0
AsksFor input pick start stop old new =
    (known : FileMap) → old.held ≡ Some known → AsksOf (finmap.get known input) pick start stop old new

-- The same of one reading, for all places that there may be: those of all records.
abbrev pub AsksWhole : (input : List ℕ) → (old new : Outside) → Type 0
AsksWhole input old new = AsksFor input First 0 (2 ^ 32 - 1) old new

-- A command takes all records of its input.
abbrev pub TakesAll : OneInput → Type 0
TakesAll (las2las options) = ⊥
TakesAll own = Unit {0}

-- To copy the chunks of inputs each is opened and read once, and to merge their records each is opened twice. Then a
-- chunk that may not hold its records is not read.
abbrev pub AsksToMergeIf : (copy : Bool) → FileMap → (names : List (List ℕ)) → (old new : Outside) → Type 0
AsksToMergeIf true known names old new = AsksAtMost (asked_of_all asked_with_chunks known names) old new
AsksToMergeIf false known names old new =
    (asked : Option (List ℕ) → ℕ) → IsAskedToRead asked → AsksAtMost (asked_to_merge asked known names) old new

-- If the files are known, a merge asks for no more, however the run ends.
abbrev pub AsksToMerge : LasmergeOptions → (old new : Outside) → Type 0
AsksToMerge options old new =
    (known : FileMap) → old.held ≡ Some known → AsksToMergeIf options.copy known options.inputs old new

-- This holds of a command with inputs.
abbrev pub WorkAsks : Work → (old new : Outside) → Type 0
WorkAsks (reads input (las2las options)) old new =
    AsksFor input options.sieve.pick options.start options.stop old new
WorkAsks (reads input (laszip options)) old new = AsksWhole input old new
WorkAsks (reads input (lasinfo options)) old new = AsksWhole input old new
WorkAsks (reads input (lassplit options)) old new = AsksWhole input old new
WorkAsks (lasmerge options) old new = AsksToMerge options old new
WorkAsks (make options) old new = Unit {0}
