-- How a run ends: for which cause, with which outputs and which text; the files that this leaves, and its status.
use Rattle.std.specs.Prelude.{◌≡◌, ◌⊎◌, ℕ, Bool, true, false, List, [], take, map}
use Rattle.las_header.specs.declared.refusal.Refusal.{Refusal}
use Rattle.las_header.specs.declared.refusal.Refusal.TheVariants as refusal
use Rattle.las_merge.specs.declared.field.Field.{Field}
use Rattle.las_outside.specs.Files.{FileMap}
use Rattle.laz_file.specs.Endings.{AreBegun, AreEnding, OutputFile, at_end, named, with_all}
use Rattle.las_run.specs.declared.stop.Surplus.{Surplus}

-- Why a run ends: all is done; memory is short; the word of this index is wrong; the file of this name is not held or
-- could not be read; an output could not be written; the input of this name is refused; or inputs can't be merged,
-- since the one of this name is the first that differs from the first input, and this is the first field in which it
-- does, or since they have too many points, or chunks that were to be copied.
pub data Cause : Type 0 where
  Done : Cause
  Memory : Cause
  Usage : ℕ → Cause
  Unread : List ℕ → Cause
  Unwritten : Cause
  Refused : List ℕ → Refusal → Cause
  Differs : List ℕ → Field → Cause
  HasTooMany : Surplus → Cause

-- the exit status for each cause
abbrev pub status_of : Cause → ℕ
status_of Done = 0
status_of Memory = 1
status_of (Usage _) = 2
status_of (Unread _) = 3
status_of Unwritten = 4
status_of (Refused _ _) = 5
status_of (Differs _ _) = 6
status_of (HasTooMany _) = 6

-- whether it is that all is done
abbrev pub is_done : Cause → Bool
is_done Done = true
is_done _ = false

-- An input is refused for this cause when it is opened, and not while its records are read.
abbrev pub ComesAtOpening : Refusal → Type 0
ComesAtOpening (refusal.BadChunk chunk) = ⊥
ComesAtOpening (refusal.RawRange record_number) = ⊥
ComesAtOpening refusal.TooManyParts = ⊥
ComesAtOpening _ = Unit {0}

-- A run that ends for this cause has created no output: the words are wrong, an input is missing, or is refused when it
-- is opened, or the inputs can't be merged.
abbrev pub ComesFirst : Cause → Type 0
ComesFirst Done = ⊥
ComesFirst Memory = ⊥
ComesFirst (Usage _) = Unit {0}
ComesFirst (Unread _) = Unit {0}
ComesFirst Unwritten = ⊥
ComesFirst (Refused _ refusal) = ComesAtOpening refusal
ComesFirst (Differs _ _) = Unit {0}
ComesFirst (HasTooMany _) = Unit {0}

-- An ending: its cause, the outputs in the order in which they are created, and the text on standard output.
pub record Ending : Type 0 where
  pub cause : Cause
  pub outputs : List OutputFile
  pub text : List ℕ

-- an ending that creates no output and puts no text
abbrev pub ends_at_once : Cause → Ending
ends_at_once cause = record { cause = cause; outputs = []; text = [] }

-- the files at an ending
abbrev pub files_of : Ending → FileMap → FileMap
files_of ending files = with_all files (map (at_end (is_done ending.cause)) ending.outputs)

-- these texts are left of the outputs, in the order of the work
abbrev pub AreLeft : List OutputFile → List (List ℕ) → Type 0
AreLeft outputs texts = AreBegun outputs texts ⊎ AreEnding outputs texts

-- What a run leaves of files whatever ended it: the first of the outputs were created, each is a prefix of its draft,
-- or they were being finished one after another; and every other name is as before.
abbrev pub IsLeft : List OutputFile → FileMap → FileMap → Type 0
IsLeft outputs files now =
    (k : ℕ) × (texts : List (List ℕ)) × AreLeft (take k outputs) texts
    × (now ≡ with_all files (named (take k outputs) texts))
