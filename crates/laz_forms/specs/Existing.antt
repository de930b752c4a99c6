-- That something is there: of each file an answer when it is opened, and records if it is accepted. Whether the bytes
-- of a chunk hold records, and those of a table its lists, is decided: there are finitely many records of a number and
-- a length, and finitely many spellings of each.
use Rattle.std.specs.Prelude.{ℕ, List, Option}
use Rattle.las_header.specs.declared.refusal.Refusal.{Refusal}
use Rattle.laz_forms.specs.Pieces.{ArePieces, Piece}
use Rattle.laz_forms.specs.Ranges.{Range}
use Rattle.laz_forms.specs.Records.{AreRecordsIn, AreRecordsOf}
use Rattle.laz_forms.specs.Refusing.{IsAcceptedFile, IsRefusal}

-- A file is refused for some cause, or accepted.
abbrev pub HasAnAnswer : Type 0
HasAnAnswer = (file : List ℕ) → (answer : Option Refusal) × IsRefusal file answer

-- An accepted file has pieces, also one that another writer packed,
abbrev pub HasPieces : Type 0
HasPieces = (file : List ℕ) → IsAcceptedFile file → (pieces : List Piece) × ArePieces file pieces

-- and records: all of them, or those before its first bad chunk.
abbrev pub HasSomeRecords : Type 0
HasSomeRecords = (file : List ℕ) → IsAcceptedFile file
    → (blocks : List (List ℕ)) × (bad : Option ℕ) × AreRecordsOf file blocks bad

-- So has each range of it.
abbrev pub HasSomeInRange : Type 0
HasSomeInRange = (file : List ℕ) (range : Range) → IsAcceptedFile file
    → (blocks : List (List ℕ)) × (bad : Option ℕ) × AreRecordsIn file range blocks bad
