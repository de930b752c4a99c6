-- What is fixed while the records of a batch are split.
use Rattle.std.specs.Prelude.{ℕ, string_bytes, ◌≡◌, false, List, [], ◌∷◌, ◌++◌}
use Rattle.laz_forms.specs.Outputs.{Output}
use Rattle.las_split.specs.declared.splitter.Splitter.{Splitter}
use Rattle.las_split.specs.Outputs.{part_output_under}
use Rattle.las_header.specs.Fields.{points_of}
use Rattle.las_outside.specs.Outside.{Outside}
use Rattle.laz_writer.specs.Writing.{Stands, WriterSeen}

-- the output of a part
abbrev pub part_output : Splitter → (number : ℕ) → Output
part_output splitter number =
    part_output_under (string_bytes splitter.names.now.stem) (string_bytes splitter.names.now.end) splitter.head.now.bytes
    number

-- A part is opened after others: its writer stands for no records yet, and may take all records of the file.
abbrev pub OpensPart : Splitter → (number : ℕ) → (old now : Outside) → (writers more : List WriterSeen) → Type 0
OpensPart splitter number old now writers more =
    (writer : WriterSeen) × (more ≡ writers ++ writer ∷ [])
    × Stands old now writer (part_output splitter number) []
    × (writer.failed ≡ false) × (writer.most ≡ points_of splitter.head.now.bytes)
