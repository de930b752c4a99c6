-- The outputs of parts, in the order in which they are created, and what is left of them.
use Rattle.std.specs.Prelude.{◌≡◌, ◌⊎◌, ◌≤◌, ℕ, true, false, List, length, map, take, Option, None}
use Rattle.std.specs.List.{concat}
use Rattle.las_header.specs.declared.refusal.Refusal.{Refusal}
use Rattle.las_header.specs.Plain.{plain_head}
use Rattle.las_filter.specs.declared.rule.Rule.{Rule}
use Rattle.las_filter.specs.Parts.{part_name}
use Rattle.las_outside.specs.Files.{FileMap}
use Rattle.laz_forms.specs.Outputs.{Output}
use Rattle.laz_file.specs.Endings.{AreBegun, AreEnding, OutputFile, Product, at_end, named, output_file}
use Rattle.las_split.specs.Files.{with_files}
use Rattle.las_split.specs.Parts.{numbers_of_parts, part}
use Rattle.las_split.specs.Splitting.{SplitsTo}

-- the output of a part: under the plain head of the file, plain, and its records are counted
abbrev pub part_output_under : (stem end head : List ℕ) → (number : ℕ) → Output
part_output_under stem end head number =
    record { name = part_name stem end number; head = head; chunk = None; counted = true }

-- the outputs of the parts of records, in the order of the parts' first records
abbrev pub outputs_under : (stem end head : List ℕ) → Rule → (records : List (List ℕ)) → List OutputFile
outputs_under stem end head rule records =
    map (λ number. output_file (part_output_under stem end head number) (concat (part rule records number)))
    (numbers_of_parts rule records)

-- those of the parts of a file
abbrev pub part_files : (stem end : List ℕ) → Rule → (file : List ℕ) → (records : List (List ℕ)) → List OutputFile
part_files stem end rule file records = outputs_under stem end (plain_head file) rule records

-- Splitting a file writes each part that has a record, in the order of the parts' first records, up to the first
-- refusal.
abbrev pub Splits : (stem end : List ℕ) → Rule → (file : List ℕ) → Product → Type 0
Splits stem end rule file product =
    (records : List (List ℕ)) × (refusal : Option Refusal) × SplitsTo rule file records refusal
    × (product ≡ record { files = part_files stem end rule file records; refusal = refusal })

-- the names of parts, each with what it holds when it is finished, and when it is stopped
abbrev pub all_finished : List OutputFile → List (List ℕ × List ℕ)
all_finished parts = map (at_end true) parts

abbrev pub all_stopped : List OutputFile → List (List ℕ × List ℕ)
all_stopped parts = map (at_end false) parts

-- The first of the parts were created, and each of them is a prefix of its draft; or all were created, and they were
-- being finished in their order. Every other file is as before.
abbrev pub LeavesParts : List OutputFile → (old new : Option FileMap) → Type 0
LeavesParts parts old new =
    (k : ℕ) × (texts : List (List ℕ))
    × (AreBegun (take k parts) texts ⊎ ((length parts ≤ k) × AreEnding (take k parts) texts))
    × (new ≡ with_files old (named (take k parts) texts))
