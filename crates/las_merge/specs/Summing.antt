-- The counts of all inputs that are copied, by their heads, and what is written of the inputs.
use Rattle.std.specs.Prelude.{ℕ, ◌-◌, ◌^◌, List, ◌++◌, map, Option}
use Rattle.std.specs.List.{concat}
use Rattle.byteorder.specs.Endian.{little_bytes}
use Rattle.las_header.specs.Counting.{with_sums}
use Rattle.las_header.specs.Fields.{returns_of}
use Rattle.las_header.specs.Plain.{plain_of}
use Rattle.las_outside.specs.Files.{FileMap}
use Rattle.laz_copied.specs.Copied.{returns_to_15, sums_up_to}
use Rattle.las_merge.specs.Appending.{SourceSeen, part_of}
use Rattle.las_merge.specs.Opening.{InputSeen, first_read, points_read}

-- the numbers of points by return of all inputs; a sum above the greatest number becomes that number
abbrev pub returns_summed : List InputSeen → List ℕ
returns_summed inputs = sums_up_to (2 ^ 32 - 1) 5 (λ input. returns_of input.head.bytes) inputs

abbrev pub long_returns_summed : List InputSeen → List ℕ
long_returns_summed inputs = sums_up_to (2 ^ 64 - 1) 15 (λ input. returns_to_15 input.head.bytes) inputs

-- the plain head of the first input, with the sums of the counts of all
abbrev pub summed_head : List InputSeen → List ℕ
summed_head inputs =
    with_sums (points_read inputs) (returns_summed inputs) (long_returns_summed inputs) (plain_of (first_read inputs))

-- what is written: a head and a pointer, parts of files, and a table
abbrev pub copied_text : Option FileMap → (head : List ℕ) → (pointer : ℕ) → (sources : List SourceSeen)
    → (table : List ℕ) → List ℕ
copied_text held head pointer sources table =
    (head ++ little_bytes 8 pointer) ++ (concat (map (part_of held) sources) ++ table)
