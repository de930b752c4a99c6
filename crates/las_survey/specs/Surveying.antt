-- What a survey finds in a file, as a product that has no output.
use Rattle.std.specs.Prelude.{◌≡◌, ℕ, List, [], Option}
use Rattle.std.specs.Option.{option_map}
use Rattle.las_header.specs.declared.refusal.Refusal.TheVariants.{BadChunk}
use Rattle.laz_file.specs.Endings.{Product}
use Rattle.laz_forms.specs.Records.{AreRecordsOf}

-- the first bad chunk, if there is one, and no output
abbrev pub surveyed : (bad : Option ℕ) → Product
surveyed bad = record { files = []; refusal = option_map BadChunk bad }

-- A survey goes through the records of a file, up to its first bad chunk, if there is one.
abbrev pub Surveys : (file : List ℕ) → Product → Type 0
Surveys file product =
    (blocks : List (List ℕ)) × (bad : Option ℕ) × AreRecordsOf file blocks bad × (product ≡ surveyed bad)
