-- Worked values of the definitions.
use Rattle.std.proofs.Common.{◌≡◌, [], None, Some, refl}
use Rattle.las_header.specs.declared.refusal.Refusal.TheVariants.{BadChunk}
use Rattle.las_outside.specs.Files.{FileMap}
use Rattle.laz_file.specs.Endings.{files_after}
use Rattle.las_survey.specs.Surveying.{surveyed}

-- a survey of all records, and one that a bad chunk ends: neither makes a file
whole : surveyed None ≡ record { files = []; refusal = None }
whole = refl

bad : surveyed (Some 3) ≡ record { files = []; refusal = Some (BadChunk 3) }
bad = refl

unchanged : (files : FileMap) → files_after (surveyed (Some 3)) files ≡ files
unchanged files = refl
