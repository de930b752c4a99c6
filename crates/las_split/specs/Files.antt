-- Files into which several names are put.
use Rattle.std.specs.Prelude.{List, [], ◌∷◌, Option, ℕ}
use Rattle.las_outside.specs.Files.{FileMap, with_file}

-- names with their bytes put into files, one after another
abbrev pub with_files : Option FileMap → List (List ℕ × List ℕ) → Option FileMap
with_files held [] = held
with_files held (p ∷ ps) = with_files (with_file held p.0 p.1) ps
