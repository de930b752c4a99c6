-- How many bytes of its inputs a merge asks for.
use Rattle.std.specs.Prelude.{ℕ, ◌+◌, ◌≤◌, List, map, sum, Option, Some, None}
use Rattle.std.specs.FinMap as finmap
use Rattle.las_outside.specs.Files.{FileMap}
use Rattle.laz_reader.specs.Asking.{asked_in, asked_to_open}
use Rattle.laz_forms.specs.Pieces.{ArePieces, Piece}
use Rattle.laz_forms.specs.Sizes.{points_size}

-- at most, of an input: nothing if it is not held; else what opening it takes
abbrev pub asked_to_compare : Option (List ℕ) → ℕ
asked_to_compare None = 0
asked_to_compare (Some file) = asked_to_open file

-- or, if its chunks are copied as they stand, also what these take
abbrev pub asked_with_chunks : Option (List ℕ) → ℕ
asked_with_chunks None = 0
asked_with_chunks (Some file) = asked_to_open file + points_size file

-- or, if its records are read, what its pieces take, of which a chunk that may not hold its records is never read: any
-- numbers that are no less than this
pub record IsAskedToRead (asked : Option (List ℕ) → ℕ) : Type 0 where
  pub to_open : (file : List ℕ) → asked_to_open file ≤ asked (Some file)
  pub to_read : (file : List ℕ) (pieces : List Piece) → ArePieces file pieces
      → asked_to_open file + asked_in file pieces ≤ asked (Some file)

-- the same of all inputs, in sum
abbrev pub asked_of_all : (asked : Option (List ℕ) → ℕ) → FileMap → (names : List (List ℕ)) → ℕ
asked_of_all asked known names = sum (map (λ name. asked (finmap.get known name)) names)

-- at most, for a merge: each input is opened to be compared with the first, and is opened again and read for its turn
abbrev pub asked_to_merge : (asked : Option (List ℕ) → ℕ) → FileMap → (names : List (List ℕ)) → ℕ
asked_to_merge asked known names = asked_of_all asked_to_compare known names + asked_of_all asked known names
