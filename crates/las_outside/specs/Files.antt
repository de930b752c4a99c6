-- Files as a value that is known or not, and what a call makes of them.
use Rattle.std.specs.Prelude.{◌≡◌, ℕ, ◌+◌, List, [], ◌++◌, length, take, drop, Option, Some, None, unwrap_or, IsSomeAnd}
use Rattle.std.specs.Ordering.{nat_cmp}
use Rattle.std.specs.Cmp.Lexicographic.{slice_cmp}
use Rattle.std.specs.FinMap as map

-- files: a finite map from names to byte lists, both as bytes
abbrev pub FileMap : Type 0
FileMap = map.FinMap (slice_cmp nat_cmp) (List ℕ)

-- the bytes under a name that is held, and else none
abbrev pub bytes_of : Option FileMap → List ℕ → List ℕ
bytes_of None name = []
bytes_of (Some files) name = unwrap_or (map.get files name) []

-- If the files are known, the name is held, and its bytes have P.
abbrev pub WhereKnown : Option FileMap → List ℕ → (List ℕ → Type 0) → Type 0
WhereKnown None name P = Unit {0}
WhereKnown (Some files) name P = IsSomeAnd (map.get files name) P

-- The files are known, and the name is not held.
abbrev pub IsMissing : Option FileMap → List ℕ → Type 0
IsMissing None name = ⊥
IsMissing (Some files) name = map.get files name ≡ None

-- the files with these bytes under the name, and every other name as before
abbrev pub with_file : Option FileMap → List ℕ → List ℕ → Option FileMap
with_file None name bytes = None
with_file (Some files) name bytes = Some (map.insert files name bytes)

-- the bytes with others in the place of those from a position on
abbrev pub with_patch : List ℕ → ℕ → List ℕ → List ℕ
with_patch old at bytes = take at old ++ bytes ++ drop (at + length bytes) old
