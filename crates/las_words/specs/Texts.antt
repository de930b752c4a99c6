-- Words as their bytes.
use Rattle.std.specs.Prelude.{ℕ, Bool, ◌||◌, nat_eq, List, [], map, codes, slice_index_or, String, string_bytes}
use Rattle.std.specs.declared.alloc.Global.{Global}
use Rattle.std.specs.List.{ends_with}

-- words as their bytes
abbrev pub texts : List (String Global) → List (List ℕ)
texts words = map string_bytes words

-- the word at an index, and no bytes if it is missing
abbrev pub word_at : List (List ℕ) → ℕ → List ℕ
word_at words i = slice_index_or words i []

-- a name by which LAStools know a packed file
abbrev pub is_packed_name : List ℕ → Bool
is_packed_name name = ends_with nat_eq name (codes ".laz") || ends_with nat_eq name (codes ".LAZ")
