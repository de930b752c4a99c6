-- The names of the hidden files in which outputs are written until they are whole.
use Rattle.std.specs.Prelude.{◌≡◌, ◌≤◌, ℕ, ◌-◌, false, List, ◌++◌, length, take, replicate, codes}
use Rattle.std.specs.Fmt.{decimal, digits}

-- a number in base 16 by small letters, with zeros before it up to four digits
abbrev pub four_digits : ℕ → List ℕ
four_digits number = replicate (4 - length (digits 16 false number)) 48 ++ digits 16 false number

-- what tells one draft of a name from another: the number of the process, and that of the try
abbrev pub draft_tag : (process number : ℕ) → List ℕ
draft_tag process number = decimal process ++ (codes "-" ++ four_digits number)

-- how many bytes of an output's name its draft's name has at most
abbrev pub most_kept : ℕ
most_kept = 229

-- How many bytes of a name are kept: all, or at most as many as that, if it is longer.
abbrev pub IsKeptOf : (name : List ℕ) (n : ℕ) → Type 0
IsKeptOf name n = (n ≤ most_kept) × (length name ≤ most_kept → n ≡ length name)

-- The path of a draft: in the folder of the output, with a dot before its name, and the name's ending last. `prefix` is
-- the path of the folder, and `name` the output's name there.
abbrev pub IsDraftPath : (prefix name tag path : List ℕ) → Type 0
IsDraftPath prefix name tag path =
    (n : ℕ) × (IsKeptOf name n × (path ≡ prefix ++ codes "." ++ take n name ++ codes ".las-" ++ tag ++ codes ".part"))
