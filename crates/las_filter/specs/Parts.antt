-- The parts into which a file is split: which rules split one, and the names of parts.
use Rattle.std.specs.Prelude.{ℕ, ◌-◌, ◌≤◌, List, ◌++◌, codes, length, replicate}
use Rattle.std.specs.Fmt.{decimal}
use Rattle.las_filter.specs.declared.rule.Rule.{Rule}
use Rattle.las_filter.specs.declared.rule.Rule.TheVariants.{Every, Class, Source, Return}

-- a number of records that a part has is one at least
abbrev pub IsRule : Rule → Type 0
IsRule (Every n) = 1 ≤ n
IsRule Class = Unit {0}
IsRule Source = Unit {0}
IsRule Return = Unit {0}

-- a number in decimal, with zeros before it up to seven digits
abbrev pub in_seven_digits : ℕ → List ℕ
in_seven_digits number = replicate (7 - length (decimal number)) 48 ++ decimal number

-- the name of a part: the stem, an underscore, the part's number in seven digits, and the ending
abbrev pub part_name : (stem end : List ℕ) → (number : ℕ) → List ℕ
part_name stem end number = stem ++ codes "_" ++ in_seven_digits number ++ end
