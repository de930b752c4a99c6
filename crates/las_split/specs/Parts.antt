-- Records in parts: the number of a record by a rule, the records of one number, and which parts there are.
use Rattle.std.specs.Prelude.{◌≡◌, ℕ, zero, suc, ◌+◌, ◌*◌, ◌/◌, ◌<◌, ◌≤◌, ◌==◌, not, if◌then◌else◌, List, [], ◌∷◌, ◌++◌}
use Rattle.std.specs.Prelude.{filter, length}
use Rattle.las_points.specs.Record.{class_of, return_number_of, source_of}
use Rattle.las_filter.specs.declared.rule.Rule.{Rule}
use Rattle.las_filter.specs.declared.rule.Rule.TheVariants.{Every, Class, Source, Return}

-- the number of a record by a rule, at its place in the file, counted from 0
abbrev pub number_by : Rule → (place : ℕ) → (point : List ℕ) → ℕ
number_by (Every n) place point = place / n
number_by Class place point = class_of point
number_by Source place point = source_of point
number_by Return place point = return_number_of point

-- the numbers of records, the first of which is at this place
abbrev pub numbers_from : Rule → (place : ℕ) → List (List ℕ) → List ℕ
numbers_from rule place [] = []
numbers_from rule place (point ∷ points) = number_by rule place point ∷ numbers_from rule (place + 1) points

-- those of them that have a number, in order
abbrev pub part_from : Rule → (place : ℕ) → List (List ℕ) → (number : ℕ) → List (List ℕ)
part_from rule place [] number = []
part_from rule place (point ∷ points) number =
    if number_by rule place point == number
    then point ∷ part_from rule (place + 1) points number
    else part_from rule (place + 1) points number

-- a part: the records of a file that have its number, in order
abbrev pub part : Rule → List (List ℕ) → (number : ℕ) → List (List ℕ)
part rule records number = part_from rule 0 records number

-- numbers, each of them once, where it comes first
abbrev pub firsts : List ℕ → List ℕ
firsts [] = []
firsts (n ∷ ns) = n ∷ filter (λ k. not (k == n)) (firsts ns)

-- the numbers of the parts that have a record, in the order of their first records
abbrev pub numbers_of_parts : Rule → List (List ℕ) → List ℕ
numbers_of_parts rule records = firsts (numbers_from rule 0 records)

-- the parts of the numbers below a count, one after another
abbrev pub joined_parts : Rule → List (List ℕ) → (count : ℕ) → List (List ℕ)
joined_parts rule records zero = []
joined_parts rule records (suc count) = joined_parts rule records count ++ part rule records count

-- Parts of n records each, joined by ascending number, are the records again.
abbrev pub PartsJoin : Type 0
PartsJoin = (n count : ℕ) (records : List (List ℕ)) → 0 < n → length records ≤ n * count
    → joined_parts (Every n) records count ≡ records
