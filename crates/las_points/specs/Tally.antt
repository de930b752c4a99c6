-- How many point records a list has, in all and by return.
use Rattle.std.specs.Prelude.{ℕ, ◌+◌, ◌-◌, ◌≤◌, ◌==◌, nat_le, if◌then◌else◌, All, List, [], ◌∷◌, ◌++◌, length, map}
use Rattle.std.specs.Prelude.{count_by, slice_index, slice_set}
use Rattle.std.specs.List.{concat}
use Rattle.las_header.specs.declared.counts.Counts.{Counts}
use Rattle.las_header.specs.Counting.{with_counts}
use Rattle.las_points.specs.Record.{return_number_of}

-- how many records have a return number
abbrev pub count_of_return : List (List ℕ) → ℕ → ℕ
count_of_return records number = count_by (λ point. return_number_of point == number) records

-- the number of records, and the numbers of those of the returns 1 to 7
abbrev pub counts_of : List (List ℕ) → Counts
counts_of records = record {
  points = length records;
  returns = map (count_of_return records) (1 ∷ 2 ∷ 3 ∷ 4 ∷ 5 ∷ 6 ∷ 7 ∷ []);
}

-- no return was counted more often than there are points
abbrev pub IsWithinPoints : Counts → Type 0
IsWithinPoints counts = All (λ n. n ≤ counts.points) counts.returns

-- the counts with one record more: one point more, and one more of its return number if that is 1 to 7
abbrev pub counted_in : Counts → List ℕ → Counts
counted_in counts point =
    let number = return_number_of point in
    record {
      points = counts.points + 1;
      returns =
          if nat_le 1 number
          then slice_set counts.returns (number - 1) (slice_index counts.returns (number - 1) + 1)
          else counts.returns;
    }

-- a plain head with the counts of the records in each set that it has, followed by the records
abbrev pub counted_file : List ℕ → List (List ℕ) → List ℕ
counted_file head records = with_counts (counts_of records) head ++ concat records
