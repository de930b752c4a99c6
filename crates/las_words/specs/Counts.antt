-- How many words after an option are its values.
use Rattle.std.specs.Prelude.{ℕ, max, List}
use Rattle.std.specs.List.{prefix_len}
use Rattle.las_words.specs.declared.table.Values.{Values}
use Rattle.las_words.specs.declared.table.Values.TheVariants.{Nothing, Name, Number, Bounds, Several, Signed, Tap}
use Rattle.las_words.specs.Numbers.{is_digits}

-- this many words after an option are its values, or should be: a list is one word, and goes on while the next is of
-- digits alone
abbrev pub values_of : Values → List (List ℕ) → ℕ
values_of Nothing words = 0
values_of Name words = 1
values_of (Number low high) words = 1
values_of (Bounds most) words = 2
values_of (Several most) words = max 1 (prefix_len is_digits words)
values_of (Signed count) words = count
values_of Tap words = 1
