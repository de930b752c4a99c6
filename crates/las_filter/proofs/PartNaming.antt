-- The names of parts: what is printed, and the number that stands in a name.
use Rattle.std.proofs.Common.{◌≡◌, ℕ, zero, suc, ◌-◌, ◌^◌, ◌<◌, List, [], ◌++◌, length, replicate, codes, refl, sym, ◌∙◌, ap, append_assoc, arith}
use Rattle.std.proofs.lemmas.List.{append-nil}
use Rattle.std.specs.Str.Parse.{digits_value}
use Rattle.std.proofs.lemmas.Fmt.{decimal_is_IsNumeral}
use Rattle.std.specs.Fmt.{char_count, decimal, format_spec, padded_integral, styled_decimal}
use Rattle.las_filter.specs.Parts.{in_seven_digits, part_name}

-- what `{:07}` writes
seven_digits : (n : ℕ) → styled_decimal (format_spec 32 0 4 7 (2 ^ 64 - 1)) n ≡ in_seven_digits n
unfolding padded_integral char_count
seven_digits n =
    let less : 7 - length (decimal n) - 0 - 0 ≡ 7 - length (decimal n) = omega arith in
    ap (λ (k : ℕ). replicate k 48 ++ (decimal n ++ [])) less ∙ ap (λ (t : List ℕ). replicate (7 - length (decimal n)) 48 ++ t) (append-nil (decimal n))

-- what is printed of a name
pub name_is : (name stem end : List ℕ) (n : ℕ) → name ≡ stem ++ (codes "_" ++ (styled_decimal (format_spec 32 0 4 7 (2 ^ 64 - 1)) n ++ end)) → name ≡ part_name stem end n
name_is name stem end n is =
    is ∙ ap (λ (t : List ℕ). stem ++ (codes "_" ++ (t ++ end))) (seven_digits n)
    ∙ sym (append_assoc stem (codes "_") (in_seven_digits n ++ end)) ∙ sym (append_assoc (stem ++ codes "_") (in_seven_digits n) end)

zeros_before : (k : ℕ) (ds : List ℕ) → digits_value 10 (replicate k 48 ++ ds) ≡ digits_value 10 ds
zeros_before zero ds = refl
zeros_before (suc k) ds = zeros_before k ds

-- seven digits or more write their number
pub value_is : (n : ℕ) → n < 2 ^ 64 → digits_value 10 (in_seven_digits n) ≡ n
value_is n small = zeros_before (7 - length (decimal n)) (decimal n) ∙ (decimal_is_IsNumeral n small).1
