-- What the parse of a word says of its number.
use Rattle.std.proofs.Common.{◌≡◌, ◌≢◌, ℕ, ℤ, pos, negsuc, ◌<◌, ◌≤◌, ◌^◌, Bool, true, false, cond, ◌&&◌, nat_le, List, length, drop, get_or, Some, None, Result, Ok, Err, refl, sym, ◌∙◌, ap, subst, arith}
use Rattle.std.specs.Prelude.{FitsSigned}
use Rattle.std.specs.Int.{w32}
use Rattle.std.specs.Result.{result_ok}
use Rattle.std.specs.Str.{all_ascii_digits}
use Rattle.std.specs.Str.Parse.{digits_value, IsNumeral, ParsesUnsigned, ParsesSigned, starts_with_minus, signed_digits_value, without_leading_sign, without_leading_plus}
use Rattle.std.proofs.lemmas.Bool.Decides.{nat_tests}
use Rattle.std.proofs.lemmas.Str.Parse.{IsNumeralModel, numerals_by_value, tells_all_ascii_digits, parse_digits, digit_at, without_leading_plus_none}
use Rattle.las_filter.specs.Coordinates.{is_coordinate, in_range}
use Rattle.las_words.specs.Numbers.{is_number, number_in_range, without_minus, signed_in}

pub own : IsNumeralModel (λ ds. all_ascii_digits ds ≡ true) (digits_value 10)
own = numerals_by_value (λ ds. all_ascii_digits ds ≡ true) tells_all_ascii_digits

-- the parts of a number
parts : (word : List ℕ) → is_number word ≡ true → (0 < length word) × (all_ascii_digits word ≡ true)
parts word is = (grind (arith, nat_tests), grind (arith, nat_tests))

-- a number past the upper bound is none
past : (low high number : ℕ) (b : Bool) → high < number → cond (b && (nat_le low number && nat_le number high)) (Some number) None ≡ None
past low high number b lt = grind (arith, nat_tests)

-- what does not parse has more than 32 bits
pub no_number : {E : Type 0} (low high : ℕ) (word : List ℕ) (r : Result ℕ E) (e : E) → ParsesUnsigned 32 10 word r → r ≡ Err e → is_number word ≡ true → high < 2 ^ 32
    → None ≡ number_in_range low high word
no_number low high word (Ok n) e parsed is number fits = cc
no_number low high word (Err f) e parsed is number fits =
    let both = parts word number in
    let unfit : digits_value 10 word < 2 ^ 32 → ⊥ = λ lt. parse_digits own 32 word (Err f) parsed both.1 (both.0, lt) in
    let large : 2 ^ 32 ≤ digits_value 10 word = omega (arith, unfit) in
    let over : high < digits_value 10 word = omega arith in
    sym (past low high (digits_value 10 word) (is_number word) over)

-- the range of a coordinate is that of 32 bits
coordinate : (z : ℤ) → FitsSigned w32 z → is_coordinate z ≡ true
coordinate (pos n) fits = grind (arith, nat_tests)
coordinate (negsuc n) fits = grind (arith, nat_tests)

no_coordinate : (z : ℤ) → (FitsSigned w32 z → ⊥) → is_coordinate z ≡ false
no_coordinate (pos n) unfit =
    let unless : n < 2 ^ 31 → ⊥ = λ lt. unfit (record { sfits = lt }) in
    let large : 2 ^ 31 ≤ n = omega (arith, unless) in
    grind (arith, nat_tests)
no_coordinate (negsuc n) unfit =
    let unless : n < 2 ^ 31 → ⊥ = λ lt. unfit (record { sfits = lt }) in
    let large : 2 ^ 31 ≤ n = omega (arith, unless) in
    grind (arith, nat_tests)

-- a number has no plus
no_plus : (word : List ℕ) → is_number word ≡ true → without_leading_plus word ≡ word
no_plus word number =
    let both = parts word number in
    let digit = digit_at word 0 (own.to word both.1) both.0 in
    let other : get_or word 0 0 ≢ 43 = omega (arith, digit.0) in
    without_leading_plus_none word other

without_sign : (word : List ℕ) (minus : Bool) → starts_with_minus word ≡ minus → is_number (cond minus (drop 1 word) word) ≡ true
    → cond minus (drop 1 word) (without_leading_plus word) ≡ cond minus (drop 1 word) word
without_sign word true is number = refl
without_sign word false is number = no_plus word number

same_sign : (word : List ℕ) → is_number (without_minus word) ≡ true → without_leading_sign word ≡ without_minus word
same_sign word number = without_sign word (starts_with_minus word) refl number

numeral : (word : List ℕ) → is_number (without_minus word) ≡ true → IsNumeral 10 (without_leading_sign word)
numeral word number =
    let both = parts (without_minus word) number in
    let P : List ℕ → Type 0 = λ ds. IsNumeral 10 ds in
    subst P (sym (same_sign word number)) (both.0, own.to (without_minus word) both.1)

pub signed_number : {E : Type 0} (word : List ℕ) (r : Result ℤ E) → ParsesSigned w32 10 word r → is_number (without_minus word) ≡ true → result_ok r ≡ signed_in word
signed_number word (Ok z) parsed number =
    let fits = coordinate (signed_digits_value 10 word) parsed.0.1 in
    ap (λ (n : ℤ). Some n) parsed.1
    ∙ ap (λ (b : Bool). cond b (Some (signed_digits_value 10 word)) None) (sym fits)
    ∙ ap (λ (b : Bool). cond b (in_range (signed_digits_value 10 word)) None) (sym number)
signed_number word (Err e) parsed number =
    let unfit = no_coordinate (signed_digits_value 10 word) (λ fits. parsed (numeral word number, fits)) in
    ap (λ (b : Bool). cond b (Some (signed_digits_value 10 word)) None) (sym unfit)
    ∙ ap (λ (b : Bool). cond b (in_range (signed_digits_value 10 word)) None) (sym number)
