-- Names of parts: what the name of the output is cut into, and the number that a part's name has.
use Rattle.std.proofs.Common.{◌≡◌, ◌≢◌, ℕ, zero, suc, ◌+◌, ◌-◌, ◌^◌, ◌<◌, ◌≤◌, Bool, true, false, cond, ◌&&◌, nat_le, nat_lt, nat_eq, List, [], ◌∷◌, ◌++◌, length, replicate, take, drop, codes, Some, None, unwrap_or, length-append, refl, sym, ◌∙◌, ap, append_assoc, arith, lit≤}
use Rattle.std.specs.List.{ends_with}
use Rattle.std.specs.Str.{IsAscii, IsUtf8, all_ascii_digits}
use Rattle.std.specs.Str.Parse.{digits_value}
use Rattle.std.specs.Fmt.{decimal}
use Rattle.std.proofs.lemmas.List.{append-nil, take_all, length-replicate}
use Rattle.std.proofs.Math.Seq.{drop-append_seam, take-append_seam}
use Rattle.std.proofs.lemmas.Fmt.{decimal_is_IsNumeral, length-decimal-le}
use Rattle.std.proofs.lemmas.Slice.Eq.{bytes_eq-Decides, ends_is}
use Rattle.std.proofs.lemmas.Str.{IsUtf8-from_ascii}
use Rattle.std.proofs.lemmas.Bool.Decides.{Decides-eqb, nat_tests}
use Rattle.las_filter.specs.Parts.{in_seven_digits, part_name}
use Rattle.las_filter.proofs.Public.{value_is}
use Rattle.las_words.specs.Numbers.{is_number, number_or_zero}
use Rattle.las_words.specs.Names.{extension_of, stem_of, number_within, is_part_name}
use Rattle.las_words.proofs.Parsing.{own}

-- a name ends in what it is cut into
ends_in : (name end : List ℕ) → ends_with nat_eq name end ≡ true → name ≡ take (length name - length end) name ++ end
ends_in name end ends = (ends_is Decides-eqb name end (ends_with nat_eq name end) refl).0 ends

pub end_is : (name : List ℕ) → name ≡ stem_of name ++ extension_of name
end_is name = by (ends_with nat_eq name (codes ".las")) (ends_with nat_eq name (codes ".LAS")) refl refl
  where
    Cut : List ℕ → Type 0
    Cut end = name ≡ take (length name - length end) name ++ end

    by : (low high : Bool) → ends_with nat_eq name (codes ".las") ≡ low → ends_with nat_eq name (codes ".LAS") ≡ high → Cut (cond low (codes ".las") (cond high (codes ".LAS") []))
    by true high is more = ends_in name (codes ".las") is
    by false true is more = ends_in name (codes ".LAS") more
    by false false is more = sym (append-nil (take (length name - 0) name) ∙ take_all (length name - 0) name (omega arith))

-- digits are text
ascii_digits : (bytes : List ℕ) → all_ascii_digits bytes ≡ true → IsAscii bytes
ascii_digits [] all i = lit≤ tt
ascii_digits (b ∷ bytes) all zero = grind (arith, nat_tests)
ascii_digits (b ∷ bytes) all (suc i) = ascii_digits bytes (grind (arith, nat_tests)) i

no_digits : (short some fits : Bool) (n : ℕ) → unwrap_or (cond ((short && (some && false)) && fits) (Some n) None) 0 ≡ 0
no_digits true true fits n = refl
no_digits true false fits n = refl
no_digits false some fits n = refl

-- bytes that are no text have no number
pub no_text : (most : ℕ) (bytes : List ℕ) → (IsUtf8 bytes → ⊥) → number_or_zero most bytes ≡ 0
no_text most bytes unfit = by (all_ascii_digits bytes) refl
  where
    by : (all : Bool) → all_ascii_digits bytes ≡ all → number_or_zero most bytes ≡ 0
    by true is = absurd (unfit (IsUtf8-from_ascii bytes (ascii_digits bytes is)))
    by false is =
        ap (λ (b : Bool). unwrap_or (cond ((nat_le (length bytes) 20 && (nat_lt 0 (length bytes) && b)) && (nat_le 0 (digits_value 10 bytes) && nat_le (digits_value 10 bytes) most)) (Some (digits_value 10 bytes)) None) 0) is
        ∙ no_digits (nat_le (length bytes) 20) (nat_lt 0 (length bytes)) _ (digits_value 10 bytes)

-- ---- the number that a part's name has

zeros_are_digits : (k : ℕ) (bytes : List ℕ) → all_ascii_digits (replicate k 48 ++ bytes) ≡ all_ascii_digits bytes
zeros_are_digits zero bytes = refl
zeros_are_digits (suc k) bytes = zeros_are_digits k bytes

all_digits : (n : ℕ) → n < 2 ^ 64 → all_ascii_digits (in_seven_digits n) ≡ true
all_digits n small = zeros_are_digits (7 - length (decimal n)) (decimal n) ∙ own.from (decimal n) (decimal_is_IsNumeral n small).0.1

length_is : (n : ℕ) → length (in_seven_digits n) ≡ 7 - length (decimal n) + length (decimal n)
length_is n = length-append (replicate (7 - length (decimal n)) 48) (decimal n) ∙ ap (λ (k : ℕ). k + length (decimal n)) (length-replicate (7 - length (decimal n)) 48)

taken : (number most : ℕ) (word : List ℕ) → digits_value 10 word ≡ number → number ≤ most → is_number word ≡ true → number_or_zero most word ≡ number
taken number most word value within is = grind (arith, nat_tests)

seven_digits_have : (n : ℕ) → n < 2 ^ 32 → number_or_zero 4294967295 (in_seven_digits n) ≡ n
seven_digits_have n less =
    let small : n < 2 ^ 64 = omega arith in
    let few : length (decimal n) ≤ 10 = length-decimal-le 10 n (omega arith) (omega arith) small in
    let long = length_is n in
    let digits = all_digits n small in
    let is : is_number (in_seven_digits n) ≡ true = grind (arith, nat_tests) in
    taken n 4294967295 (in_seven_digits n) (value_is n small) (omega arith) is

-- what stands in a part's name after the stem and the underscore
after_stem : (stem end : List ℕ) (n : ℕ) → drop (length stem + 1) (part_name stem end n) ≡ in_seven_digits n ++ end
after_stem stem end n =
    let front = stem ++ codes "_" in
    ap (λ (k : ℕ). drop k (part_name stem end n)) (sym (length-append stem (codes "_")))
    ∙ ap (drop (length front)) (append_assoc front (in_seven_digits n) end)
    ∙ drop-append_seam front (in_seven_digits n ++ end)

digits_long : (stem end : List ℕ) (n : ℕ) → length (part_name stem end n) - length end - (length stem + 1) ≡ length (in_seven_digits n)
digits_long stem end n =
    let whole = length-append ((stem ++ codes "_") ++ in_seven_digits n) end in
    let front = length-append (stem ++ codes "_") (in_seven_digits n) in
    let stems = length-append stem (codes "_") in
    omega (arith, whole, front, stems)

within : (stem end : List ℕ) (n : ℕ) → n < 2 ^ 32 → number_within stem end (part_name stem end n) ≡ n
within stem end n less =
    ap (λ (k : ℕ). number_or_zero 4294967295 (take k (drop (length stem + 1) (part_name stem end n)))) (digits_long stem end n)
    ∙ ap (λ (t : List ℕ). number_or_zero 4294967295 (take (length (in_seven_digits n)) t)) (after_stem stem end n)
    ∙ ap (number_or_zero 4294967295) (take-append_seam (in_seven_digits n) end)
    ∙ seven_digits_have n less

-- a name that is no part's is that of no number
pub no_part : (stem end name : List ℕ) → is_part_name stem end name ≡ false → (n : ℕ) → n < 2 ^ 32 → part_name stem end n ≢ name
no_part stem end name none n less same =
    let number : number_within stem end name ≡ n = ap (number_within stem end) (sym same) ∙ within stem end n less in
    let equal : name ≡ part_name stem end (number_within stem end name) = sym same ∙ ap (part_name stem end) (sym number) in
    let is : is_part_name stem end name ≡ true = (bytes_eq-Decides name (part_name stem end (number_within stem end name))).1 equal in
    cc
