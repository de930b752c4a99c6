-- Values that compute: the numbers and the parts of five records, and how many parts there may be.
use Rattle.std.proofs.Common.{◌≡◌, ℕ, ◌+◌, ◌<◌, ◌==◌, ◌&&◌, Bool, true, false, cond, not, leb, List, [], ◌∷◌, ◌++◌}
use Rattle.las_split.specs.declared.limits.TheConstants.{MAX_PARTS}
use Rattle.std.proofs.Common.{filter, length, replicate, refl, ap, ◌∙◌, arith}
use Rattle.std.proofs.lemmas.Bool.{leb-true}
use Rattle.las_header.specs.Numbers.{number_at}
use Rattle.las_filter.specs.declared.rule.Rule.{Rule}
use Rattle.las_filter.specs.declared.rule.Rule.TheVariants.{Every, Class, Source, Return}
use Rattle.las_split.specs.Parts.{firsts, joined_parts, numbers_from, numbers_of_parts, part}
use Rattle.las_split.specs.Splitting.{OpensTooMany}
use Rattle.las_split.proofs.Opening.{not_there}

-- a record with a flag byte, a classification byte and a point source ID of one byte
abbrev record_of : (flags class source : ℕ) → List ℕ
record_of flags class source = replicate 14 0 ++ flags ∷ class ∷ 0 ∷ 0 ∷ source ∷ 0 ∷ []

-- class 5 with a class flag, return 1 of 2, and so on
abbrev first : List ℕ
first = record_of 17 37 9

abbrev second : List ℕ
second = record_of 18 2 9

abbrev third : List ℕ
third = record_of 17 5 3

abbrev fourth : List ℕ
fourth = record_of 18 5 9

abbrev fifth : List ℕ
fifth = record_of 17 2 3

abbrev five : List (List ℕ)
five = first ∷ second ∷ third ∷ fourth ∷ fifth ∷ []

-- two records a part: 2, 2 and 1
numbers_of_two : numbers_from (Every 2) 0 five ≡ 0 ∷ 0 ∷ 1 ∷ 1 ∷ 2 ∷ []
numbers_of_two = refl

parts_of_two : numbers_of_parts (Every 2) five ≡ 0 ∷ 1 ∷ 2 ∷ []
parts_of_two = refl

two : (part (Every 2) five 0 ≡ first ∷ second ∷ []) × (part (Every 2) five 1 ≡ third ∷ fourth ∷ []) × (part (Every 2) five 2 ≡ fifth ∷ [])
two = (refl, refl, refl)

joined : joined_parts (Every 2) five 3 ≡ five
joined = refl

-- by class, in the order of the first records; class flags do not matter, and no part of class 3 is there
classes : numbers_of_parts Class five ≡ 5 ∷ 2 ∷ []
classes = refl

by_class : (part Class five 5 ≡ first ∷ third ∷ fourth ∷ []) × (part Class five 2 ≡ second ∷ fifth ∷ []) × (part Class five 3 ≡ [])
by_class = (refl, refl, refl)

sources : (numbers_of_parts Source five ≡ 9 ∷ 3 ∷ []) × (part Source five 3 ≡ third ∷ fifth ∷ [])
unfolding number_at
sources = (refl, refl)

returned : (numbers_of_parts Return five ≡ 1 ∷ 2 ∷ []) × (part Return five 2 ≡ second ∷ fourth ∷ [])
returned = (refl, refl)

-- numbers that ascend are there once each
abbrev ascend : (least : ℕ) → List ℕ → Bool
ascend least [] = true
ascend least (n ∷ ns) = leb least n && ascend (n + 1) ns

both : (a b : Bool) → (a && b) ≡ true → (a ≡ true) × (b ≡ true)
both true b e = (refl, e)
both false b e = cc

none_gone : (m least : ℕ) (ns : List ℕ) → m < least → ascend least ns ≡ true → filter (λ k. not (k == m)) ns ≡ ns
none_gone m least [] less up = refl
none_gone m least (n ∷ ns) less up =
    let p = both (leb least n) (ascend (n + 1) ns) up in
    let far = leb-true least n p.0 in
    let other : (n == m) ≡ false = not_there m n (λ e. absurd (omega (arith, less, far, e))) in
    let rest = filter (λ k. not (k == m)) ns in
    ap (λ (b : Bool). cond (not b) (n ∷ rest) rest) other ∙ ap (λ (t : List ℕ). n ∷ t)
    (none_gone m (n + 1) ns (omega (arith, less, far)) p.1)

all_first : (least : ℕ) (ns : List ℕ) → ascend least ns ≡ true → firsts ns ≡ ns
all_first least [] up = refl
all_first least (n ∷ ns) up =
    let p = both (leb least n) (ascend (n + 1) ns) up in
    let one : n < n + 1 = omega arith in
    ap (λ (t : List ℕ). n ∷ filter (λ k. not (k == n)) t) (all_first (n + 1) ns p.1) ∙
    ap (λ (t : List ℕ). n ∷ t) (none_gone n (n + 1) ns one p.1)

count_of_parts :
    (rule : Rule) (records : List (List ℕ)) (count : ℕ) → ascend 0 (numbers_from rule 0 records) ≡ true →
    length (numbers_from rule 0 records) ≡ count → length (numbers_of_parts rule records) ≡ count
count_of_parts rule records count up e =
    ap (λ (ns : List ℕ). length ns) (all_first 0 (numbers_from rule 0 records) up) ∙ e

-- 512 parts fit, and 513 do not
one_too_many : OpensTooMany (Every 1) (replicate 512 first) first
one_too_many =
    record {
      full = count_of_parts (Every 1) (replicate 512 first) 512 refl refl;
      more = count_of_parts (Every 1) (replicate 512 first ++ first ∷ []) 513 refl refl;
    }

-- the numbers that the definitions take from the code
max_parts_is : MAX_PARTS ≡ 512
max_parts_is = refl
