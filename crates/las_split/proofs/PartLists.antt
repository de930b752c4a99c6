-- Numbers of records and the records of parts, of some records and of more.
use Rattle.std.proofs.Common.{◌≡◌, ◌≢◌, ◌⊎◌, ℕ, suc, ◌+◌, ◌≤◌, ◌==◌, not, ◌||◌, Bool, true, false, cond, filter, List, [], ◌∷◌, ◌++◌, length, refl, sym, ◌∙◌, ap, append_assoc, length-append, eq-eqb, arith}
use borrow.Author.Tests.{eqb-true}
use Rattle.std.proofs.lemmas.List.{append-nil}
use Rattle.std.proofs.lemmas.List.Elements.{filter-append}
use Rattle.std.proofs.lemmas.Bool.{cases_Bool}
use Rattle.las_filter.specs.declared.rule.Rule.{Rule}
use Rattle.las_split.specs.Sorting.{is_among}
use Rattle.las_split.specs.Parts.{firsts, number_by, numbers_from, numbers_of_parts, part, part_from}

pub has_or_not : (k : ℕ) (ns : List ℕ) → (is_among k ns ≡ true) ⊎ (is_among k ns ≡ false)
has_or_not k ns = cases_Bool (is_among k ns)

is_other : (n k : ℕ) → n ≢ k → (n == k) ≡ false
is_other n k ne = by (n == k) refl
  where
    by : (b : Bool) → (n == k) ≡ b → (n == k) ≡ false
    by true e = absurd (ne (eqb-true n k e))
    by false e = e

-- ---- records and more records

pub numbers-append : (rule : Rule) (at : ℕ) (xs ys : List (List ℕ)) → numbers_from rule at (xs ++ ys) ≡ numbers_from rule at xs ++ numbers_from rule (at + length xs) ys
numbers-append rule at [] ys = let e : at ≡ at + 0 = omega arith in ap (λ (n : ℕ). numbers_from rule n ys) e
numbers-append rule at (x ∷ xs) ys =
    let far : (at + 1) + length xs ≡ at + suc (length xs) = omega arith in
    ap (λ (ns : List ℕ). number_by rule at x ∷ ns) (numbers-append rule (at + 1) xs ys ∙ ap (λ (n : ℕ). numbers_from rule (at + 1) xs ++ numbers_from rule n ys) far)

with_first : (b : Bool) (x : List ℕ) (xs ys : List (List ℕ)) → cond b (x ∷ (xs ++ ys)) (xs ++ ys) ≡ cond b (x ∷ xs) xs ++ ys
with_first true x xs ys = refl
with_first false x xs ys = refl

pub part-append : (rule : Rule) (at : ℕ) (xs ys : List (List ℕ)) (k : ℕ) → part_from rule at (xs ++ ys) k ≡ part_from rule at xs k ++ part_from rule (at + length xs) ys k
part-append rule at [] ys k = let e : at ≡ at + 0 = omega arith in ap (λ (n : ℕ). part_from rule n ys k) e
part-append rule at (x ∷ xs) ys k =
    let far : (at + 1) + length xs ≡ at + suc (length xs) = omega arith in
    let rest : part_from rule (at + 1) (xs ++ ys) k ≡ part_from rule (at + 1) xs k ++ part_from rule (at + suc (length xs)) ys k = part-append rule (at + 1) xs ys k ∙ ap (λ (n : ℕ). part_from rule (at + 1) xs k ++ part_from rule n ys k) far in
    ap (λ (ps : List (List ℕ)). cond (number_by rule at x == k) (x ∷ ps) ps) rest ∙ with_first (number_by rule at x == k) x (part_from rule (at + 1) xs k) (part_from rule (at + suc (length xs)) ys k)

-- a part whose number no record has
pub part_none : (rule : Rule) (at : ℕ) (xs : List (List ℕ)) (k : ℕ) → is_among k (numbers_from rule at xs) ≡ false → part_from rule at xs k ≡ []
part_none rule at [] k none = refl
part_none rule at (x ∷ xs) k none = by (number_by rule at x == k) (is_among k (numbers_from rule (at + 1) xs)) none (part_none rule (at + 1) xs k)
  where
    by : (b c : Bool) → (b || c) ≡ false → (c ≡ false → part_from rule (at + 1) xs k ≡ []) → cond b (x ∷ part_from rule (at + 1) xs k) (part_from rule (at + 1) xs k) ≡ []
    by true c e rest = absurd (cc)
    by false c e rest = rest e

-- ---- numbers, each once

pub has-append : (k : ℕ) (ns ms : List ℕ) → is_among k (ns ++ ms) ≡ (is_among k ns || is_among k ms)
has-append k [] ms = refl
has-append k (n ∷ ns) ms = ap (λ (b : Bool). (n == k) || b) (has-append k ns ms) ∙ or-assoc (n == k) (is_among k ns) (is_among k ms)
  where
    or-assoc : (a b c : Bool) → (a || (b || c)) ≡ ((a || b) || c)
    or-assoc true b c = refl
    or-assoc false b c = refl

-- one number is taken out
abbrev without : ℕ → List ℕ → List ℕ
without n ns = filter (λ k. not (k == n)) ns

-- another number stays
has-without : (k n : ℕ) (ns : List ℕ) → k ≢ n → is_among k (without n ns) ≡ is_among k ns
has-without k n [] ne = refl
has-without k n (m ∷ ns) ne = by (has-without k n ns ne) (m == n) refl
  where
    by : is_among k (filter (λ j. not (j == n)) ns) ≡ is_among k ns → (b : Bool) → (m == n) ≡ b → is_among k (cond (not (m == n)) (m ∷ filter (λ j. not (j == n)) ns) (filter (λ j. not (j == n)) ns)) ≡ ((m == k) || is_among k ns)
    by rest true e =
        let is : m ≡ n = eqb-true m n e in
        let other : (m == k) ≡ false = is_other m k (λ f. ne (sym f ∙ is)) in
        ap (λ (b : Bool). is_among k (cond (not b) (m ∷ filter (λ j. not (j == n)) ns) (filter (λ j. not (j == n)) ns))) e ∙ rest ∙ ap (λ (b : Bool). b || is_among k ns) (sym other)
    by rest false e =
        ap (λ (b : Bool). is_among k (cond (not b) (m ∷ filter (λ j. not (j == n)) ns) (filter (λ j. not (j == n)) ns))) e ∙ ap (λ (b : Bool). (m == k) || b) rest

-- those that are there once are those that are there
pub has-firsts : (k : ℕ) (ns : List ℕ) → is_among k (firsts ns) ≡ is_among k ns
has-firsts k [] = refl
has-firsts k (n ∷ ns) = by (has-firsts k ns) (n == k) refl
  where
    by : is_among k (firsts ns) ≡ is_among k ns → (b : Bool) → (n == k) ≡ b → ((n == k) || is_among k (filter (λ j. not (j == n)) (firsts ns))) ≡ ((n == k) || is_among k ns)
    by rest true e = ap (λ (b : Bool). b || is_among k (filter (λ j. not (j == n)) (firsts ns))) e ∙ ap (λ (b : Bool). b || is_among k ns) (sym e)
    by rest false e =
        let ne : k ≢ n = λ f. (let g : true ≡ false = sym (eq-eqb n k (sym f)) ∙ e in cc) in
        ap (λ (b : Bool). (n == k) || b) (has-without k n (firsts ns) ne ∙ rest)

-- one number more
pub firsts_more : (ns : List ℕ) (k : ℕ) → firsts (ns ++ k ∷ []) ≡ firsts ns ++ cond (is_among k ns) [] (k ∷ [])
firsts_more [] k = refl
firsts_more (n ∷ ns) k =
    ap (λ (ms : List ℕ). n ∷ filter (λ j. not (j == n)) ms) (firsts_more ns k)
    ∙ ap (λ (ms : List ℕ). n ∷ ms) (filter-append (λ j. not (j == n)) (firsts ns) (cond (is_among k ns) [] (k ∷ [])))
    ∙ ap (λ (ms : List ℕ). n ∷ (filter (λ j. not (j == n)) (firsts ns) ++ ms)) (by (is_among k ns) (n == k) refl)
  where
    by : (b c : Bool) → (n == k) ≡ c → filter (λ j. not (j == n)) (cond b [] (k ∷ [])) ≡ cond (c || b) [] (k ∷ [])
    by true true e = refl
    by true false e = refl
    by false true e = ap (λ (x : Bool). cond (not x) (k ∷ []) []) (eq-eqb k n (sym (eqb-true n k e)))
    by false false e = ap (λ (x : Bool). cond (not x) (k ∷ []) []) (is_other k n (λ f. (let g : true ≡ false = sym (eq-eqb n k (sym f)) ∙ e in cc)))

pub firsts_old : (ns : List ℕ) (k : ℕ) → is_among k (firsts ns) ≡ true → firsts (ns ++ k ∷ []) ≡ firsts ns
firsts_old ns k there = firsts_more ns k ∙ ap (λ (b : Bool). firsts ns ++ cond b [] (k ∷ [])) (sym (has-firsts k ns) ∙ there) ∙ append-nil (firsts ns)

pub firsts_new : (ns : List ℕ) (k : ℕ) → is_among k (firsts ns) ≡ false → firsts (ns ++ k ∷ []) ≡ firsts ns ++ k ∷ []
firsts_new ns k none = firsts_more ns k ∙ ap (λ (b : Bool). firsts ns ++ cond b [] (k ∷ [])) (sym (has-firsts k ns) ∙ none)

-- more numbers leave the first ones where they are
pub firsts_begin : (ns ms : List ℕ) → (more : List ℕ) × (firsts (ns ++ ms) ≡ firsts ns ++ more)
firsts_begin ns [] = ([], ap firsts (append-nil ns) ∙ sym (append-nil (firsts ns)))
firsts_begin ns (m ∷ ms) =
    let rest = firsts_begin (ns ++ m ∷ []) ms in
    let one = cond (is_among m ns) [] (m ∷ []) in
    (one ++ rest.0, ap firsts (sym (append_assoc ns (m ∷ []) ms)) ∙ rest.1 ∙ ap (λ (t : List ℕ). t ++ rest.0) (firsts_more ns m) ∙ append_assoc (firsts ns) one rest.0)

-- ---- the parts of records and of more records

pub parts_begin : (rule : Rule) (xs ys : List (List ℕ)) → (more : List ℕ) × (numbers_of_parts rule (xs ++ ys) ≡ numbers_of_parts rule xs ++ more)
parts_begin rule xs ys =
    let b = firsts_begin (numbers_from rule 0 xs) (numbers_from rule (0 + length xs) ys) in
    (b.0, ap firsts (numbers-append rule 0 xs ys) ∙ b.1)

pub parts_fewer : (rule : Rule) (xs ys : List (List ℕ)) → length (numbers_of_parts rule xs) ≤ length (numbers_of_parts rule (xs ++ ys))
parts_fewer rule xs ys =
    let b = parts_begin rule xs ys in
    omega (arith, ap (λ (t : List ℕ). length t) b.1, length-append (numbers_of_parts rule xs) b.0)

-- one record more
module _ (rule : Rule) (xs : List (List ℕ)) (point : List ℕ) where
  numbers_more : numbers_from rule 0 (xs ++ point ∷ []) ≡ numbers_from rule 0 xs ++ number_by rule (length xs) point ∷ []
  numbers_more =
      let e : 0 + length xs ≡ length xs = omega arith in
      numbers-append rule 0 xs (point ∷ []) ∙ ap (λ (n : ℕ). numbers_from rule 0 xs ++ number_by rule n point ∷ []) e

  pub parts_old : is_among (number_by rule (length xs) point) (numbers_of_parts rule xs) ≡ true → numbers_of_parts rule (xs ++ point ∷ []) ≡ numbers_of_parts rule xs
  parts_old there = ap firsts numbers_more ∙ firsts_old (numbers_from rule 0 xs) (number_by rule (length xs) point) there

  pub parts_new : is_among (number_by rule (length xs) point) (numbers_of_parts rule xs) ≡ false → numbers_of_parts rule (xs ++ point ∷ []) ≡ numbers_of_parts rule xs ++ number_by rule (length xs) point ∷ []
  parts_new none = ap firsts numbers_more ∙ firsts_new (numbers_from rule 0 xs) (number_by rule (length xs) point) none

-- a part that none of the records has
pub no_part : (rule : Rule) (xs : List (List ℕ)) (k : ℕ) → is_among k (numbers_of_parts rule xs) ≡ false → part rule xs k ≡ []
no_part rule xs k none = part_none rule 0 xs k (sym (has-firsts k (numbers_from rule 0 xs)) ∙ none)
