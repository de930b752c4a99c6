-- What is kept of a list of records, one record at a time.
use Rattle.std.proofs.Common.{◌≡◌, ℕ, ◌+◌, Bool, true, false, cond, not, ◌||◌, List, [], ◌∷◌, ◌++◌, length, map, Option, Some, None, is_some, refl, sym, ◌∙◌, ap, arith}
use Rattle.std.specs.Option.{is_none, some_prefix}
use Rattle.std.specs.List.{filter, position, position_from}
use Rattle.std.proofs.lemmas.List.{map-append, append-nil}
use Rattle.std.proofs.lemmas.List.Elements.{filter-append}
use Rattle.std.proofs.lemmas.Iterator.Adapters.{position_from-zero}
use Rattle.las_filter.specs.Filters.{keeps_all}
use Rattle.las_filter.specs.Changes.{changed}
use Rattle.las_filter.specs.Kept.{Steps, Kept, kept, kept_of, kept_and, outcomes, GrowsOneByOne, CountsItsRecords}

abbrev Outcome : Type 0
Outcome = Option (List ℕ)

-- the place of the first that is refused is the number of records before it
refused_place : (i : ℕ) (all : List Outcome) (k : ℕ) → position_from is_none i all ≡ Some k → k ≡ i + length (some_prefix all)
refused_place i [] k is = cc
refused_place i (None ∷ all) k is = grind arith
refused_place i (Some x ∷ all) k is = omega (arith, refused_place (i + 1) all k is)

-- nothing comes after a refused one
after_refused : (i : ℕ) (all : List Outcome) (o : Outcome) (k : ℕ) → position_from is_none i all ≡ Some k
    → (position_from is_none i (all ++ o ∷ []) ≡ Some k) × (some_prefix (all ++ o ∷ []) ≡ some_prefix all)
after_refused i [] o k is = cc
after_refused i (None ∷ all) o k is = (is, refl)
after_refused i (Some x ∷ all) o k is =
    let rest = after_refused (i + 1) all o k is in
    (rest.0, ap (λ (xs : List (List ℕ)). x ∷ xs) rest.1)

then_kept : (i : ℕ) (all : List Outcome) (point : List ℕ) → position_from is_none i all ≡ None
    → (position_from is_none i (all ++ Some point ∷ []) ≡ None) × (some_prefix (all ++ Some point ∷ []) ≡ some_prefix all ++ point ∷ [])
then_kept i [] point is = (refl, refl)
then_kept i (None ∷ all) point is = cc
then_kept i (Some x ∷ all) point is =
    let rest = then_kept (i + 1) all point is in
    (rest.0, ap (λ (xs : List (List ℕ)). x ∷ xs) rest.1)

then_refused : (i : ℕ) (all : List Outcome) → position_from is_none i all ≡ None
    → (position_from is_none i (all ++ None ∷ []) ≡ Some (i + length (some_prefix all))) × (some_prefix (all ++ None ∷ []) ≡ some_prefix all)
then_refused i [] is = (ap (λ (n : ℕ). Some n) (omega arith), refl)
then_refused i (None ∷ all) is = cc
then_refused i (Some x ∷ all) is =
    let rest = then_refused (i + 1) all is in
    (rest.0 ∙ ap (λ (n : ℕ). Some n) (omega arith), ap (λ (xs : List (List ℕ)). x ∷ xs) rest.1)

-- what is kept, as its two parts
abbrev kept_from : List (List ℕ) → Option ℕ → Kept
kept_from records raw_range = record { records = records; raw_range = raw_range }

place : (all : List Outcome) → position is_none all ≡ position_from is_none 0 all
place all = position_from-zero is_none all

kept_of-is : (all : List Outcome) (found : Option ℕ) → position_from is_none 0 all ≡ found → kept_of all ≡ kept_from (some_prefix all) found
kept_of-is all found is = ap (kept_from (some_prefix all)) (place all ∙ is)

same_parts : (a b : List (List ℕ)) (c d : Option ℕ) → a ≡ b → c ≡ d → kept_from a c ≡ kept_from b d
same_parts a b c d same alike = cc

-- one outcome more
push_found : (all : List Outcome) (o : Outcome) (found : Option ℕ) → position_from is_none 0 all ≡ found
    → kept_of (all ++ o ∷ []) ≡ cond (is_some found) (kept_from (some_prefix all) found) (kept_and (kept_from (some_prefix all) found) o)
push_found all o (Some k) is =
    let after = after_refused 0 all o k is in
    same_parts _ _ _ _ after.1 (place (all ++ o ∷ []) ∙ after.0)
push_found all (Some point) None is =
    let after = then_kept 0 all point is in
    same_parts _ _ _ _ after.1 (place (all ++ Some point ∷ []) ∙ after.0)
push_found all None None is =
    let after = then_refused 0 all is in
    same_parts _ _ _ _ after.1 (place (all ++ None ∷ []) ∙ after.0 ∙ ap (λ (n : ℕ). Some n) (omega arith))

push : (all : List Outcome) (o : Outcome) → kept_of (all ++ o ∷ []) ≡ cond (is_some (kept_of all).raw_range) (kept_of all) (kept_and (kept_of all) o)
push all o =
    push_found all o (position_from is_none 0 all) refl
    ∙ ap (λ (k : Kept). cond (is_some k.raw_range) k (kept_and k o)) (sym (kept_of-is all (position_from is_none 0 all) refl))

-- a record more, that passes or not
outcomes-push : (plan : Steps) (records : List (List ℕ)) (point : List ℕ) (passes : Bool) → keeps_all plan.keeps point ≡ passes
    → outcomes plan (records ++ point ∷ []) ≡ outcomes plan records ++ map (changed plan.changes) (cond passes (point ∷ []) [])
outcomes-push plan records point passes is =
    ap (map (changed plan.changes)) (filter-append (keeps_all plan.keeps) records (point ∷ []) ∙ ap (λ (b : Bool). filter (keeps_all plan.keeps) records ++ cond b (point ∷ []) []) is)
    ∙ map-append (changed plan.changes) (filter (keeps_all plan.keeps) records) (cond passes (point ∷ []) [])

or-false : (b : Bool) → b || false ≡ b
or-false true = refl
or-false false = refl

or-true : (b : Bool) → b || true ≡ true
or-true true = refl
or-true false = refl

grows_if : (plan : Steps) (records : List (List ℕ)) (point : List ℕ) (passes : Bool) → keeps_all plan.keeps point ≡ passes
    → kept plan (records ++ point ∷ []) ≡ cond (is_some (kept plan records).raw_range || not passes) (kept plan records) (kept_and (kept plan records) (changed plan.changes point))
grows_if plan records point true is =
    ap kept_of (outcomes-push plan records point true is)
    ∙ push (outcomes plan records) (changed plan.changes point)
    ∙ ap (λ (b : Bool). cond b (kept plan records) (kept_and (kept plan records) (changed plan.changes point))) (sym (or-false (is_some (kept plan records).raw_range)))
grows_if plan records point false is =
    ap kept_of (outcomes-push plan records point false is ∙ append-nil (outcomes plan records))
    ∙ ap (λ (b : Bool). cond b (kept plan records) (kept_and (kept plan records) (changed plan.changes point))) (sym (or-true (is_some (kept plan records).raw_range)))

pub grows : GrowsOneByOne
grows plan records point = grows_if plan records point (keeps_all plan.keeps point) refl

pub counts : CountsItsRecords
counts plan records number is = refused_place 0 (outcomes plan records) number (sym (place (outcomes plan records)) ∙ is) ∙ omega arith
