-- Lists of conditions: there is one first cause, joined lists, and tests. Meant for the crates above, which join their own.
use Rattle.std.proofs.Common.{◌≡◌, inl, inr, Bool, true, false, List, [], ◌∷◌, ◌++◌, Option, Some, None, refl, sym, ◌∙◌}
use Rattle.las_header.specs.declared.refusal.Refusal.{Refusal}
use Rattle.las_header.specs.Refusals.{first_cause}
use Rattle.las_header.specs.Conditions.{Condition, IsFirst, conditions}

-- at most one answer is the first cause of a list
pub IsFirst-one : (cs : List Condition) (x y : Option Refusal) → IsFirst cs x → IsFirst cs y → x ≡ y
IsFirst-one [] x y is was = is ∙ sym was
IsFirst-one (c ∷ cs) x y is was = elim is [
  | inl here ↦ elim was [
    | inl there ↦ here.1 ∙ sym there.1
    | inr later ↦ absurd (later.0 here.0)
  ]
  | inr after ↦ elim was [
    | inl there ↦ absurd (after.0 there.0)
    | inr later ↦ IsFirst-one cs x y after.1 later.1
  ]
]

-- if a condition of the first list holds, its cause is that of both
pub IsFirst-append_some : (xs ys : List Condition) (cause : Refusal) → IsFirst xs (Some cause) → IsFirst (xs ++ ys) (Some cause)
IsFirst-append_some [] ys cause is = absurd (cc)
IsFirst-append_some (c ∷ xs) ys cause is = elim is [
  | inl here ↦ inl here
  | inr after ↦ inr (after.0, IsFirst-append_some xs ys cause after.1)
]

-- and if none does, the cause is that of the second
pub IsFirst-append_none : (xs ys : List Condition) (answer : Option Refusal) → IsFirst xs None → IsFirst ys answer → IsFirst (xs ++ ys) answer
IsFirst-append_none [] ys answer none is = is
IsFirst-append_none (c ∷ xs) ys answer none is = elim none [
  | inl here ↦ let clash = here.1 in absurd (cc)
  | inr after ↦ inr (after.0, IsFirst-append_none xs ys answer after.1 is)
]

apart : false ≡ true → ⊥
apart h = absurd (cc)

-- the first cause of tests is their first cause as conditions
pub IsFirst-tests : (cs : List (Bool × Refusal)) → IsFirst (conditions cs) (first_cause cs)
IsFirst-tests [] = refl
IsFirst-tests ((true, r) ∷ cs) = inl (refl, refl)
IsFirst-tests ((false, r) ∷ cs) = inr (apart, IsFirst-tests cs)

pub first_is_tested : (cs : List (Bool × Refusal)) (answer : Option Refusal) → IsFirst (conditions cs) answer → answer ≡ first_cause cs
first_is_tested cs answer is = IsFirst-one (conditions cs) answer (first_cause cs) is (IsFirst-tests cs)
