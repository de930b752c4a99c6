-- Results that are Ok if there is no cause, and else have the cause.
use Rattle.std.specs.Prelude.{◌≡◌, refl, Option, Some, None, Result, Ok, Err, IfOk, MatchResult}
use Rattle.std.proofs.Common.{subst, sym}
use Rattle.las_header.specs.declared.refusal.Refusal.{Refusal}
use Rattle.las_header.specs.Refusals.{or_else}

if_none : {T : Type 0} (o : Option Refusal) (r : Result T Refusal) (v : T) → o ≡ None → r ≡ Ok v → MatchResult r (λ x. (o ≡ None) × (x ≡ v)) (λ cause. o ≡ Some cause)
if_none {T} o r v none is = subst (λ (r : Result T Refusal). MatchResult r (λ x. (o ≡ None) × (x ≡ v)) (λ cause. o ≡ Some cause)) (sym is) (none, refl)

if_some : {T : Type 0} (o : Option Refusal) (r : Result T Refusal) (v : T) (cause : Refusal) → o ≡ Some cause → r ≡ Err cause → MatchResult r (λ x. (o ≡ None) × (x ≡ v)) (λ cause. o ≡ Some cause)
if_some {T} o r v cause some is = subst (λ (r : Result T Refusal). MatchResult r (λ x. (o ≡ None) × (x ≡ v)) (λ cause. o ≡ Some cause)) (sym is) some

-- such a result, seen from itself
pub by_cause : {T : Type 0} (o : Option Refusal) (r : Result T Refusal) (v : T) → (o ≡ None → r ≡ Ok v) → ((cause : Refusal) → o ≡ Some cause → r ≡ Err cause)
    → MatchResult r (λ x. (o ≡ None) × (x ≡ v)) (λ cause. o ≡ Some cause)
by_cause None r v ok err = if_none None r v refl (ok refl)
by_cause (Some cause) r v ok err = if_some (Some cause) r v cause refl (err cause refl)

-- no cause, or else another
pub or_else-none : (a b : Option Refusal) → a ≡ None → or_else a b ≡ b
or_else-none None b e = refl
or_else-none (Some cause) b e = absurd (cc)

-- what holds of each result that is Ok
pub if_ok_of : {T F : Type 0} (P Q : T → Type 0) (R : F → Type 0) (r : Result T F) → ((x : T) → P x → Q x) → MatchResult r P R → IfOk r Q
if_ok_of P Q R (Ok x) from is = from x is
if_ok_of P Q R (Err e) from is = tt
