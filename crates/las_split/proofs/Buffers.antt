-- Buffers seen as texts.
use Rattle.std.proofs.Common.{◌≡◌, ℕ, ◌+◌, ◌<◌, ◌≤◌, map, List, [], ◌∷◌, ◌++◌, length, get_or, replicate, set, take}
use Rattle.std.proofs.Common.{OnOk, Result, Ok, Err, sym, ◌∙◌, ap, arith, length-append}
use Rattle.std.specs.Prelude.{Vec}
use Rattle.std.proofs.lemmas.List.{get_or-map, length-map, length-set, map-append, map-set, replicate_more, take_all}
use Rattle.std.proofs.lemmas.List.{take_more_set}

-- the bytes of each buffer
abbrev pub texts : {A : Type 0} → List (Vec ℕ A) → List (List ℕ)
texts buffers = map (λ v. v.items) buffers

-- a record was added to one of them
pub one_added : {A T E : Type 0} (r : Result T E) (vs : List (Vec ℕ A)) (now : List (List ℕ)) (place : ℕ) (old new : Vec ℕ A) (point : List ℕ) → texts vs ≡ now → place < length now → old ≡ get_or vs place old → OnOk r (new.items ≡ old.items ++ point)
    → OnOk r (texts (set vs place new) ≡ set now place (get_or now place [] ++ point))
one_added {A = A} (Ok x) vs now place old new point is within here added =
    let few : place < length vs = omega (arith, within, ap (λ (t : List (List ℕ)). length t) is, length-map vs (λ (v : Vec ℕ A). v.items)) in
    let was : get_or now place [] ≡ old.items = ap (λ (t : List (List ℕ)). get_or t place []) (sym is) ∙ get_or-map (λ v. v.items) vs place old [] few ∙ ap (λ v. v.items) (sym here) in
    map-set (λ v. v.items) vs place new ∙ ap (λ (t : List ℕ). set (texts vs) place t) (added ∙ ap (λ (t : List ℕ). t ++ point) (sym was))
    ∙ ap (λ (t : List (List ℕ)). set t place (get_or now place [] ++ point)) is
one_added (Err e) vs now place old new point is within here added = tt

-- the buffers up to a place are empty
abbrev pub AreEmpty : {A : Type 0} → List (Vec ℕ A) → ℕ → Type 0
AreEmpty buffers place = (place ≤ length buffers) × (texts (take place buffers) ≡ replicate place [])

one_more :
    (ts : List (List ℕ)) (place : ℕ) (t : List ℕ) → ts ≡ replicate place [] → t ≡ [] → ts ++
    t ∷ [] ≡ replicate (place + 1) []
one_more ts place t e f =
    ap (λ (us : List (List ℕ)). us ++ t ∷ []) e ∙ ap (λ (u : List ℕ). replicate place [] ++ u ∷ []) f ∙
    replicate_more place []

pub emptied :
    {A : Type 0} (vs ws : List (Vec ℕ A)) (place : ℕ) (new : Vec ℕ A) → ws ≡ set vs place new → place < length vs →
    new.items ≡ [] → texts (take place vs) ≡ replicate place [] → AreEmpty ws (place + 1)
emptied {A = A} vs ws place new is few none first =
    let long : length ws ≡ length vs = ap (λ (us : List (Vec ℕ A)). length us) is ∙ length-set vs place new in
    let front : take (place + 1) ws ≡ take place vs ++ new ∷ [] =
    ap (λ (us : List (Vec ℕ A)). take (place + 1) us) is ∙ take_more_set vs place new few in (
      omega (arith, long, few),
      ap texts front ∙ map-append (λ v. v.items) (take place vs) (new ∷ []) ∙
          one_more _ place new.items first none,
    )

pub opened :
    {A : Type 0} (vs ws : List (Vec ℕ A)) (place : ℕ) (new : Vec ℕ A) → ws ≡ vs ++ new ∷ [] → place ≤ length vs →
    length vs ≤ place → new.items ≡ [] → texts (take place vs) ≡ replicate place [] → AreEmpty ws (place + 1)
opened {A = A} vs ws place new is least most none first =
    let long : length ws ≡ length vs + 1 = ap (λ (us : List (Vec ℕ A)). length us) is ∙ length-append vs (new ∷ []) in
    let all : texts vs ≡ replicate place [] = ap texts (sym (take_all place vs most)) ∙ first in (
      omega (arith, long, least),
      ap texts (take_all (place + 1) ws (omega (arith, long, most)) ∙ is) ∙
          map-append (λ v. v.items) vs (new ∷ []) ∙ one_more _ place new.items all none,
    )
