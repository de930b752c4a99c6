-- Sets that can be searched: of every property that is decided of each member it is decided whether a member has it.
use Rattle.std.proofs.Common.{◌≡◌, ◌⊎◌, inl, inr, ℕ, zero, suc, ◌<◌, Bool, true, false, IsTrue, arith, refl, sym, subst}
use Rattle.std.proofs.lemmas.Bool.{cases_lt}

-- ---- what is decided

abbrev pub Decided : Type 0 → Type 0
Decided A = A ⊎ (¬ A)

pub decided_if : {A B : Type 0} → (A → B) → (B → A) → Decided A → Decided B
decided_if to from (inl a) = inl (to a)
decided_if to from (inr none) = inr (λ b. none (from b))

pub decided_not : {A : Type 0} → Decided A → Decided (¬ A)
decided_not (inl a) = inr (λ none. none a)
decided_not (inr none) = inl none

pub decided_both : {A B : Type 0} → Decided A → (A → Decided B) → Decided (A × B)
decided_both {A} {B} (inr none) second = inr (λ h. none h.0)
decided_both {A} {B} (inl a) second = elim (second a) [
  | inl b ↦ inl (a, b)
  | inr none ↦ inr (λ h. none h.1)
]

pub decided_either : {A B : Type 0} → Decided A → Decided B → Decided (A ⊎ B)
decided_either (inl a) other = inl (inl a)
decided_either (inr none) (inl b) = inl (inr b)
decided_either (inr none) (inr nor) = inr (λ h. elim h [
  | inl a ↦ none a
  | inr b ↦ nor b
])

pub is_true : (b : Bool) → Decided (IsTrue b)
is_true true = inl refl
is_true false = inr (λ is. absurd (cc))

-- ---- what is searched

abbrev pub IsSearched : {X : Type 0} → (X → Type 0) → Type 1
IsSearched {X} Has = (Q : X → Type 0) → ((x : X) → Has x → Decided (Q x)) → Decided ((x : X) × Has x × Q x)

-- one value
pub searched_one : {X : Type 0} (a : X) → IsSearched (λ x. x ≡ a)
searched_one {X} a Q decides =
    decided_if {A = Q a} {B = (x : X) × (x ≡ a) × Q x} (λ q. (a, refl, q)) (λ h. subst Q h.1 h.2) (decides a refl)

-- nothing
pub searched_none : {X : Type 0} (Has : X → Type 0) → ((x : X) → Has x → ⊥) → IsSearched Has
searched_none Has none Q decides = inr (λ h. none h.0 h.1)

-- the members of a set that have something that is decided of each
pub searched_among : {X : Type 0} (Has R : X → Type 0) → IsSearched Has → ((x : X) → Has x → Decided (R x)) → IsSearched (λ x. Has x × R x)
searched_among {X} Has R searched decided Q decides =
    decided_if {A = (x : X) × Has x × (R x × Q x)} {B = (x : X) × (Has x × R x) × Q x}
    (λ h. (h.0, (h.1, h.2.0), h.2.1)) (λ h. (h.0, h.1.0, (h.1.1, h.2)))
    (searched (λ x. R x × Q x) (λ x has. decided_both (decided x has) (λ r. decides x (has, r))))

-- the members of two sets
pub searched_or : {X : Type 0} (One Other : X → Type 0) → IsSearched One → IsSearched Other → IsSearched (λ x. One x ⊎ Other x)
searched_or {X} One Other one other Q decides =
    decided_if {A = ((x : X) × One x × Q x) ⊎ ((x : X) × Other x × Q x)} {B = (x : X) × (One x ⊎ Other x) × Q x}
    (λ h. elim h [ inl a ↦ (a.0, inl a.1, a.2) | inr b ↦ (b.0, inr b.1, b.2) ])
    (λ h. elim h.1 [ inl a ↦ inl (h.0, a, h.2) | inr b ↦ inr (h.0, b, h.2) ])
    (decided_either (one Q (λ x has. decides x (inl has))) (other Q (λ x has. decides x (inr has))))

-- pairs whose second part is of a set that the first one gives
pub searched_pairs : {A B : Type 0} (First : A → Type 0) (Second : A → B → Type 0) → IsSearched First → ((a : A) → First a → IsSearched (Second a))
    → IsSearched (λ (x : A × B). First x.0 × Second x.0 x.1)
searched_pairs {A} {B} First Second first second Q decides =
    decided_if {A = (a : A) × First a × ((b : B) × Second a b × Q (a, b))} {B = (x : A × B) × (First x.0 × Second x.0 x.1) × Q x}
    (λ h. ((h.0, h.2.0), (h.1, h.2.1), h.2.2)) (λ h. (h.0.0, h.1.0, (h.0.1, h.1.1, h.2)))
    (first (λ a. (b : B) × Second a b × Q (a, b)) (λ a has. second a has (λ b. Q (a, b)) (λ b also. decides (a, b) (has, also))))

-- what the members of a set make
pub searched_made : {A X : Type 0} (From : A → Type 0) (make : A → X) (Has : X → Type 0) → IsSearched From
    → ((a : A) → From a → Has (make a)) → ((x : X) → Has x → (a : A) × From a × (make a ≡ x)) → IsSearched Has
searched_made {A} {X} From make Has searched sound covers Q decides =
    decided_if {A = (a : A) × From a × Q (make a)} {B = (x : X) × Has x × Q x}
    (λ h. (make h.0, sound h.0 h.1, h.2))
    (λ h. let c = covers h.0 h.1 in (c.0, c.1, subst Q (sym c.2) h.2))
    (searched (λ a. Q (make a)) (λ a has. decides (make a) (sound a has)))

-- a set with the same members
pub searched_as : {X : Type 0} (One Other : X → Type 0) → IsSearched One → ((x : X) → One x → Other x) → ((x : X) → Other x → One x) → IsSearched Other
searched_as One Other one to from = searched_made One (λ x. x) Other one to (λ x has. (x, from x has, refl))

-- the numbers below some number
pub searched_below : (n : ℕ) → IsSearched (λ k. k < n)
searched_below zero Q decides = inr (λ h. absurd (omega (arith, h.1)))
searched_below (suc n) Q decides = elim (decides n (omega arith)) [
  | inl q ↦ inl (n, omega arith, q)
  | inr not_last ↦
      decided_if {A = (k : ℕ) × (k < n) × Q k} {B = (k : ℕ) × (k < suc n) × Q k}
      (λ h. (h.0, omega (arith, h.1), h.2))
      (λ h. elim (cases_lt h.0 n) [
        | inl below ↦ (h.0, below, h.2)
        | inr above ↦ let last : h.0 ≡ n = omega (arith, above, h.1) in absurd (not_last (subst Q last h.2))
      ])
      (searched_below n Q (λ k lt. decides k (omega (arith, lt))))
]
