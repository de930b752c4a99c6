-- Spellings of integers, bytes and words can be searched.
use Rattle.std.proofs.Common.{◌≡◌, inl, inr, ℕ, ℤ, pos, negsuc, ◌+◌, ◌<◌, ◌≤◌, Bool, true, false, List, [], ◌∷◌, arith, refl, sym, ◌∙◌, ap, subst}
use Rattle.std.proofs.lemmas.Bool.{cases_lt}
use Rattle.laz_integer.specs.Corrector.{choices, corrected}
use Rattle.laz_integer.specs.Events.{Event}
use Rattle.laz_integer.specs.Fields.{IsByte, SpellsByte, SpellsWord, byte_events}
use Rattle.laz_integer.specs.Integer.{IntSpell, corrector_events}
use Rattle.laz_integer.proofs.Public.{same_pair}
use Rattle.laz_rgb.specs.Rows.{IsRow}
use Rattle.laz_forms.proofs.Searching.{Decided, IsSearched, decided_if, searched_as, searched_below, searched_made, searched_one, searched_pairs}

-- ---- equations are decided

pub same_number : (a b : ℕ) → Decided (a ≡ b)
same_number a b = elim (cases_lt a b) [
  | inl below ↦ inr (λ e. absurd (omega (arith, below, e)))
  | inr above ↦ elim (cases_lt b a) [
    | inl beyond ↦ inr (λ e. absurd (omega (arith, beyond, e)))
    | inr not_beyond ↦ inl (omega (arith, above, not_beyond))
  ]
]

pub same_integer : (a b : ℤ) → Decided (a ≡ b)
same_integer (pos m) (pos n) = decided_if {A = m ≡ n} {B = pos m ≡ pos n} (ap (λ (k : ℕ). pos k)) (λ e. cc) (same_number m n)
same_integer (pos m) (negsuc n) = inr (λ e. absurd (cc))
same_integer (negsuc m) (pos n) = inr (λ e. absurd (cc))
same_integer (negsuc m) (negsuc n) = decided_if {A = m ≡ n} {B = negsuc m ≡ negsuc n} (ap (λ (k : ℕ). negsuc k)) (λ e. cc) (same_number m n)

pub same_list : {X : Type 0} → ((x y : X) → Decided (x ≡ y)) → (xs ys : List X) → Decided (xs ≡ ys)
same_list same [] [] = inl refl
same_list same [] (y ∷ ys) = inr (λ e. absurd (cc))
same_list same (x ∷ xs) [] = inr (λ e. absurd (cc))
same_list {X} same (x ∷ xs) (y ∷ ys) = elim (same x y) [
  | inr differ ↦ inr (λ e. let first : x ≡ y = cc in differ first)
  | inl first ↦ elim (same_list same xs ys) [
    | inr differ ↦ inr (λ e. let rest : xs ≡ ys = cc in differ rest)
    | inl rest ↦ inl (ap (λ (z : X). z ∷ xs) first ∙ ap (λ (zs : List X). y ∷ zs) rest)
  ]
]

pub is_at_most : (a b : ℕ) → Decided (a ≤ b)
is_at_most a b = elim (cases_lt b a) [
  | inl beyond ↦ inr (λ le. absurd (omega (arith, beyond, le)))
  | inr within ↦ inl (omega (arith, within))
]

pub is_below : (a b : ℕ) → Decided (a < b)
is_below a b = elim (cases_lt a b) [
  | inl below ↦ inl below
  | inr above ↦ inr (λ lt. absurd (omega (arith, above, lt)))
]

-- ---- integers

-- The spellings of an integer, each with its value and its width.
abbrev pub IsInteger : (kind : List ℕ) → (bits context : ℕ) → (pred : ℤ) → List Event × (ℤ × ℕ) → Type 0
IsInteger kind bits ctx pred x = IntSpell kind bits ctx pred x.0 x.1.0 x.1.1

module _ (kind : List ℕ) (bits ctx : ℕ) (pred : ℤ) where
  abbrev made : ℕ × ℕ → List Event × (ℤ × ℕ)
  made c = (corrector_events kind bits ctx c.0 c.1, (corrected bits pred c.0 c.1, c.0))

  sound : (c : ℕ × ℕ) → (c.0 < bits + 1) × (c.1 < choices c.0) → IsInteger kind bits ctx pred (made c)
  sound c is = record { v = c.1; width = omega (arith, is.0); within = is.1; is = refl; makes = refl }

  covers : (x : List Event × (ℤ × ℕ)) → IsInteger kind bits ctx pred x → (c : ℕ × ℕ) × ((c.0 < bits + 1) × (c.1 < choices c.0)) × (made c ≡ x)
  covers x spell = (
    (x.1.1, spell.v),
    (omega (arith, spell.width), spell.within),
    same_pair (corrector_events kind bits ctx x.1.1 spell.v) x.0 (corrected bits pred x.1.1 spell.v, x.1.1) x.1 (sym spell.is)
        (same_pair (corrected bits pred x.1.1 spell.v) x.1.0 x.1.1 x.1.1 (sym spell.makes) refl),
  )

  pub searched_integer : IsSearched (IsInteger kind bits ctx pred)
  searched_integer =
      searched_made (λ (c : ℕ × ℕ). (c.0 < bits + 1) × (c.1 < choices c.0)) made (IsInteger kind bits ctx pred)
      (searched_pairs (λ (k : ℕ). k < bits + 1) (λ (k v : ℕ). v < choices k) (searched_below (bits + 1)) (λ k lt. searched_below (choices k)))
      sound covers

-- ---- bytes and words of a record

pub searched_byte : (marked : Bool) (kind : List ℕ) (m expected : ℕ) → IsSearched (λ (x : List Event × ℕ). SpellsByte marked kind m expected x.0 x.1)
searched_byte true kind m expected =
    searched_made (λ (s : ℕ). s < 256) (λ s. (byte_events kind m s, s)) (λ (x : List Event × ℕ). SpellsByte true kind m expected x.0 x.1) (searched_below 256)
    (λ s lt. (lt, refl)) (λ x spell. (x.1, spell.0, same_pair (byte_events kind m x.1) x.0 x.1 x.1 (sym spell.1) refl))
searched_byte false kind m expected =
    searched_as (λ (x : List Event × ℕ). x ≡ ([], expected)) (λ (x : List Event × ℕ). SpellsByte false kind m expected x.0 x.1) (searched_one ([], expected))
    (λ x e. (ap (λ (y : List Event × ℕ). y.0) e, ap (λ (y : List Event × ℕ). y.1) e)) (λ x spell. same_pair x.0 [] x.1 expected spell.0 spell.1)

-- a byte that may be read
searched_symbol : (marked : Bool) → IsSearched (IsByte marked 0)
searched_symbol true = searched_below 256
searched_symbol false = searched_one 0

row_nil : (xs : List ℕ) → IsRow [] xs → xs ≡ []
row_nil [] is = refl
row_nil (x ∷ xs) is = absurd is

row_cons : (t : Bool) (marks : List Bool) (xs : List ℕ) → IsRow (t ∷ marks) xs → (x : ℕ × List ℕ) × (IsByte t 0 x.0 × IsRow marks x.1) × ((x.0 ∷ x.1) ≡ xs)
row_cons t marks [] is = absurd is
row_cons t marks (s ∷ xs) is = ((s, xs), is, refl)

module _ (kind : List ℕ) (ctx pred : ℕ) (Q : List Event × ℕ → Type 0) (decides : (x : List Event × ℕ) → SpellsWord true kind ctx pred x.0 x.1 → Decided (Q x)) where
  abbrev IsWordWith : List Event × (ℤ × ℕ) → Type 0
  IsWordWith y = (n : ℕ) × (y.1.0 ≡ pos n) × Q (y.0, n)

  value_decided : (events : List Event) (k : ℕ) (z : ℤ) → IntSpell kind 16 ctx (pos pred) events z k → Decided ((n : ℕ) × (z ≡ pos n) × Q (events, n))
  value_decided events k (negsuc n) spell = inr (λ h. let clash : negsuc n ≡ pos h.0 = h.1 in absurd (cc))
  value_decided events k (pos n) spell =
      decided_if {A = Q (events, n)} {B = (m : ℕ) × (pos n ≡ pos m) × Q (events, m)}
      (λ q. (n, refl, q)) (λ h. let same : h.0 ≡ n = let e : pos n ≡ pos h.0 = h.1 in cc in subst (λ (m : ℕ). Q (events, m)) same h.2)
      (decides (events, n) (k, spell))

  word_decided : Decided ((x : List Event × ℕ) × SpellsWord true kind ctx pred x.0 x.1 × Q x)
  word_decided =
      decided_if {A = (y : List Event × (ℤ × ℕ)) × IsInteger kind 16 ctx (pos pred) y × IsWordWith y} {B = (x : List Event × ℕ) × SpellsWord true kind ctx pred x.0 x.1 × Q x}
      (λ h. ((h.0.0, h.2.0), (h.0.1.1, subst (λ (z : ℤ). IntSpell kind 16 ctx (pos pred) h.0.0 z h.0.1.1) h.2.1 h.1), h.2.2))
      (λ h. ((h.0.0, (pos h.0.1, h.1.0)), h.1.1, (h.0.1, refl, h.2)))
      (searched_integer kind 16 ctx (pos pred) IsWordWith (λ y spell. value_decided y.0 y.1.1 y.1.0 spell))

pub searched_word : (marked : Bool) (kind : List ℕ) (ctx pred : ℕ) → IsSearched (λ (x : List Event × ℕ). SpellsWord marked kind ctx pred x.0 x.1)
searched_word false kind ctx pred =
    searched_as (λ (x : List Event × ℕ). x ≡ ([], pred)) (λ (x : List Event × ℕ). SpellsWord false kind ctx pred x.0 x.1) (searched_one ([], pred))
    (λ x e. (ap (λ (y : List Event × ℕ). y.0) e, ap (λ (y : List Event × ℕ). y.1) e)) (λ x spell. same_pair x.0 [] x.1 pred spell.0 spell.1)
searched_word true kind ctx pred = word_decided kind ctx pred

-- ---- rows of bytes

pub searched_row : (marks : List Bool) → IsSearched (IsRow marks)
searched_row [] = searched_as (λ (xs : List ℕ). xs ≡ []) (IsRow []) (searched_one []) (λ xs e. subst (IsRow []) (sym e) tt) row_nil
searched_row (t ∷ marks) =
    searched_made (λ (x : ℕ × List ℕ). IsByte t 0 x.0 × IsRow marks x.1) (λ x. x.0 ∷ x.1) (IsRow (t ∷ marks))
    (searched_pairs (IsByte t 0) (λ s. IsRow marks) (searched_symbol t) (λ s is. searched_row marks))
    (λ x is. is) (row_cons t marks)
