-- For readers of several events: what each call has read, one after another, is what all of them have read.
use Rattle.std.proofs.Common.{◌≡◌, ℕ, suc, ◌+◌, ◌<◌, ◌≤◌, List, [], ◌∷◌, ◌++◌, length, false, refl, sym, ap, subst, ◌∙◌, arith, add-one}
use Rattle.laz_range.specs.Cut.{Cut}
use Rattle.laz_range.specs.Coding.{Coding, Codes}
use Rattle.laz_range.specs.Reading.{follow_all}
use Rattle.laz_range.specs.Choice.{state_after, all_cuts, AreAsked}
use Rattle.laz_range.specs.Decoding.{Decoding, reading_of, Takes, TakesNone}
use Rattle.laz_range.proofs.Chain.{Only-then, Only-through, Nothing-first, Nothing-second, Nothing-through}
use Rattle.laz_range.proofs.Loops.{Only-push, Nothing-push, Nothing-more}

-- ---- one choice after another
pub Takes-then : {X Y : Type 0} (P : X → Type 0) (Q : X → Y → Type 0) (cuts : X → List Cut) (more : X → Y → List Cut) (a b c : Decoding) (x : X) (y : Y)
    → Takes P cuts a b x → Takes (Q x) (more x) b c y → Takes {X = X × Y} (λ p. P p.0 × Q p.0 p.1) (λ p. cuts p.0 ++ more p.0 p.1) a c (x, y)
Takes-then P Q cuts more a b c x y f g =
    record {
      choice = Only-then P Q cuts more (reading_of a) (reading_of b) (reading_of c) x y f.choice g.choice;
      bytes = g.bytes ∙ f.bytes;
      within = g.within;
      good = g.good;
    }

pub TakesNone-first : {X Y : Type 0} (P : X → Type 0) (Q : X → Y → Type 0) (cuts : X → List Cut) (more : X → Y → List Cut) (a b : Decoding)
    → TakesNone P cuts a b → TakesNone {X = X × Y} (λ p. P p.0 × Q p.0 p.1) (λ p. cuts p.0 ++ more p.0 p.1) a b
TakesNone-first P Q cuts more a b f =
    record { nothing = Nothing-first P Q cuts more (reading_of a) f.nothing; bytes = f.bytes; failed = f.failed }

pub TakesNone-second : {X Y : Type 0} (P : X → Type 0) (Q : X → Y → Type 0) (cuts : X → List Cut) (more : X → Y → List Cut) (a b c : Decoding) (x : X)
    → Takes P cuts a b x → TakesNone (Q x) (more x) b c → TakesNone {X = X × Y} (λ p. P p.0 × Q p.0 p.1) (λ p. cuts p.0 ++ more p.0 p.1) a c
TakesNone-second P Q cuts more a b c x f g =
    record {
      nothing = Nothing-second P Q cuts more (reading_of a) (reading_of b) x f.choice g.nothing;
      bytes = g.bytes ∙ f.bytes;
      failed = g.failed;
    }

-- a choice that has no events
pub Takes-empty : {X : Type 0} (P : X → Type 0) (cuts : X → List Cut) (d : Decoding) (x : X) → P x → cuts x ≡ [] → ((y : X) → P y → y ≡ x) → d.taken ≤ length d.bytes → d.failed ≡ false → Takes P cuts d d x
Takes-empty P cuts d x asked none only within good =
    record {
      choice = record {
        asked = asked;
        reads = ap (follow_all (reading_of d)) none;
        only = λ y s p e. only y p;
      };
      bytes = refl;
      within = within;
      good = good;
    }

-- the same choice through a map onto the choices asked for
pub Takes-through : {X Z : Type 0} (f : X → Z) (P : X → Type 0) (Q : Z → Type 0) (cuts : X → List Cut) (others : Z → List Cut) (a b : Decoding) (x : X)
    → ((y : X) → P y → Q (f y)) → ((z : Z) → Q z → (y : X) × P y × (f y ≡ z)) → ((y : X) → P y → others (f y) ≡ cuts y) → Takes P cuts a b x → Takes Q others a b (f x)
Takes-through f P Q cuts others a b x to from same h =
    record {
      choice = Only-through f P Q cuts others (reading_of a) x (reading_of b) to from same h.choice;
      bytes = h.bytes;
      within = h.within;
      good = h.good;
    }

pub TakesNone-through : {X Z : Type 0} (f : X → Z) (P : X → Type 0) (Q : Z → Type 0) (cuts : X → List Cut) (others : Z → List Cut) (a b : Decoding)
    → ((z : Z) → Q z → (y : X) × P y × (f y ≡ z)) → ((y : X) → P y → others (f y) ≡ cuts y) → TakesNone P cuts a b → TakesNone Q others a b
TakesNone-through f P Q cuts others a b from same h =
    record { nothing = Nothing-through f P Q cuts others (reading_of a) from same h.nothing; bytes = h.bytes; failed = h.failed }

-- a choice among fewer
pub Takes-fewer : {X : Type 0} (P Q : X → Type 0) (cuts : X → List Cut) (a b : Decoding) (x : X) → Q x → ((y : X) → Q y → P y) → Takes P cuts a b x → Takes Q cuts a b x
Takes-fewer P Q cuts a b x asked from h =
    record {
      choice = record { asked = asked; reads = h.choice.reads; only = λ y s q e. h.choice.only y s (from y q) e };
      bytes = h.bytes;
      within = h.within;
      good = h.good;
    }

-- ---- a loop of choices, each under the state that the ones before left
only_empty : {X : Type 0} (xs : List X) → length xs ≡ 0 → xs ≡ []
only_empty [] e = refl
only_empty (x ∷ xs) e = absurd (omega arith)

pub Takes-start : {S X : Type 0} (next : S → X → S) (P : S → X → Type 0) (cuts : S → X → List Cut) (st : S) (d : Decoding) → d.taken ≤ length d.bytes → d.failed ≡ false
    → Takes (AreAsked next P st 0) (all_cuts next cuts st) d d []
Takes-start next P cuts st d within good =
    Takes-empty (AreAsked next P st 0) (all_cuts next cuts st) d [] (refl, tt) refl (λ ys asked. only_empty ys asked.0) within good

pub Takes-push : {S X : Type 0} (next : S → X → S) (P : S → X → Type 0) (cuts : S → X → List Cut) (st : S) (n : ℕ) (a b c : Decoding) (xs : List X) (x : X)
    → Takes (AreAsked next P st n) (all_cuts next cuts st) a b xs → Takes (P (state_after next st xs)) (cuts (state_after next st xs)) b c x
    → Takes (AreAsked next P st (suc n)) (all_cuts next cuts st) a c (xs ++ x ∷ [])
Takes-push next P cuts st n a b c xs x f g =
    record {
      choice = Only-push next P cuts st n (reading_of a) (reading_of b) (reading_of c) xs x f.choice g.choice;
      bytes = g.bytes ∙ f.bytes;
      within = g.within;
      good = g.good;
    }

pub TakesNone-push : {S X : Type 0} (next : S → X → S) (P : S → X → Type 0) (cuts : S → X → List Cut) (st : S) (n : ℕ) (a b c : Decoding) (xs : List X)
    → Takes (AreAsked next P st n) (all_cuts next cuts st) a b xs → TakesNone (P (state_after next st xs)) (cuts (state_after next st xs)) b c
    → TakesNone (AreAsked next P st (suc n)) (all_cuts next cuts st) a c
TakesNone-push next P cuts st n a b c xs f g =
    record {
      nothing = Nothing-push next P cuts st n (reading_of a) (reading_of b) xs f.choice g.nothing;
      bytes = g.bytes ∙ f.bytes;
      failed = g.failed;
    }

-- the same with the state at hand
pub Takes-step : {S X : Type 0} (next : S → X → S) (P : S → X → Type 0) (cuts : S → X → List Cut) (st now : S) (n : ℕ) (a b c : Decoding) (xs : List X) (x : X) → now ≡ state_after next st xs
    → Takes (AreAsked next P st n) (all_cuts next cuts st) a b xs → Takes (P now) (cuts now) b c x → Takes (AreAsked next P st (n + 1)) (all_cuts next cuts st) a c (xs ++ x ∷ [])
Takes-step {S} {X} next P cuts st now n a b c xs x at f g =
    let here = subst (λ (s : S). Takes (P s) (cuts s) b c x) at g in
    subst (λ (k : ℕ). Takes (AreAsked next P st k) (all_cuts next cuts st) a c (xs ++ x ∷ [])) (sym (add-one n)) (Takes-push next P cuts st n a b c xs x f here)

-- if no list of i choices begins the bytes, no longer list does
pub TakesNone-more : {S X : Type 0} (next : S → X → S) (P : S → X → Type 0) (cuts : S → X → List Cut) (st : S) (i n : ℕ) (a b : Decoding) → i ≤ n
    → TakesNone (AreAsked next P st i) (all_cuts next cuts st) a b → TakesNone (AreAsked next P st n) (all_cuts next cuts st) a b
TakesNone-more next P cuts st i n a b few h =
    record { nothing = Nothing-more next P cuts st i n (reading_of a) few h.nothing; bytes = h.bytes; failed = h.failed }

pub TakesNone-step : {S X : Type 0} (next : S → X → S) (P : S → X → Type 0) (cuts : S → X → List Cut) (st now : S) (i n : ℕ) (a b c : Decoding) (xs : List X) → now ≡ state_after next st xs → i < n
    → Takes (AreAsked next P st i) (all_cuts next cuts st) a b xs → TakesNone (P now) (cuts now) b c → TakesNone (AreAsked next P st n) (all_cuts next cuts st) a c
TakesNone-step {S} next P cuts st now i n a b c xs at within f g =
    let here = subst (λ (s : S). TakesNone (P s) (cuts s) b c) at g in
    TakesNone-more next P cuts st (suc i) n a c (omega (arith, within)) (TakesNone-push next P cuts st i a b c xs f here)

-- ---- in the words of what was read

-- ---- writing
pub Codes-none : (a : Coding) → Codes a a []
Codes-none a = record { span = refl; before = refl; left = refl; used = omega arith; more = refl }
