-- For readers of several events: if one call has refused, so have all of them together.
use Rattle.std.proofs.Common.{◌≡◌, ℕ, suc, ◌<◌, ◌≤◌, List, ◌++◌, subst, ◌∙◌, arith}
use Rattle.laz_range.specs.Cut.{Cut, AreCuts}
use Rattle.laz_range.specs.Reading.{follow_all}
use Rattle.laz_range.specs.Choice.{state_after, all_cuts, AreAsked}
use Rattle.laz_range.specs.Decoding.{Decoding, reading_of, NoneBegins, Refuses, Takes, TakesNone}
use Rattle.laz_range.proofs.Chain.{Nothing-first, Nothing-second, Nothing-through}
use Rattle.laz_range.proofs.Decodings.{SomeIff-at, follow_all-read}
use Rattle.laz_range.proofs.Loops.{Nothing-push, Nothing-more}

-- a decoder that failed
pub Refuses-none : {X : Type 0} (P : X → Type 0) (cuts : X → List Cut) (a b : Decoding) → TakesNone P cuts a b → Refuses P cuts a b
Refuses-none P cuts a b h = record { nothing = h.nothing; bytes = h.bytes }

-- ---- one choice after another: the first is refused, or the second
pub Refuses-first : {X Y : Type 0} (P : X → Type 0) (Q : X → Y → Type 0) (cuts : X → List Cut) (more : X → Y → List Cut) (a b : Decoding)
    → Refuses P cuts a b → Refuses {X = X × Y} (λ p. P p.0 × Q p.0 p.1) (λ p. cuts p.0 ++ more p.0 p.1) a b
Refuses-first P Q cuts more a b f = record { nothing = Nothing-first P Q cuts more (reading_of a) f.nothing; bytes = f.bytes }

pub Refuses-second : {X Y : Type 0} (P : X → Type 0) (Q : X → Y → Type 0) (cuts : X → List Cut) (more : X → Y → List Cut) (a b c : Decoding) (x : X)
    → Takes P cuts a b x → Refuses (Q x) (more x) b c → Refuses {X = X × Y} (λ p. P p.0 × Q p.0 p.1) (λ p. cuts p.0 ++ more p.0 p.1) a c
Refuses-second P Q cuts more a b c x f g =
    record { nothing = Nothing-second P Q cuts more (reading_of a) (reading_of b) x f.choice g.nothing; bytes = g.bytes ∙ f.bytes }

-- the same choice through a map onto the choices asked for
pub Refuses-through : {X Z : Type 0} (f : X → Z) (P : X → Type 0) (Q : Z → Type 0) (cuts : X → List Cut) (others : Z → List Cut) (a b : Decoding)
    → ((z : Z) → Q z → (y : X) × P y × (f y ≡ z)) → ((y : X) → P y → others (f y) ≡ cuts y) → Refuses P cuts a b → Refuses Q others a b
Refuses-through f P Q cuts others a b from same h =
    record { nothing = Nothing-through f P Q cuts others (reading_of a) from same h.nothing; bytes = h.bytes }

-- ---- a loop of choices: one of them is refused
pub Refuses-push : {S X : Type 0} (next : S → X → S) (P : S → X → Type 0) (cuts : S → X → List Cut) (st : S) (n : ℕ) (a b c : Decoding) (xs : List X)
    → Takes (AreAsked next P st n) (all_cuts next cuts st) a b xs → Refuses (P (state_after next st xs)) (cuts (state_after next st xs)) b c
    → Refuses (AreAsked next P st (suc n)) (all_cuts next cuts st) a c
Refuses-push next P cuts st n a b c xs f g =
    record { nothing = Nothing-push next P cuts st n (reading_of a) (reading_of b) xs f.choice g.nothing; bytes = g.bytes ∙ f.bytes }

-- if no list of i choices begins the bytes, no longer list does
pub Refuses-more : {S X : Type 0} (next : S → X → S) (P : S → X → Type 0) (cuts : S → X → List Cut) (st : S) (i n : ℕ) (a b : Decoding) → i ≤ n
    → Refuses (AreAsked next P st i) (all_cuts next cuts st) a b → Refuses (AreAsked next P st n) (all_cuts next cuts st) a b
Refuses-more next P cuts st i n a b few h = record { nothing = Nothing-more next P cuts st i n (reading_of a) few h.nothing; bytes = h.bytes }

-- the state is at hand: if no choice comes after i of them, no longer list begins the bytes
pub Refuses-step : {S X : Type 0} (next : S → X → S) (P : S → X → Type 0) (cuts : S → X → List Cut) (st now : S) (i n : ℕ) (a b c : Decoding) (xs : List X) → now ≡ state_after next st xs → i < n
    → Takes (AreAsked next P st i) (all_cuts next cuts st) a b xs → Refuses (P now) (cuts now) b c → Refuses (AreAsked next P st n) (all_cuts next cuts st) a c
Refuses-step {S} next P cuts st now i n a b c xs at within f g =
    let here = subst (λ (s : S). Refuses (P s) (cuts s) b c) at g in
    Refuses-more next P cuts st (suc i) n a c (omega (arith, within)) (Refuses-push next P cuts st i a b c xs f here)

-- ---- in the words of what begins the bytes
pub Refuses-NoneBegins : {X : Type 0} (P : X → Type 0) (cuts : X → List Cut) (a b : Decoding) → ((y : X) → P y → AreCuts (cuts y)) → Refuses P cuts a b → NoneBegins P cuts a
Refuses-NoneBegins P cuts a b all h events read y asked begins =
    h.nothing y _ asked (SomeIff-at (follow_all (reading_of a) (cuts y)) _ _ (follow_all-read events (cuts y) a read (all y asked)) begins)
