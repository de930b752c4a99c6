use Rattle.std.proofs.Common.{◌≡◌, ℕ, ◌+◌, ◌-◌, ◌*◌, ◌/◌, ◌%◌, ◌^◌, ◌<◌, ◌≤◌, eqb, min, Bool, true, false, List, [], ◌∷◌, ◌++◌, length, refl, sym, ap, ◌∙◌, arith, ⊎_elim, lit<, lit≤, Result, Ok, Err}
use Rattle.std.specs.Bool.{⊤}
use Rattle.std.proofs.lemmas.Bool.{cases_eq, cases_lt, eq-eqb, ne_eqb}
use Rattle.std.proofs.lemmas.Nat.{mul-le, pow-add, pow_pos, mod_below, shr_below, shl_whole, shr_split, shr_high, mod_low}
use Rattle.std.proofs.Math.Nat.{pow-le-pow_right}
use mir.Val.{bool_byte}
use Rattle.laz_range.specs.Cut.{Cut, Bit, raw_cuts}
use Rattle.laz_range.specs.Reading.{follow_all}
use Rattle.laz_range.specs.Decoding.{Decoding, Takes, TakesNone, Reads, reading_of}
use Rattle.laz_range.proofs.Public.{same_pair, Takes-then, TakesNone-first, TakesNone-second, Takes-empty}
use Rattle.laz_integer.specs.Corrector.{choices}
use Rattle.laz_integer.specs.Integer.{digit_cuts, digit_next, IntState, symbol_cut, high_at, symbol_next, flag_next, events_cuts, events_next}
use Rattle.laz_integer.proofs.Cases.{events-zero, events-most, events-narrow, events-wide}
use Rattle.laz_integer.proofs.Named.{events_cuts-raw, events_next-raw}

-- ---- the same choice, said otherwise
pub Takes-onto : {X Z : Type 0} (f : X → Z) (back : Z → X) (P : X → Type 0) (Q : Z → Type 0) (cuts : X → List Cut) (others : Z → List Cut) (a b : Decoding) (x : X)
    → ((z : Z) → Q z → f (back z) ≡ z) → Q (f x) → ((z : Z) → Q z → P (back z)) → ((z : Z) → others z ≡ cuts (back z)) → back (f x) ≡ x → Takes P cuts a b x → Takes Q others a b (f x)
Takes-onto f back P Q cuts others a b x round asked from same here h =
    record {
      choice = record {
        asked = asked;
        reads = ap (follow_all (reading_of a)) (same (f x)) ∙ (ap (λ y. follow_all (reading_of a) (cuts y)) here ∙ h.choice.reads);
        only = λ z s q e. sym (round z q) ∙ ap f (h.choice.only (back z) s (from z q) (ap (follow_all (reading_of a)) (sym (same z)) ∙ e));
      };
      bytes = h.bytes;
      within = h.within;
      good = h.good;
    }

pub TakesNone-onto : {X Z : Type 0} (back : Z → X) (P : X → Type 0) (Q : Z → Type 0) (cuts : X → List Cut) (others : Z → List Cut) (a b : Decoding)
    → ((z : Z) → Q z → P (back z)) → ((z : Z) → others z ≡ cuts (back z)) → TakesNone P cuts a b → TakesNone Q others a b
TakesNone-onto back P Q cuts others a b from same h =
    record {
      nothing = λ z s q e. h.nothing (back z) s (from z q) (ap (follow_all (reading_of a)) (sym (same z)) ∙ e);
      bytes = h.bytes;
      failed = h.failed;
    }

pub Reads-equal : {X E : Type 0} (result : Result X E) (P Q : X → Type 0) (cuts others : X → List Cut) (a b : Decoding)
    → ((x : X) → P x → Q x) → ((x : X) → Q x → P x) → ((x : X) → others x ≡ cuts x) → Reads result P cuts a b → Reads result Q others a b
Reads-equal (Ok x) P Q cuts others a b to from same h = Takes-onto (λ y. y) (λ y. y) P Q cuts others a b x (λ z q. refl) (to x h.choice.asked) from same refl h
Reads-equal (Err e) P Q cuts others a b to from same h = TakesNone-onto (λ y. y) P Q cuts others a b from same h

-- ---- a wide corrector: its high 8 digits, and the rest
abbrev pub wide_cuts : IntState → ℕ → ℕ → List Cut
wide_cuts st k v = symbol_cut (high_at st k) (v / 2 ^ (k - 8)) ∷ raw_cuts (k - 8) (v % 2 ^ (k - 8))

pub wide_parts : (k y : ℕ) → 8 < k → y < 2 ^ k → (y / 2 ^ (k - 8) < 2 ^ min k 8) × (y % 2 ^ (k - 8) < 2 ^ (k - 8))
wide_parts k y wide small =
    let eight : min k 8 ≡ 8 = omega arith in
    let all : k ≡ 8 + (k - 8) = omega arith in
    let power : 2 ^ k ≡ 2 ^ (8 + (k - 8)) = ap (λ n. 2 ^ n) all in
    (rw eight (shr_below y 8 (k - 8) (omega arith)), mod_below y (2 ^ (k - 8)) (pow_pos (k - 8)))

pub wide_below : (k high low : ℕ) → 8 < k → high < 2 ^ min k 8 → low < 2 ^ (k - 8) → high * 2 ^ (k - 8) + low < 2 ^ k
wide_below k high low wide h l =
    let least : min k 8 ≡ 8 = omega arith in
    let all : k ≡ 8 + (k - 8) = omega arith in
    let eight : 2 ^ min k 8 ≡ 256 = ap (λ n. 2 ^ n) least in
    let power : 2 ^ k ≡ 256 * 2 ^ (k - 8) = ap (λ n. 2 ^ n) all ∙ pow-add 2 8 (k - 8) in
    omega (arith, mul-le (high + 1) (2 ^ (k - 8)) 256 (2 ^ (k - 8)) (omega arith) (omega arith))

pub wide_whole : (k high : ℕ) → 8 < k → k < 32 → high < 2 ^ min k 8 → high * 2 ^ (k - 8) % 4294967296 ≡ high * 2 ^ (k - 8)
wide_whole k high wide small h =
    let least : min k 8 ≡ 8 = omega arith in
    let eight : 2 ^ min k 8 ≡ 2 ^ 8 = ap (λ n. 2 ^ n) least in
    shl_whole high 8 (k - 8) 32 (omega arith) (omega arith)

pub wide_fits : (k v : ℕ) → k < 32 → v < 2 ^ k → v < 4294967296
wide_fits k v small h =
    let at_most : k ≤ 31 = omega arith in
    let power : 2 ^ k ≤ 2 ^ 31 = pow-le-pow_right (lit≤ tt) at_most in
    omega arith

pub high_is : (k high low : ℕ) → low < 2 ^ (k - 8) → (high * 2 ^ (k - 8) + low) / 2 ^ (k - 8) ≡ high
high_is k high low small = shr_high high (k - 8) low small

abbrev pub AskedWide : ℕ → ℕ × ℕ → Type 0
AskedWide k p = (p.0 < 2 ^ min k 8) × (p.1 < 2 ^ (k - 8))

abbrev pub pair_cuts : IntState → ℕ → ℕ × ℕ → List Cut
pair_cuts st k p = (symbol_cut (high_at st k) p.0 ∷ []) ++ raw_cuts (k - 8) p.1

pub wide-takes : (st : IntState) (k high low : ℕ) (a b c : Decoding) → 8 < k
    → Takes (λ s. s < 2 ^ min k 8) (λ s. symbol_cut (high_at st k) s ∷ []) a b high → Takes (λ v. v < 2 ^ (k - 8)) (raw_cuts (k - 8)) b c low
    → Takes (λ v. v < 2 ^ k) (wide_cuts st k) a c (high * 2 ^ (k - 8) + low)
wide-takes st k high low a b c wide f g =
    let both = Takes-then (λ s. s < 2 ^ min k 8) (λ _ v. v < 2 ^ (k - 8)) (λ s. symbol_cut (high_at st k) s ∷ []) (λ _ v. raw_cuts (k - 8) v) a b c high low f g in
    Takes-onto {X = ℕ × ℕ} (λ p. p.0 * 2 ^ (k - 8) + p.1) (λ v. (v / 2 ^ (k - 8), v % 2 ^ (k - 8))) (AskedWide k) (λ v. v < 2 ^ k) (pair_cuts st k) (wide_cuts st k) a c (high, low)
    (λ z q. shr_split z (k - 8))
    (wide_below k high low wide f.choice.asked g.choice.asked)
    (λ z q. wide_parts k z wide q)
    (λ z. refl)
    (same_pair _ _ _ _ (shr_high high (k - 8) low g.choice.asked) (mod_low high (k - 8) low g.choice.asked))
    both

pub wide-none_high : (st : IntState) (k : ℕ) (a b : Decoding) → 8 < k → TakesNone (λ s. s < 2 ^ min k 8) (λ s. symbol_cut (high_at st k) s ∷ []) a b → TakesNone (λ v. v < 2 ^ k) (wide_cuts st k) a b
wide-none_high st k a b wide f =
    TakesNone-onto {X = ℕ × ℕ} (λ v. (v / 2 ^ (k - 8), v % 2 ^ (k - 8))) (AskedWide k) (λ v. v < 2 ^ k) (pair_cuts st k) (wide_cuts st k) a b (λ z q. wide_parts k z wide q) (λ z. refl)
    (TakesNone-first (λ s. s < 2 ^ min k 8) (λ _ v. v < 2 ^ (k - 8)) (λ s. symbol_cut (high_at st k) s ∷ []) (λ _ v. raw_cuts (k - 8) v) a b f)

pub wide-none_low : (st : IntState) (k high : ℕ) (a b c : Decoding) → 8 < k
    → Takes (λ s. s < 2 ^ min k 8) (λ s. symbol_cut (high_at st k) s ∷ []) a b high → TakesNone (λ v. v < 2 ^ (k - 8)) (raw_cuts (k - 8)) b c → TakesNone (λ v. v < 2 ^ k) (wide_cuts st k) a c
wide-none_low st k high a b c wide f g =
    TakesNone-onto {X = ℕ × ℕ} (λ v. (v / 2 ^ (k - 8), v % 2 ^ (k - 8))) (AskedWide k) (λ v. v < 2 ^ k) (pair_cuts st k) (wide_cuts st k) a c (λ z q. wide_parts k z wide q) (λ z. refl)
    (TakesNone-second (λ s. s < 2 ^ min k 8) (λ _ v. v < 2 ^ (k - 8)) (λ s. symbol_cut (high_at st k) s ∷ []) (λ _ v. raw_cuts (k - 8) v) a b c high f g)

-- ---- a corrector of 0 or 1 is a bit
pub bit_back : (bit : Bool) → eqb (bool_byte bit) 1 ≡ bit
bit_back false = refl
bit_back true = refl

bit_round : (y : ℕ) → y < 2 → bool_byte (eqb y 1) ≡ y
bit_round y small =
    ⊎_elim
    (λ (one : y ≡ 1). ap bool_byte (eq-eqb y 1 one) ∙ sym one)
    (λ (ne : y ≡ 1 → ⊥). ap bool_byte (ne_eqb y 1 ne) ∙ omega (arith, ne, small))
    (cases_eq y 1)

bit_small : (bit : Bool) → bool_byte bit < 2
bit_small false = lit< tt
bit_small true = lit< tt

pub cuts-zero : (st : IntState) (v : ℕ) → digit_cuts st 0 v ≡ Bit st.zero_or_one.p0 (eqb v 1) ∷ []
cuts-zero st v = ap (events_cuts st) (events-zero [] v)

pub zero-takes : (st : IntState) (bit : Bool) (a b : Decoding) → Takes {X = Bool} (λ _. ⊤) (λ bit. Bit st.zero_or_one.p0 bit ∷ []) a b bit → Takes (λ v. v < choices 0) (digit_cuts st 0) a b (bool_byte bit)
unfolding choices
zero-takes st bit a b h =
    Takes-onto bool_byte (λ v. eqb v 1) (λ _. ⊤) (λ v. v < choices 0) (λ bit. Bit st.zero_or_one.p0 bit ∷ []) (digit_cuts st 0) a b bit
    (λ z q. bit_round z q) (bit_small bit) (λ z q. tt) (λ z. cuts-zero st z) (bit_back bit) h

pub zero-none : (st : IntState) (a b : Decoding) → TakesNone {X = Bool} (λ _. ⊤) (λ bit. Bit st.zero_or_one.p0 bit ∷ []) a b → TakesNone (λ v. v < choices 0) (digit_cuts st 0) a b
zero-none st a b h =
    TakesNone-onto {X = Bool} (λ v. eqb v 1) (λ _. ⊤) (λ v. v < choices 0) (λ bit. Bit st.zero_or_one.p0 bit ∷ []) (digit_cuts st 0) a b (λ z q. tt) (λ z. cuts-zero st z) h

-- ---- the parts of a corrector after its width, and the models after them
pub cuts-wide : (st : IntState) (k v : ℕ) → 8 < k → k < 32 → digit_cuts st k v ≡ wide_cuts st k v
cuts-wide st k v wide small =
    ap (events_cuts st) (events-wide [] k v wide small)
    ∙ ap (λ l. symbol_cut (high_at st k) (v / 2 ^ (k - 8)) ∷ l) (events_cuts-raw (symbol_next st (st.contexts + (k - 1)) (v / 2 ^ (k - 8))) (k - 8) (v % 2 ^ (k - 8)))

pub cuts-narrow : (st : IntState) (k v : ℕ) → 0 < k → k ≤ 8 → digit_cuts st k v ≡ symbol_cut (high_at st k) v ∷ []
cuts-narrow st k v some narrow = ap (events_cuts st) (events-narrow [] k v some narrow)

pub cuts-most : (st : IntState) (v : ℕ) → digit_cuts st 32 v ≡ []
cuts-most st v = ap (events_cuts st) (events-most [] v)

pub next-wide : (st : IntState) (k v : ℕ) → 8 < k → k < 32 → digit_next st k v ≡ symbol_next st (st.contexts + (k - 1)) (v / 2 ^ (k - 8))
next-wide st k v wide small =
    ap (events_next st) (events-wide [] k v wide small)
    ∙ events_next-raw (symbol_next st (st.contexts + (k - 1)) (v / 2 ^ (k - 8))) (k - 8) (v % 2 ^ (k - 8))

pub next-narrow : (st : IntState) (k v : ℕ) → 0 < k → k ≤ 8 → digit_next st k v ≡ symbol_next st (st.contexts + (k - 1)) v
next-narrow st k v some narrow = ap (events_next st) (events-narrow [] k v some narrow)

pub next-zero : (st : IntState) (v : ℕ) → digit_next st 0 v ≡ flag_next st (eqb v 1)
next-zero st v = ap (events_next st) (events-zero [] v)

pub next-most : (st : IntState) (v : ℕ) → digit_next st 32 v ≡ st
next-most st v = ap (events_next st) (events-most [] v)

-- ---- the one corrector of width 32
one_choice : (y : ℕ) → y < 1 → y ≡ 0
one_choice y h = omega arith

pub most-takes : (st : IntState) (d : Decoding) → d.taken ≤ length d.bytes → d.failed ≡ false → Takes (λ v. v < choices 32) (digit_cuts st 32) d d 0
unfolding choices
most-takes st d within good = Takes-empty (λ v. v < choices 32) (digit_cuts st 32) d 0 (lit< tt) (cuts-most st 0) (λ y q. one_choice y q) within good

-- ---- the digits of a corrector, narrow or wide
pub digits-none_high : (st : IntState) (k : ℕ) (a b : Decoding) → 0 < k → k < 32 → TakesNone (λ s. s < 2 ^ min k 8) (λ s. symbol_cut (high_at st k) s ∷ []) a b → TakesNone (λ v. v < 2 ^ k) (digit_cuts st k) a b
digits-none_high st k a b some small f =
    ⊎_elim
    (λ (wide : 8 < k). TakesNone-onto (λ v. v) (λ v. v < 2 ^ k) (λ v. v < 2 ^ k) (wide_cuts st k) (digit_cuts st k) a b (λ z q. q) (λ z. cuts-wide st k z wide small) (wide-none_high st k a b wide f))
    (λ (narrow : k ≤ 8).
    let same : 2 ^ min k 8 ≡ 2 ^ k = ap (λ n. 2 ^ n) (let least : min k 8 ≡ k = omega (arith, narrow) in least) in
    TakesNone-onto (λ v. v) (λ s. s < 2 ^ min k 8) (λ v. v < 2 ^ k) (λ s. symbol_cut (high_at st k) s ∷ []) (digit_cuts st k) a b (λ z q. omega (arith, q, same)) (λ z. cuts-narrow st k z some narrow) f)
    (cases_lt 8 k)

pub digits-narrow : (st : IntState) (k v : ℕ) (a b : Decoding) → 0 < k → k ≤ 8 → Takes (λ s. s < 2 ^ min k 8) (λ s. symbol_cut (high_at st k) s ∷ []) a b v → Takes (λ v. v < 2 ^ k) (digit_cuts st k) a b v
digits-narrow st k v a b some narrow f =
    let same : 2 ^ min k 8 ≡ 2 ^ k = ap (λ n. 2 ^ n) (let least : min k 8 ≡ k = omega (arith, narrow) in least) in
    Takes-onto (λ y. y) (λ y. y) (λ s. s < 2 ^ min k 8) (λ v. v < 2 ^ k) (λ s. symbol_cut (high_at st k) s ∷ []) (digit_cuts st k) a b v (λ z q. refl) (omega (arith, f.choice.asked, same)) (λ z q. omega (arith, q, same)) (λ z. cuts-narrow st k z some narrow) refl f

pub digits-none_low : (st : IntState) (k high : ℕ) (a b c : Decoding) → 8 < k → k < 32 → Takes (λ s. s < 2 ^ min k 8) (λ s. symbol_cut (high_at st k) s ∷ []) a b high → TakesNone (λ v. v < 2 ^ (k - 8)) (raw_cuts (k - 8)) b c → TakesNone (λ v. v < 2 ^ k) (digit_cuts st k) a c
digits-none_low st k high a b c wide small f g =
    TakesNone-onto (λ v. v) (λ v. v < 2 ^ k) (λ v. v < 2 ^ k) (wide_cuts st k) (digit_cuts st k) a c (λ z q. q) (λ z. cuts-wide st k z wide small) (wide-none_low st k high a b c wide f g)

pub digits-wide : (st : IntState) (k high low : ℕ) (a b c : Decoding) → 8 < k → k < 32 → Takes (λ s. s < 2 ^ min k 8) (λ s. symbol_cut (high_at st k) s ∷ []) a b high → Takes (λ v. v < 2 ^ (k - 8)) (raw_cuts (k - 8)) b c low
    → Takes (λ v. v < 2 ^ k) (digit_cuts st k) a c (high * 2 ^ (k - 8) + low)
digits-wide st k high low a b c wide small f g =
    let h = wide-takes st k high low a b c wide f g in
    Takes-onto (λ y. y) (λ y. y) (λ v. v < 2 ^ k) (λ v. v < 2 ^ k) (wide_cuts st k) (digit_cuts st k) a c (high * 2 ^ (k - 8) + low) (λ z q. refl) h.choice.asked (λ z q. q) (λ z. cuts-wide st k z wide small) refl h
