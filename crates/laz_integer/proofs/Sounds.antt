use Rattle.std.proofs.Common.{◌≡◌, ℕ, ◌+◌, ◌-◌, ◌^◌, ◌<◌, ◌≤◌, min, List, length, map, sym, ◌∙◌, arith, subst, Bool, Result, Ok, Err, IfOk, OnErr}
use Rattle.laz_models.specs.Counting.{Counting, new_model}
use Rattle.laz_models.specs.BitCounting.{BitCounting, IsBitCounting, after_bit, new_bit_model}
use Rattle.laz_models.proofs.Public.{sizes-set, AreSound-set, AreSound-new_model, IsBitCounting-after_bit, IsBitCounting-new_bit_model, sizes-new_model}
use Rattle.laz_range.specs.Cut.{Cut}
use Rattle.laz_range.specs.Decoding.{Decoding, Reads}
use Rattle.laz_models.specs.Sound.{AreSound}
use Rattle.laz_integer.specs.Integer.{IntState, IsIntState, int_sizes, symbol_next, flag_next}
use Rattle.laz_integer.proofs.States.{models-count, width-size, high-size, high-in, sizes-range}

-- ---- the models of an integer
pub IsIntState-width : (st : IntState) (ctx k : ℕ) → IsIntState st → ctx < st.contexts → k ≤ st.bits → IsIntState (symbol_next st ctx k)
IsIntState-width st ctx k h within small =
    let here : ctx < length st.bank = omega (arith, models-count st h, within) in
    record {
      some = h.some;
      few = h.few;
      contexts = h.contexts;
      sizes = sizes-set st.bank ctx k here ∙ h.sizes;
      sound = AreSound-set st.bank ctx k h.sound here (omega (arith, small, width-size st ctx h within));
      bit = h.bit;
    }

pub IsIntState-high : (st : IntState) (k s : ℕ) → IsIntState st → 0 < k → k ≤ st.bits → s < 2 ^ min k 8 → IsIntState (symbol_next st (st.contexts + (k - 1)) s)
IsIntState-high st k s h some small digit =
    let here = high-in st k h some small in
    record {
      some = h.some;
      few = h.few;
      contexts = h.contexts;
      sizes = sizes-set st.bank (st.contexts + (k - 1)) s here ∙ h.sizes;
      sound = AreSound-set st.bank (st.contexts + (k - 1)) s h.sound here (omega (arith, digit, high-size st k h some small));
      bit = h.bit;
    }

pub asked_of : {X E : Type 0} (result : Result X E) (P : X → Type 0) (cuts : X → List Cut) (a b : Decoding) → Reads result P cuts a b → IfOk result P
asked_of (Ok x) P cuts a b h = h.choice.asked
asked_of (Err e) P cuts a b h = tt

abbrev pub with_bit : IntState → BitCounting → IntState
with_bit st bit = record { bits = st.bits; contexts = st.contexts; zero_or_one = bit; bank = st.bank }

abbrev pub with_bank : IntState → List Counting → IntState
with_bank st bank = record { bits = st.bits; contexts = st.contexts; zero_or_one = st.zero_or_one; bank = bank }

pub bank-after : {E : Type 0} (result : Result ℕ E) (P : ℕ → Type 0) (next : ℕ → List Counting) (st : IntState) (new : List Counting) → IsIntState st → IfOk result P → ((x : ℕ) → P x → IsIntState (with_bank st (next x)))
    → IfOk result (λ x. new ≡ next x) → OnErr result (new ≡ st.bank) → IsIntState (with_bank st new)
bank-after (Ok x) P next st new h asked to is kept = subst (λ (b : List Counting). IsIntState (with_bank st b)) (sym is) (to x asked)
bank-after (Err e) P next st new h asked to is kept = subst (λ (b : List Counting). IsIntState (with_bank st b)) (sym kept) h

pub IsIntState-flag : (st : IntState) (bit : Bool) → IsIntState st → IsIntState (flag_next st bit)
IsIntState-flag st bit h =
    record {
      some = h.some;
      few = h.few;
      contexts = h.contexts;
      sizes = h.sizes;
      sound = h.sound;
      bit = IsBitCounting-after_bit st.zero_or_one bit h.bit;
    }

-- the bit was taken, or left
pub bit-after : {E : Type 0} (result : Result Bool E) (st : IntState) (new : BitCounting) → IsIntState st → IfOk result (λ bit. new ≡ after_bit st.zero_or_one bit) → OnErr result (new ≡ st.zero_or_one) → IsIntState (with_bit st new)
bit-after (Ok bit) st new h is kept = subst (λ (m : BitCounting). IsIntState (with_bit st m)) (sym is)
    (record {
      some = h.some;
      few = h.few;
      contexts = h.contexts;
      sizes = h.sizes;
      sound = h.sound;
      bit = IsBitCounting-after_bit st.zero_or_one bit h.bit;
    })
bit-after (Err e) st new h is kept = subst (λ (m : BitCounting). IsIntState (with_bit st m)) (sym kept) h

pub IsIntState-new_model : (st : IntState) → 1 ≤ st.bits → st.bits ≤ 32 → st.contexts ≤ 32 → st.zero_or_one ≡ new_bit_model → st.bank ≡ map new_model (int_sizes st.bits st.contexts) → IsIntState st
IsIntState-new_model st some few contexts bit bank =
    record {
      some = some;
      few = few;
      contexts = contexts;
      sizes = rw bank (sizes-new_model (int_sizes st.bits st.contexts));
      sound = subst (λ (b : List Counting). AreSound b) (sym bank) (AreSound-new_model (int_sizes st.bits st.contexts) (sizes-range st.bits st.contexts some few));
      bit = subst (λ (m : BitCounting). IsBitCounting m) (sym bit) IsBitCounting-new_bit_model;
    }
