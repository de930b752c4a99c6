use Rattle.std.proofs.Common.{◌≡◌, ◌⊎◌, ℕ, ◌+◌, ◌*◌, ◌/◌, ◌<◌, ◌≤◌, eqb, cond, Bool, true, false, List, [], ◌∷◌, ◌++◌, refl, sym, ap, subst, ◌∙◌, arith, ⊎_elim}
use mathlib.Core.Logic.{inl, inr}
use Rattle.std.specs.Bool.{MatchBool}
use Rattle.std.specs.Int.{w32, cast_signed, cast_unsigned}
use Rattle.std.proofs.lemmas.Bool.{cases_eq, cond-true, cond-false, eq-eqb}
use Rattle.std.proofs.lemmas.List.{append-nil}
use Rattle.laz_integer.specs.Corrector.{corrected}
use Rattle.laz_integer.specs.Events.{Event, raw_events}
use Rattle.laz_integer.specs.Integer.{IsCorrector, corrector_events}
use Rattle.laz_gpstime.specs.Choices.{IsRest, Rest, no_rest, rest_time, word_context}
use Rattle.laz_gpstime.specs.Meanings.{time_kind}
use Rattle.laz_gpstime.specs.Spelling.{SpellsNear, SpellsNew, SpellsSame, time_plus}
use Rattle.laz_gpstime.specs.Times.{context, new_symbol, predicted, same_symbol, time_symbol}
use Rattle.laz_gpstime.proofs.Meanings.{AreQuiet, quiet-append, quiet-corrector, quiet-none, quiet-raw}
use Rattle.laz_gpstime.proofs.Rests.{IsNear, asked-near, asked-new, is-near, near-asked, near-time, new-asked, new-new, new-same, new-time, same-time, to-true}
use Rattle.laz_gpstime.proofs.Written.{same-below}

-- The events of what belongs to a symbol.
abbrev pub word_events : ℕ → ℕ → Rest → List Event
word_events d s y = corrector_events time_kind 32 (word_context d s) y.0.0 y.0.1

abbrev pub low_events : ℕ → ℕ → Rest → List Event
low_events d s y = cond (eqb s (new_symbol d)) (raw_events 32 y.1) []

abbrev pub rest_events : ℕ → ℕ → Rest → List Event
rest_events d s y = cond (eqb s (same_symbol d)) [] (word_events d s y ++ low_events d s y)

abbrev pub Spells : ℕ → ℕ → List Event → ℕ → Type 0
Spells d from events time = SpellsSame d from events time ⊎ (SpellsNear d from events time ⊎ SpellsNew d from events time)

pub near-rest : (d s : ℕ) (y : Rest) → IsNear d s → rest_events d s y ≡ corrector_events time_kind 32 (context d s) y.0.0 y.0.1
near-rest d s y near =
    cond-false _ _ _ near.same ∙ (ap (λ l. word_events d s y ++ l) (cond-false _ _ _ near.new) ∙ (append-nil _ ∙ ap (λ n. corrector_events time_kind 32 n y.0.0 y.0.1) (cond-false _ _ _ near.new)))

pub new-rest : (d : ℕ) (y : Rest) → rest_events d (new_symbol d) y ≡ corrector_events time_kind 32 8 y.0.0 y.0.1 ++ raw_events 32 y.1
new-rest d y =
    cond-false _ _ _ (new-same d) ∙ (ap (λ l. word_events d (new_symbol d) y ++ l) (cond-true _ _ _ (new-new d)) ∙ ap (λ n. corrector_events time_kind 32 n y.0.0 y.0.1 ++ raw_events 32 y.1) (cond-true _ _ _ (new-new d)))

-- ---- what is read spells its time
spelled-near : (d from s : ℕ) (y : Rest) → s < new_symbol d → (s ≡ same_symbol d → ⊥) → IsRest d s y → SpellsNear d from (time_symbol d s ∷ rest_events d s y) (rest_time d from s y)
spelled-near d from s y below differs h =
    let near = is-near d s below differs in
    let asked = near-asked d s y near h in
    record {
      m = s;
      below = below;
      differs = differs;
      rest = corrector_events time_kind 32 (context d s) y.0.0 y.0.1;
      is = ap (λ l. time_symbol d s ∷ l) (near-rest d s y near);
      x = corrected 32 (cast_signed w32 (predicted d s)) y.0.0 y.0.1;
      k = y.0.0;
      value = record { v = y.0.1; width = asked.0.0; within = asked.0.1; is = refl; makes = refl };
      makes =
          cond-false _ _ _ near.same
          ∙ (cond-false _ _ _ near.new
          ∙ ap (λ n. time_plus from (cast_unsigned w32 (corrected 32 (cast_signed w32 n) y.0.0 y.0.1))) (cond-false _ _ _ near.new));
    }

spelled-new : (d from : ℕ) (y : Rest) → IsRest d (new_symbol d) y → SpellsNew d from (time_symbol d (new_symbol d) ∷ rest_events d (new_symbol d) y) (rest_time d from (new_symbol d) y)
spelled-new d from y h =
    let asked = new-asked d y h in
    record {
      rest = corrector_events time_kind 32 8 y.0.0 y.0.1;
      low = y.1;
      small = asked.1;
      is = ap (λ l. time_symbol d (new_symbol d) ∷ l) (new-rest d y);
      high = corrected 32 (cast_signed w32 (from / 4294967296)) y.0.0 y.0.1;
      k = y.0.0;
      value = record { v = y.0.1; width = asked.0.0; within = asked.0.1; is = refl; makes = refl };
      makes = sym (new-time d from (from / 4294967296) _ y.1 _ y.0 refl refl refl);
    }

pub spelled-rest : (d from s : ℕ) (y : Rest) → s ≤ new_symbol d → IsRest d s y → Spells d from (time_symbol d s ∷ rest_events d s y) (rest_time d from s y)
spelled-rest d from s y range h =
    ⊎_elim
    (λ (same : s ≡ same_symbol d).
    inl (record {
      is = ap (λ l. time_symbol d s ∷ l) (cond-true _ _ _ (eq-eqb s (same_symbol d) same)) ∙ ap (λ n. time_symbol d n ∷ []) same;
      makes = sym (same-time d from s y same);
    }))
    (λ (differs : s ≡ same_symbol d → ⊥).
    ⊎_elim
    (λ (new : s ≡ new_symbol d).
    inr (inr (subst (λ n. SpellsNew d from (time_symbol d n ∷ rest_events d n y) (rest_time d from n y)) (sym new) (spelled-new d from y (subst (λ n. IsRest d n y) new h)))))
    (λ (old : s ≡ new_symbol d → ⊥). inr (inl (spelled-near d from s y (omega (arith, range, old)) differs h)))
    (cases_eq s (new_symbol d)))
    (cases_eq s (same_symbol d))

-- ---- what spells a time can be read
pub record Chosen (d from : ℕ) (events : List Event) (time : ℕ) : Type 0 where
  pub s : ℕ
  pub y : Rest
  pub range : s ≤ new_symbol d
  pub asked : IsRest d s y
  pub is : events ≡ time_symbol d s ∷ rest_events d s y
  pub makes : time ≡ rest_time d from s y

chosen-same : (d from : ℕ) (events : List Event) (time : ℕ) → SpellsSame d from events time → Chosen d from events time
chosen-same d from events time h =
    let b = eq-eqb (same_symbol d) (same_symbol d) refl in
    record {
      s = same_symbol d;
      y = no_rest;
      range = omega (arith, same-below d);
      asked = to-true _ _ _ b refl;
      is = h.is ∙ ap (λ l. time_symbol d (same_symbol d) ∷ l) (sym (cond-true _ _ _ b));
      makes = h.makes ∙ same-time d from (same_symbol d) no_rest refl;
    }

chosen-near : (d from : ℕ) (events : List Event) (time : ℕ) → SpellsNear d from events time → Chosen d from events time
chosen-near d from events time h =
    let near = is-near d h.m h.below h.differs in
    let y : Rest = ((h.k, h.value.v), 0) in
    record {
      s = h.m;
      y = y;
      range = omega (arith, h.below);
      asked = asked-near d h.m y near (h.value.width, h.value.within) refl;
      is = h.is ∙ ap (λ l. time_symbol d h.m ∷ l) (h.value.is ∙ sym (near-rest d h.m y near));
      makes = near-time d from h.m (predicted d h.m) _ time (h.k, h.value.v) near refl refl (h.makes ∙ ap (λ z. time_plus from (cast_unsigned w32 z)) h.value.makes);
    }

chosen-new : (d from : ℕ) (events : List Event) (time : ℕ) → SpellsNew d from events time → Chosen d from events time
chosen-new d from events time h =
    let y : Rest = ((h.k, h.value.v), h.low) in
    record {
      s = new_symbol d;
      y = y;
      range = omega arith;
      asked = asked-new d y ((h.value.width, h.value.within), h.small);
      is = h.is ∙ ap (λ l. time_symbol d (new_symbol d) ∷ l) (ap (λ l. l ++ raw_events 32 h.low) h.value.is ∙ sym (new-rest d y));
      makes = new-time d from (from / 4294967296) _ h.low time (h.k, h.value.v) refl refl (h.makes ∙ ap (λ z. cast_unsigned w32 z * 4294967296 + h.low) h.value.makes);
    }

pub chosen-rest : (d from : ℕ) (events : List Event) (time : ℕ) → Spells d from events time → Chosen d from events time
chosen-rest d from events time h = ⊎_elim (chosen-same d from events time) (λ g. ⊎_elim (chosen-near d from events time) (chosen-new d from events time) g) h

-- ---- what belongs to a symbol is no symbol of the time's own
quiet-pick : (b : Bool) (xs ys : List Event) → AreQuiet xs → AreQuiet ys → AreQuiet (cond b xs ys)
quiet-pick true xs ys f g = f
quiet-pick false xs ys f g = g

pub quiet-rest_events : (d s : ℕ) (y : Rest) → y.0.0 ≤ 32 → AreQuiet (rest_events d s y)
quiet-rest_events d s y few =
    quiet-pick _ _ _ quiet-none (quiet-append _ _ (quiet-corrector 32 (word_context d s) y.0.0 y.0.1 few) (quiet-pick _ _ _ (quiet-raw 32 y.1) quiet-none))

rest-width-by : (b c : Bool) (y : Rest) (P Q : Type 0) → MatchBool b (y ≡ no_rest) (IsCorrector 32 y.0 × MatchBool c P Q) → y.0.0 ≤ 32
rest-width-by true c y P Q h = omega (arith, ap (λ (z : Rest). z.0.0) h)
rest-width-by false c y P Q h = h.0.0

pub rest-width : (d s : ℕ) (y : Rest) → IsRest d s y → y.0.0 ≤ 32
rest-width d s y h = rest-width-by (eqb s (same_symbol d)) (eqb s (new_symbol d)) y (y.1 < 4294967296) (y.1 ≡ 0) h
