use Rattle.std.proofs.Common.{◌≡◌, ℕ, ◌+◌, ◌-◌, ◌<◌, ◌≤◌, eqb, List, ◌++◌, Some, Result, Ok, Err, refl, sym, ap, subst, ◌∙◌, arith, ⊎_elim, lit<}
use Rattle.std.specs.Result.{IfOk, MatchResult}
use Rattle.std.proofs.lemmas.Bool.{cases_eq, cond-false, eq-eqb, ne_eqb}
use Rattle.laz_range.specs.Cut.{Cut}
use Rattle.laz_range.specs.Reading.{Reading, follow_all}
use Rattle.laz_range.specs.Decoding.{Decoding, Refuses, Takes, TakesNone, reading_of}
use Rattle.laz_range.proofs.Public.{follows_both, follows_front, some_injective}
use Rattle.laz_gpstime.specs.Choices.{IsFront, Front, switch_next, time_symbol_cuts, front_cuts, front_next, symbol_next, switch_cuts, state_on}
use Rattle.laz_gpstime.specs.Slots.{TimeState, difference_of, after_switch, symbols_after}
use Rattle.laz_gpstime.specs.Times.{new_symbol, symbols_of}
use Rattle.laz_gpstime.proofs.Points.{same_state}

-- ---- symbols of switches
pub symbols-are : (d : ℕ) → symbols_of d ≡ new_symbol d + 4
symbols-are d =
    ⊎_elim
    (λ (zero_is : d ≡ 0). rw (eq-eqb d 0 zero_is) refl)
    (λ (some : d ≡ 0 → ⊥). rw (ne_eqb d 0 some) refl)
    (cases_eq d 0)

pub switched-some : (st : TimeState) (i : ℕ) → (i ≡ 0 → ⊥) → state_on st i ≡ switch_next st i
switched-some st i some = cond-false (eqb i 0) _ _ (ne_eqb i 0 some)

cuts-some : (st : TimeState) (i : ℕ) → (i ≡ 0 → ⊥) → switch_cuts st i ≡ time_symbol_cuts st (new_symbol (difference_of st) + i)
cuts-some st i some = cond-false (eqb i 0) _ _ (ne_eqb i 0 some)

-- A mark that begins what is left begins by its own symbol,
record Plain (st : TimeState) (r t : Reading) (z : Front) : Type 0 where
  pub none : z.0 ≡ 0
  pub symbol : z.1 ≤ new_symbol (difference_of st)
  pub reads : follow_all r (time_symbol_cuts st z.1) ≡ Some t

-- or by that of a switch.
record Switched (st : TimeState) (r t : Reading) (z : Front) : Type 0 where
  pub some : z.0 ≡ 0 → ⊥
  pub few : z.0 < 4
  pub symbol : z.1 ≤ new_symbol (difference_of (switch_next st z.0))
  pub mid : Reading
  pub first : follow_all r (time_symbol_cuts st (new_symbol (difference_of st) + z.0)) ≡ Some mid
  pub reads : follow_all mid (time_symbol_cuts (switch_next st z.0) z.1) ≡ Some t

either : {A : Type 0} (st : TimeState) (r t : Reading) (z : Front) → IsFront st z → follow_all r (front_cuts st z) ≡ Some t → (Plain st r t z → A) → (Switched st r t z → A) → A
either st r t z asked e plain switch =
    ⊎_elim
    (λ (zero_is : z.0 ≡ 0).
    plain (record {
      none = zero_is;
      symbol = subst (λ i. z.1 ≤ new_symbol (difference_of (state_on st i))) zero_is asked.1;
      reads = subst (λ i. follow_all r (switch_cuts st i ++ time_symbol_cuts (state_on st i) z.1) ≡ Some t) zero_is e;
    }))
    (λ (some : z.0 ≡ 0 → ⊥).
    let parts = follows_front r t (switch_cuts st z.0) (time_symbol_cuts (state_on st z.0) z.1) e in
    switch (record {
      some = some;
      few = asked.0;
      symbol = subst (λ (s : TimeState). z.1 ≤ new_symbol (difference_of s)) (switched-some st z.0 some) asked.1;
      mid = parts.0;
      first = subst (λ (cs : List Cut). follow_all r cs ≡ Some parts.0) (cuts-some st z.0 some) parts.1;
      reads = subst (λ (s : TimeState). follow_all parts.0 (time_symbol_cuts s z.1) ≡ Some t) (switched-some st z.0 some) parts.2;
    }))
    (cases_eq z.0 0)

same_mark : (i j k l : ℕ) → i ≡ k → j ≡ l → ◌≡◌ {A = Front} (i, j) (k, l)
same_mark i j k l e f = cc

abbrev IsSymbol : TimeState → ℕ → Type 0
IsSymbol st s = s < symbols_of (difference_of st)

small : (st : TimeState) (s : ℕ) → s ≤ new_symbol (difference_of st) → IsSymbol st s
small st s h = omega (arith, h, symbols-are (difference_of st))

switch-small : (st : TimeState) (i : ℕ) → i < 4 → IsSymbol st (new_symbol (difference_of st) + i)
switch-small st i h = omega (arith, h, symbols-are (difference_of st))

-- a symbol that is no switch
pub first-plain : (st : TimeState) (a b : Decoding) (s : ℕ) → s ≤ new_symbol (difference_of st) → Takes (λ s. s < symbols_of (difference_of st)) (time_symbol_cuts st) a b s → Takes (IsFront st) (front_cuts st) a b (0, s)
first-plain st a b s plain h =
    record {
      choice = record {
        asked = (lit< tt, plain);
        reads = h.choice.reads;
        only = λ z t asked e.
            either st (reading_of a) t z asked e
            (λ p. same_mark z.0 z.1 0 s p.none (h.choice.only z.1 t (small st z.1 p.symbol) p.reads))
            (λ p. let same = h.choice.only (new_symbol (difference_of st) + z.0) p.mid (switch-small st z.0 p.few) p.first in absurd (p.some (omega (arith, same, plain))));
      };
      bytes = h.bytes;
      within = h.within;
      good = h.good;
    }

-- a switch, and then one
pub first-switch : (st : TimeState) (a b c : Decoding) (s j : ℕ) → new_symbol (difference_of st) < s → Takes (λ s. s < symbols_of (difference_of st)) (time_symbol_cuts st) a b s
    → let on = switch_next st (s - new_symbol (difference_of st)) in Takes (λ s. s ≤ new_symbol (difference_of on)) (time_symbol_cuts on) b c j → Takes (IsFront st) (front_cuts st) a c (s - new_symbol (difference_of st), j)
first-switch st a b c s j switch f g =
    let new = new_symbol (difference_of st) in
    let i : ℕ = s - new in
    let some : i ≡ 0 → ⊥ = λ e. omega (arith, e, switch) in
    let back : new + i ≡ s = omega (arith, switch) in
    record {
      choice = record {
        asked = (omega (arith, f.choice.asked, symbols-are (difference_of st), switch), subst (λ (t : TimeState). j ≤ new_symbol (difference_of t)) (sym (switched-some st i some)) g.choice.asked);
        reads =
            follows_both (reading_of a) (reading_of b) (reading_of c) (switch_cuts st i) (time_symbol_cuts (state_on st i) j)
            (ap (follow_all (reading_of a)) (cuts-some st i some) ∙ (ap (λ n. follow_all (reading_of a) (time_symbol_cuts st n)) back ∙ f.choice.reads))
            (ap (λ (t : TimeState). follow_all (reading_of b) (time_symbol_cuts t j)) (switched-some st i some) ∙ g.choice.reads);
        only = λ z t asked e.
            either st (reading_of a) t z asked e
            (λ p. let same = f.choice.only z.1 t (small st z.1 p.symbol) p.reads in absurd (omega (arith, same, p.symbol, switch)))
            (λ p.
            let same = f.choice.only (new + z.0) p.mid (switch-small st z.0 p.few) p.first in
            let at : z.0 ≡ i = omega (arith, same) in
            let mid : p.mid ≡ reading_of b = some_injective (follow_all (reading_of a) (time_symbol_cuts st (new + z.0))) p.mid (reading_of b) p.first (ap (λ n. follow_all (reading_of a) (time_symbol_cuts st n)) same ∙ f.choice.reads) in
            let rest : follow_all (reading_of b) (time_symbol_cuts (switch_next st i) z.1) ≡ Some t = subst (λ (r : Reading). follow_all r (time_symbol_cuts (switch_next st i) z.1) ≡ Some t) mid (subst (λ n. follow_all p.mid (time_symbol_cuts (switch_next st n) z.1) ≡ Some t) at p.reads) in
            same_mark z.0 z.1 i j at (g.choice.only z.1 t (subst (λ n. z.1 ≤ new_symbol (difference_of (switch_next st n))) at p.symbol) rest));
      };
      bytes = g.bytes ∙ f.bytes;
      within = g.within;
      good = g.good;
    }

-- a switch, and then another, or nothing
pub first-refused : (st : TimeState) (a b c : Decoding) (s : ℕ) → new_symbol (difference_of st) < s → Takes (λ s. s < symbols_of (difference_of st)) (time_symbol_cuts st) a b s
    → let on = switch_next st (s - new_symbol (difference_of st)) in Refuses (λ s. s ≤ new_symbol (difference_of on)) (time_symbol_cuts on) b c → Refuses (IsFront st) (front_cuts st) a c
first-refused st a b c s switch f g =
    let new = new_symbol (difference_of st) in
    let i : ℕ = s - new in
    record {
      nothing = λ z t asked e.
          either st (reading_of a) t z asked e
          (λ p. let same = f.choice.only z.1 t (small st z.1 p.symbol) p.reads in omega (arith, same, p.symbol, switch))
          (λ p.
          let same = f.choice.only (new + z.0) p.mid (switch-small st z.0 p.few) p.first in
          let at : z.0 ≡ i = omega (arith, same) in
          let mid : p.mid ≡ reading_of b = some_injective (follow_all (reading_of a) (time_symbol_cuts st (new + z.0))) p.mid (reading_of b) p.first (ap (λ n. follow_all (reading_of a) (time_symbol_cuts st n)) same ∙ f.choice.reads) in
          let rest : follow_all (reading_of b) (time_symbol_cuts (switch_next st i) z.1) ≡ Some t = subst (λ (r : Reading). follow_all r (time_symbol_cuts (switch_next st i) z.1) ≡ Some t) mid (subst (λ n. follow_all p.mid (time_symbol_cuts (switch_next st n) z.1) ≡ Some t) at p.reads) in
          g.nothing z.1 t (subst (λ n. z.1 ≤ new_symbol (difference_of (switch_next st n))) at p.symbol) rest);
      bytes = g.bytes ∙ f.bytes;
    }

-- nothing at all
pub first-none : (st : TimeState) (a b : Decoding) → TakesNone (λ s. s < symbols_of (difference_of st)) (time_symbol_cuts st) a b → Refuses (IsFront st) (front_cuts st) a b
first-none st a b h =
    record {
      nothing = λ z t asked e.
          either st (reading_of a) t z asked e
          (λ p. h.nothing z.1 t (small st z.1 p.symbol) p.reads)
          (λ p. h.nothing (new_symbol (difference_of st) + z.0) p.mid (switch-small st z.0 p.few) p.first);
      bytes = h.bytes;
    }

-- ---- the state after a switch

pub gone-is : (st after mid : TimeState) (s i : ℕ) → after ≡ symbol_next st s → mid.sequences ≡ after_switch after.sequences i → mid.symbols ≡ after.symbols → mid.integers ≡ after.integers → new_symbol (difference_of st) + i ≡ s → mid ≡ switch_next st i
gone-is st after mid s i is moved_is symbols integers back =
    let q : mid.sequences ≡ after_switch st.sequences i = moved_is ∙ ap (λ (t : TimeState). after_switch t.sequences i) is in
    let b : mid.symbols ≡ symbols_after st (new_symbol (difference_of st) + i) = symbols ∙ (ap (λ (t : TimeState). t.symbols) is ∙ ap (symbols_after st) (sym back)) in
    let n : mid.integers ≡ st.integers = integers ∙ ap (λ (t : TimeState). t.integers) is in
    same_state mid.sequences _ mid.symbols _ mid.integers _ q b n

-- what was taken after a switch
pub first-after : {E : Type 0} (result : Result ℕ E) (st mid new : TimeState) (a b c : Decoding) (s : ℕ) → new_symbol (difference_of st) < s → Takes (λ s. s < symbols_of (difference_of st)) (time_symbol_cuts st) a b s
    → mid ≡ switch_next st (s - new_symbol (difference_of st))
    → MatchResult result (λ j. Takes (λ s. s ≤ new_symbol (difference_of mid)) (time_symbol_cuts mid) b c j) (λ _. Refuses (λ s. s ≤ new_symbol (difference_of mid)) (time_symbol_cuts mid) b c) → IfOk result (λ j. new ≡ symbol_next mid j)
    → MatchResult result (λ j. (i : ℕ) × Takes (IsFront st) (front_cuts st) a c (i, j) × (new ≡ front_next st (i, j))) (λ _. Refuses (IsFront st) (front_cuts st) a c)
first-after (Ok j) st mid new a b c s switch f is g next =
    let i : ℕ = s - new_symbol (difference_of st) in
    let some : i ≡ 0 → ⊥ = λ e. omega (arith, e, switch) in
    (i, first-switch st a b c s j switch f (subst (λ (t : TimeState). Takes (λ s. s ≤ new_symbol (difference_of t)) (time_symbol_cuts t) b c j) is g), next ∙ ap (λ (t : TimeState). symbol_next t j) (is ∙ sym (switched-some st i some)))
first-after (Err e) st mid new a b c s switch f is g next = first-refused st a b c s switch f (subst (λ (t : TimeState). Refuses (λ s. s ≤ new_symbol (difference_of t)) (time_symbol_cuts t) b c) is g)
