-- A writer's events spell the time.
use Rattle.std.proofs.Common.{◌≡◌, ℕ, ◌+◌, ◌-◌, ◌*◌, ◌/◌, ◌%◌, ◌<◌, ◌≤◌, eqb, ltb, leb, cond, Bool, true, false, List, [], ◌∷◌, Option, Some, None, refl, sym, ap, subst, ◌∙◌, arith, ⊎_elim, lit<, lit≤}
use mathlib.Core.Logic.{inl, inr}
use mir.Val.{Fits, SFits}
use Rattle.std.specs.Option.{IfSome}
use Rattle.std.specs.Int.{w32, cast_signed}
use Rattle.std.proofs.Math.Facts.{sfits_to_z}
use Rattle.std.proofs.lemmas.Bool.{cases_lt, cases_eq, cond-true, cond-false, eq-eqb, ne_eqb, lt-ltb, le-ltb}
use Rattle.std.proofs.lemmas.Int.{of_z-to_z}
use Rattle.std.proofs.lemmas.List.Elements.{All-head, All-tail}
use Rattle.laz_integer.specs.Integer.{IntEvents, IntSpell, int_width}
use Rattle.laz_integer.proofs.Public.{spells-written}
use Rattle.laz_gpstime.specs.Laws.{AreTimes, TimesAreSpelled}
use Rattle.laz_gpstime.specs.Meanings.{time_kind}
use Rattle.laz_gpstime.specs.Sequences.{Point, time_difference, last_time, sequence}
use Rattle.laz_gpstime.specs.Spelling.{SpellsTime, SpellsNew, time_plus}
use Rattle.laz_gpstime.specs.Times.{context, difference_on, difference_symbol, events_to, is_near, near_events, nearest, new_events, predicted, same_symbol, sequence_on, signs_differ, time_on, times_in}
use Rattle.laz_gpstime.proofs.Coded.{near-other, near-same}
use Rattle.laz_gpstime.proofs.SpelledRests.{Spells}
use Rattle.laz_gpstime.proofs.Written.{difference-below, many-below, cond-lt}

-- ---- a writer's events spell their word
word-fits : (n : ℕ) → n < 4294967296 → SFits w32 (cast_signed w32 n)
word-fits n h = let word : Fits w32 n = record { fits = omega (arith, h) } in sfits_to_z {w = w32} {n = n} word

word-spells : (ctx pred real : ℕ) → pred < 4294967296 → real < 4294967296
    → IntSpell time_kind 32 ctx (cast_signed w32 pred) (IntEvents time_kind 32 ctx (cast_signed w32 pred) (cast_signed w32 real)) (cast_signed w32 real) (int_width 32 (cast_signed w32 pred) (cast_signed w32 real))
word-spells ctx pred real f g =
    spells-written time_kind 32 ctx (cast_signed w32 pred) (cast_signed w32 real) (lit≤ tt) (lit≤ tt) (word-fits pred f) (word-fits real g) (omega (arith, of_z-to_z w32 real g, g))

-- ---- a near time is the last one and a signed word
apart : false ≡ true → ⊥
apart e = cc

true-lt : (a b : ℕ) → ltb a b ≡ true → a < b
true-lt a b e = ⊎_elim (λ (less : a < b). less) (λ (more : b ≤ a). absurd (apart (sym (le-ltb a b more) ∙ e))) (cases_lt a b)

plus-small : (from time d x : ℕ) → from < 18446744073709551616 → time < 18446744073709551616 → d ≡ time_difference from time → d < 2147483648 → x ≡ d % 4294967296 → time ≡ time_plus from x
plus-small from time d x f t is less at =
    let same : x ≡ d = omega (arith, at, less) in
    let b : ltb x 2147483648 ≡ true = lt-ltb x 2147483648 (omega (arith, same, less)) in
    let sum : (from + x) % 18446744073709551616 ≡ time = omega (arith, same, is, f, t) in
    sym (ap (λ n. (from + n) % 18446744073709551616) (cond-true _ _ _ b) ∙ sum)

plus-great : (from time d x : ℕ) → from < 18446744073709551616 → time < 18446744073709551616 → d ≡ time_difference from time → 18446744071562067968 ≤ d → x ≡ d % 4294967296 → time ≡ time_plus from x
plus-great from time d x f t is more at =
    let below : d < 18446744073709551616 = omega (arith, is) in
    let same : 18446744069414584320 + x ≡ d = omega (arith, at, more, below) in
    let b : ltb x 2147483648 ≡ false = le-ltb x 2147483648 (omega (arith, same, more)) in
    let sum : (from + (18446744069414584320 + x)) % 18446744073709551616 ≡ time = omega (arith, same, is, f, t) in
    sym (ap (λ n. (from + n) % 18446744073709551616) (cond-false _ _ _ b) ∙ sum)

near-plus : (from time : ℕ) → from < 18446744073709551616 → time < 18446744073709551616 → is_near (time_difference from time) ≡ true → time ≡ time_plus from (time_difference from time % 4294967296)
near-plus from time f t near =
    let d : ℕ = time_difference from time in
    let small : (d + 2147483648) % 18446744073709551616 < 4294967296 = true-lt _ _ near in
    ⊎_elim
    (λ (less : d < 2147483648). plus-small from time d (d % 4294967296) f t refl less refl)
    (λ (more : 2147483648 ≤ d).
    let great : 18446744071562067968 ≤ d = omega (arith, small, more) in
    plus-great from time d (d % 4294967296) f t refl great refl)
    (cases_lt d 2147483648)

same-plus : (from time : ℕ) → from < 18446744073709551616 → time ≡ time_plus from 0 → time ≡ from
same-plus from time f e = e ∙ omega (arith, f)

-- ---- the symbol of a difference is not that of the same time
difference-differs : (d x : ℕ) → difference_symbol d x ≡ same_symbol d → ⊥
difference-differs d x =
    ⊎_elim
    (λ (zero_is : d ≡ 0). rw (eq-eqb d 0 zero_is) (λ e. omega (arith, e)))
    (λ (some : d ≡ 0 → ⊥). rw (ne_eqb d 0 some) (λ e. omega (arith, e, many-below (eqb (times_in d x) 0) (signs_differ d x) (times_in d x))))
    (cases_eq d 0)

cond-small : (b : Bool) (m n : ℕ) → cond b (m % 4294967296) (n % 4294967296) < 4294967296
cond-small true m n = omega arith
cond-small false m n = omega arith

predicted-small : (d s : ℕ) → predicted d s < 4294967296
predicted-small d s = cond-small (leb s 500) (s * d) ((s - 500) * (4294967296 - d))

-- ---- a writer's events spell the time
near-spells : (d from time : ℕ) → from < 18446744073709551616 → time < 18446744073709551616 → is_near (time_difference from time) ≡ true → Spells d from (near_events d from time) time
near-spells d from time f t near =
    let slot_x : ℕ = time_difference from time % 4294967296 in
    let plus = near-plus from time f t near in
    ⊎_elim
    (λ (none : slot_x ≡ 0).
    inl (record {
      is = sym (near-same (record { time = from; difference = d; extremes = 0 }) (same_symbol d) slot_x time refl none refl);
      makes = same-plus from time f (subst (λ n. time ≡ time_plus from n) none plus);
    }))
    (λ (some : slot_x ≡ 0 → ⊥).
    let m : ℕ = difference_symbol d slot_x in
    let small : slot_x < 4294967296 = omega arith in
    let word = word-spells (context d m) (predicted d m) slot_x (predicted-small d m) small in
    inr (inl (record {
      m = m;
      below = difference-below d slot_x;
      differs = difference-differs d slot_x;
      rest = IntEvents time_kind 32 (context d m) (cast_signed w32 (predicted d m)) (cast_signed w32 slot_x);
      is = sym (near-other (record { time = from; difference = d; extremes = 0 }) m slot_x time (predicted d m) (context d m) refl some refl refl refl);
      x = cast_signed w32 slot_x;
      k = int_width 32 (cast_signed w32 (predicted d m)) (cast_signed w32 slot_x);
      value = word;
      makes = subst (λ n. time ≡ time_plus from n) (sym (of_z-to_z w32 slot_x small)) plus;
    })))
    (cases_eq slot_x 0)

new-spells : (d from time : ℕ) → from < 18446744073709551616 → time < 18446744073709551616 → SpellsNew d from (new_events d from time) time
new-spells d from time f t =
    let high : ℕ = time / 4294967296 in
    let small : high < 4294967296 = omega (arith, t) in
    let word = word-spells 8 (from / 4294967296) high (omega (arith, f)) small in
    record {
      rest = IntEvents time_kind 32 8 (cast_signed w32 (from / 4294967296)) (cast_signed w32 high);
      low = time % 4294967296;
      small = omega arith;
      is = refl;
      high = cast_signed w32 high;
      k = int_width 32 (cast_signed w32 (from / 4294967296)) (cast_signed w32 high);
      value = word;
      makes = omega (arith, of_z-to_z w32 high small);
    }

-- ---- times of points

last-below : (points : List Point) (s : ℕ) → AreTimes points → last_time points s < 18446744073709551616
last-below [] s h = lit< tt
last-below (p ∷ earlier) s h =
    cond-lt (eqb (sequence (p ∷ earlier)) s) p.time (last_time earlier s) _ (All-head (λ (p : Point). p.time < 18446744073709551616) p earlier h) (last-below earlier s (All-tail (λ (p : Point). p.time < 18446744073709551616) p earlier h))

-- the one that a time is near to
pick : (b : Bool) (n : ℕ) (o : Option ℕ) (P : ℕ → Type 0) → (b ≡ true → P n) → IfSome o P → IfSome (cond b (Some n) o) P
pick true n o P f g = f refl
pick false n o P f g = g

known : (f : ℕ → ℕ) (time : ℕ) → IfSome (nearest f time) (λ i. (i < 4) × (is_near (time_difference (f i) time) ≡ true))
known f time =
    let P : ℕ → Type 0 = λ i. (i < 4) × (is_near (time_difference (f i) time) ≡ true) in
    pick (is_near (time_difference (f 0) time)) 0 _ P (λ e. (lit< tt, e))
    (pick (is_near (time_difference (f 1) time)) 1 _ P (λ e. (lit< tt, e))
    (pick (is_near (time_difference (f 2) time)) 2 _ P (λ e. (lit< tt, e))
    (pick (is_near (time_difference (f 3) time)) 3 None P (λ e. (lit< tt, e)) tt)))

spells-by : (points : List Point) (time : ℕ) (o : Option ℕ) → AreTimes points → time < 18446744073709551616 → IfSome o (λ i. (i < 4) × (is_near (time_difference (time_on points i) time) ≡ true)) → SpellsTime points (events_to points time o) time
spells-by points time (Some i) h t near =
    record {
      i = i;
      few = near.0;
      rest = near_events (difference_on points i) (time_on points i) time;
      is = refl;
      spells = near-spells (difference_on points i) (time_on points i) time (last-below points (sequence_on points i) h) t near.1;
    }
spells-by points time None h t near =
    record {
      i = 0;
      few = lit< tt;
      rest = new_events (difference_on points 0) (time_on points 0) time;
      is = refl;
      spells = inr (inr (new-spells (difference_on points 0) (time_on points 0) time (last-below points (sequence_on points 0) h) t));
    }

pub times-spelled : TimesAreSpelled
times-spelled points time h t = spells-by points time (nearest (time_on points) time) h t (known (time_on points) time)
