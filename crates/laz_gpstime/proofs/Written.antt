use Rattle.std.proofs.Common.{◌≡◌, ℕ, ℤ, zero, suc, ◌+◌, ◌-◌, ◌/◌, ◌%◌, ◌^◌, ◌<◌, ◌≤◌, eqb, ltb, leb, cond, min, Bool, true, false, List, [], ◌∷◌, ◌++◌, Option, Some, None, refl, sym, ap, subst, ◌∙◌, arith, ⊎_elim, lit<, lit≤}
use Rattle.std.specs.Option.{IfSome}
use Rattle.std.specs.Int.{w32, cast_signed}
use Rattle.std.proofs.lemmas.Bool.{cases_eq, eq-eqb, ne_eqb}
use Rattle.laz_range.specs.Coding.{Coding, Codes}
use Rattle.laz_integer.specs.Corrector.{digits_within, width_of, corrector_index, difference as word_difference}
use Rattle.laz_integer.specs.Events.{Event, cuts_after, raw_events}
use Rattle.laz_integer.specs.Integer.{IntEvents, int_width}
use Rattle.laz_gpstime.specs.Meanings.{Meaning, meaning, meaning_in, switch_in, meanings, time_kind}
use Rattle.laz_gpstime.specs.Sequences.{Point, time_difference, extremes, point_meaning, sequence, point_switch}
use Rattle.laz_gpstime.specs.Slots.{AreSlots, ModelsStand, TimeState, after_coded, difference_of, after_switch, slot_at, state_events, time_from, after_point}
use Rattle.laz_gpstime.specs.Items.{TimeStands}
use Rattle.laz_gpstime.specs.Times.{context, difference_on, difference_symbol, events_to, is_near, model_of, near_events, near_rest, near_symbol, nearest, new_events, new_symbol, predicted, same_symbol, sequence_on, signs_differ, switch_events, time_events, time_on, times_in}
use Rattle.laz_gpstime.specs.declared.sequences.Slot.{Slot}
use Rattle.laz_gpstime.specs.declared.sequences.Sequences.{Sequences}
use Rattle.laz_gpstime.proofs.Meanings.{AreQuiet, quiet-append, quiet-corrector, quiet-none, quiet-raw, says}
use Rattle.laz_gpstime.proofs.Slots.{AreSlots-push, switch-last, switch-slots, sequence-below}
use Rattle.laz_gpstime.proofs.Points.{new-is}

-- ---- a corrector of 32 bits is of width 32 at most
cond-le : (b : Bool) (m n k : ℕ) → m ≤ k → n ≤ k → cond b m n ≤ k
cond-le true m n k f g = f
cond-le false m n k f g = g

digits-few : (m n : ℕ) → digits_within m n ≤ m
unfolding digits_within
digits-few zero n = lit≤ tt
digits-few (suc m) n = cond-le (leb (2 ^ m) n) (suc m) (digits_within m n) (suc m) (omega arith) (omega (arith, digits-few m n))

width-few : (bits d : ℕ) → width_of bits d ≤ 32
unfolding width_of
width-few bits d = cond-le (ltb d (2 ^ (bits - 1))) _ _ 32 (digits-few 32 (d - 1)) (digits-few 32 (2 ^ bits - d))

pub quiet-int : (ctx : ℕ) (pred real : ℤ) → AreQuiet (IntEvents time_kind 32 ctx pred real)
quiet-int ctx pred real = quiet-corrector 32 ctx (int_width 32 pred real) (corrector_index 32 (word_difference 32 pred real) (int_width 32 pred real)) (width-few 32 (word_difference 32 pred real))

quiet-cond : (b : Bool) (xs : List Event) → AreQuiet xs → AreQuiet (cond b [] xs)
quiet-cond true xs h = quiet-none
quiet-cond false xs h = h

pub quiet-near : (d x : ℕ) → AreQuiet (near_rest d x)
quiet-near d x =
    let m = difference_symbol d x in
    quiet-cond (eqb x 0) (IntEvents time_kind 32 (context d m) (cast_signed w32 (predicted d m)) (cast_signed w32 x)) (quiet-int (context d m) (cast_signed w32 (predicted d m)) (cast_signed w32 x))

-- ---- the symbols of near times
pub cond-lt : (b : Bool) (m n k : ℕ) → m < k → n < k → cond b m n < k
cond-lt true m n k f g = f
cond-lt false m n k f g = g

pub many-below : (a b : Bool) (n : ℕ) → cond a 0 (cond b (500 + min 10 n) (min 500 n)) < 511
many-below a b n = cond-lt a 0 _ 511 (lit< tt) (cond-lt b _ _ 511 (omega arith) (omega arith))

pub difference-below : (d x : ℕ) → difference_symbol d x < new_symbol d
difference-below d x =
    ⊎_elim
    (λ (zero_is : d ≡ 0). rw (eq-eqb d 0 zero_is) (lit< tt))
    (λ (some : d ≡ 0 → ⊥). rw (ne_eqb d 0 some) (omega (arith, many-below (eqb (times_in d x) 0) (signs_differ d x) (times_in d x))))
    (cases_eq d 0)

pub same-below : (d : ℕ) → same_symbol d < new_symbol d
same-below d =
    ⊎_elim
    (λ (zero_is : d ≡ 0). rw (eq-eqb d 0 zero_is) (lit< tt))
    (λ (some : d ≡ 0 → ⊥). rw (ne_eqb d 0 some) (lit< tt))
    (cases_eq d 0)

pub near-below : (d x : ℕ) → near_symbol d x < new_symbol d
near-below d x = cond-lt (eqb x 0) (same_symbol d) (difference_symbol d x) (new_symbol d) (same-below d) (difference-below d x)

-- ---- look-ups are what the slots hold
four : (s : ℕ) → s < 4 → (s + 0) % 4 ≡ s
four s h = omega (arith, h)

pub slot-on : (points : List Point) (q : Sequences) (i : ℕ) → AreSlots points q → slot_at q ((q.last + i) % 4) ≡ record { time = time_on points i; difference = difference_on points i; extremes = extremes points (sequence_on points i) }
slot-on points q i h = ap (λ n. slot_at q ((n + i) % 4)) h.last ∙ h.slot ((sequence points + i) % 4) (omega arith)

slot_in : (p q : Sequences) (m n : ℕ) → p.slots ≡ q.slots → m ≡ n → slot_at p m ≡ slot_at q n
slot_in p q m n e f = rw (e, f) refl

pub slot-moved : (points : List Point) (q : Sequences) (i : ℕ) → AreSlots points q → slot_at (after_switch q i) (after_switch q i).last ≡ record { time = time_on points i; difference = difference_on points i; extremes = extremes points (sequence_on points i) }
slot-moved points q i h =
    let small : q.last < 4 = omega (arith, h.last, sequence-below points) in
    slot_in (after_switch q i) q (after_switch q i).last _ (switch-slots q i).0 (switch-last q i small) ∙ slot-on points q i h

pub slot-here : (points : List Point) (q : Sequences) → AreSlots points q → slot_at q q.last ≡ record { time = time_on points 0; difference = difference_on points 0; extremes = extremes points (sequence_on points 0) }
slot-here points q h =
    let small : q.last < 4 = omega (arith, h.last, sequence-below points) in
    ap (slot_at q) (sym (four q.last small)) ∙ slot-on points q 0 h

pub nearest-same : (f g : ℕ → ℕ) (time : ℕ) → f 0 ≡ g 0 → f 1 ≡ g 1 → f 2 ≡ g 2 → f 3 ≡ g 3 → nearest f time ≡ nearest g time
nearest-same f g time a b c d = rw (a, b, c, d) refl

pub nearest-is : (points : List Point) (q : Sequences) (time : ℕ) → AreSlots points q → nearest (time_from q) time ≡ nearest (time_on points) time
nearest-is points q time h =
    let at : (i : ℕ) → time_from q i ≡ time_on points i = λ i. ap (λ (s : Slot). s.time) (slot-on points q i h) in
    nearest-same (time_from q) (time_on points) time (at 0) (at 1) (at 2) (at 3)

some-or : (b : Bool) (n : ℕ) (o : Option ℕ) → n < 4 → IfSome o (λ i. i < 4) → IfSome (cond b (Some n) o) (λ i. i < 4)
some-or true n o f g = f
some-or false n o f g = g

pub nearest-few : (f : ℕ → ℕ) (time : ℕ) → IfSome (nearest f time) (λ i. i < 4)
nearest-few f time =
    some-or (is_near (time_difference (f 0) time)) 0 _ (lit< tt)
    (some-or (is_near (time_difference (f 1) time)) 1 _ (lit< tt)
    (some-or (is_near (time_difference (f 2) time)) 2 _ (lit< tt)
    (some-or (is_near (time_difference (f 3) time)) 3 None (lit< tt) tt)))

same_events : (d e i time : ℕ) (a b : Slot) → d ≡ e → a ≡ b → switch_events d i ++ near_events a.difference a.time time ≡ switch_events e i ++ near_events b.difference b.time time
same_events d e i time a b p r = rw (p, r) refl

pub events-are : (points : List Point) (st : TimeState) (time : ℕ) (o : Option ℕ) → AreSlots points st.sequences → state_events st time o ≡ events_to points time o
events-are points st time (Some i) h = same_events (difference_of st) (difference_on points 0) i time _ _ (ap (λ (s : Slot). s.difference) (slot-here points st.sequences h)) (slot-moved points st.sequences i h)
events-are points st time None h = ap (λ (s : Slot). new_events s.difference s.time time) (slot-here points st.sequences h)

-- ---- what a written point says
pub coded-is : (points : List Point) (q : Sequences) (time : ℕ) (o : Option ℕ) → AreSlots points q → IfSome o (λ i. i < 4) → let p : Point = record { time = time; events = events_to points time o } in after_coded q time o ≡ after_point (after_switch q (point_switch p)) (point_meaning p) time
coded-is points q time (Some i) h few =
    let d = difference_on points i in
    let x : ℕ = time_difference (time_on points i) time % 4294967296 in
    let s = says (difference_on points 0) d i (near_symbol d x) (near_rest d x) few (omega (arith, near-below d x)) (quiet-near d x) in
    ap (λ (k : Slot). after_point (after_switch q i) (meaning (model_of k.difference) (near_symbol k.difference (time_difference k.time time % 4294967296))) time) (slot-moved points q i h)
    ∙ (ap (λ n. after_point (after_switch q n) (meaning (model_of d) (near_symbol d x)) time) (sym s.point_switch)
    ∙ ap (λ (m : Meaning). after_point (after_switch q (switch_in (meanings (switch_events (difference_on points 0) i ++ near_events d (time_on points i) time)))) m time) (sym s.point_meaning))
coded-is points q time None h few =
    let d = difference_on points 0 in
    let rest = IntEvents time_kind 32 8 (cast_signed w32 (time_on points 0 / 4294967296)) (cast_signed w32 (time / 4294967296)) ++ raw_events 32 (time % 4294967296) in
    let quiet : AreQuiet rest = quiet-append (IntEvents time_kind 32 8 (cast_signed w32 (time_on points 0 / 4294967296)) (cast_signed w32 (time / 4294967296))) (raw_events 32 (time % 4294967296)) (quiet-int 8 (cast_signed w32 (time_on points 0 / 4294967296)) (cast_signed w32 (time / 4294967296))) (quiet-raw 32 (time % 4294967296)) in
    let s = says d d 0 (new_symbol d) rest (lit< tt) (omega arith) quiet in
    ap (λ (m : Meaning). after_point q m time) (sym (s.point_meaning ∙ new-is d)) ∙ ap (λ n. after_point (after_switch q n) (meaning_in (meanings (new_events d (time_on points 0) time))) time) (sym s.point_switch)

-- ---- the state stands for one written point more
pub written : (events : List Event) (points : List Point) (st new : TimeState) (time : ℕ) → TimeStands events points st
    → new.sequences ≡ after_coded st.sequences time (nearest (time_from st.sequences) time) → ModelsStand (events ++ state_events st time (nearest (time_from st.sequences) time)) new
    → TimeStands (events ++ time_events points time) (record { time = time; events = time_events points time } ∷ points) new
written events points st new time h is models =
    let o = nearest (time_on points) time in
    let near : nearest (time_from st.sequences) time ≡ o = nearest-is points st.sequences time h.slots in
    let p : Point = record { time = time; events = time_events points time } in
    record {
      models = subst (λ (es : List Event). ModelsStand (events ++ es) new) (ap (state_events st time) near ∙ events-are points st time o h.slots) models;
      slots =
          subst (λ (q : Sequences). AreSlots (p ∷ points) q) (sym (is ∙ (ap (after_coded st.sequences time) near ∙ coded-is points st.sequences time o h.slots (nearest-few (time_on points) time))))
          (AreSlots-push points p st.sequences h.slots);
    }

pub written-codes : (a b : Coding) (events : List Event) (points : List Point) (st : TimeState) (time : ℕ) → TimeStands events points st
    → Codes a b (cuts_after events (state_events st time (nearest (time_from st.sequences) time))) → Codes a b (cuts_after events (time_events points time))
written-codes a b events points st time h codes =
    let o = nearest (time_on points) time in
    let near : nearest (time_from st.sequences) time ≡ o = nearest-is points st.sequences time h.slots in
    subst (λ (es : List Event). Codes a b (cuts_after events es)) (ap (state_events st time) near ∙ events-are points st time o h.slots) codes
