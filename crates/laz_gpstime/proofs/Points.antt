use Rattle.std.proofs.Common.{◌≡◌, ℕ, ◌+◌, ◌%◌, ◌<◌, ◌≤◌, eqb, cond, ◌||◌, ◌&&◌, Bool, true, false, List, length, set, get_or, refl, sym, ap, subst, ◌∙◌, arith, ⊎_elim, lit<}
use Rattle.std.proofs.lemmas.Bool.{cases_lt, cases_eq, eq-eqb, ne_eqb}
use Rattle.std.proofs.lemmas.List.{get_or-set_same, get_or-set_other, length-set, set_past}
use Rattle.laz_models.specs.Counting.{Counting}
use Rattle.laz_integer.specs.Integer.{IntState}
use Rattle.laz_gpstime.specs.Meanings.{Meaning, New, extremes_after, is_new, is_first, is_one, is_extreme, meaning}
use Rattle.laz_gpstime.specs.Slots.{IsTimeState, TimeState, after_switch, no_slot, sequence_for, next_slot, slot_at, after_point}
use Rattle.laz_gpstime.specs.Times.{model_of, new_symbol}
use Rattle.laz_gpstime.specs.declared.sequences.Slot.{Slot}
use Rattle.laz_gpstime.specs.declared.sequences.Sequences.{Sequences}
use Rattle.laz_gpstime.proofs.Slots.{switch-last, switch-slots}

-- ---- which symbol opens a sequence

pub new-is : (d : ℕ) → meaning (model_of d) (new_symbol d) ≡ New
new-is d =
    ⊎_elim
    (λ (zero_is : d ≡ 0). rw (eq-eqb d 0 zero_is) refl)
    (λ (some : d ≡ 0 → ⊥). rw (ne_eqb d 0 some) refl)
    (cases_eq d 0)

pub same_state : (p q : Sequences) (a b : List Counting) (m n : IntState) → p ≡ q → a ≡ b → m ≡ n → (let st : TimeState = record { sequences = p; symbols = a; integers = m } in st) ≡ record { sequences = q; symbols = b; integers = n }
same_state p q a b m n e f g = cc

-- ---- a point that opens none

-- ---- what holds of the slots holds of them after a point
below-four : (b : Bool) (m : ℕ) (n : ℕ) → n < 4 → cond b (m % 4) n < 4
below-four true m n h = omega arith
below-four false m n h = h

count_ways : (a b c d e : Bool) (n : ℕ) → n < 4 → (e ≡ false → n + 1 < 4) → cond (a || ((b || (d && e)) || c)) 0 (cond d (n + 1) n) < 4
count_ways true b c d e n h f = lit< tt
count_ways false true c d e n h f = lit< tt
count_ways false false true false e n h f = lit< tt
count_ways false false false false e n h f = h
count_ways false false c true true n h f = lit< tt
count_ways false false true true false n h f = lit< tt
count_ways false false false true false n h f = f refl

apart : true ≡ false → ⊥
apart e = cc

not-fourth : (n : ℕ) → n < 4 → eqb (n + 1) 4 ≡ false → n + 1 < 4
not-fourth n h e =
    ⊎_elim
    (λ (same : n + 1 ≡ 4). absurd (apart (sym (eq-eqb (n + 1) 4 same) ∙ e)))
    (λ (ne : n + 1 ≡ 4 → ⊥). omega (arith, h, ne))
    (cases_eq (n + 1) 4)

extremes-below : (m : Meaning) (n : ℕ) → n < 4 → extremes_after m n < 4
extremes-below m n h = count_ways (is_new m) (is_first m) (is_one m) (is_extreme m) (eqb (n + 1) 4) n h (not-fourth n h)

slots-below : (slots : List Slot) (i : ℕ) (new : Slot) → ((s : ℕ) → (get_or slots s no_slot).extremes < 4) → new.extremes < 4 → (s : ℕ) → (get_or (set slots i new) s no_slot).extremes < 4
slots-below slots i new h small s =
    ⊎_elim
    (λ (same : s ≡ i).
    ⊎_elim
    (λ (within : i < length slots). rw (same, get_or-set_same slots i new no_slot within) small)
    (λ (past : length slots ≤ i). rw (set_past slots i new past) (h s))
    (cases_lt i (length slots)))
    (λ (ne : s ≡ i → ⊥). rw (get_or-set_other slots i s new no_slot ne) (h s))
    (cases_eq s i)

pub point-state : (st new : TimeState) (m : Meaning) (time : ℕ) → IsTimeState st → new.sequences ≡ after_point st.sequences m time → new.symbols ≡ st.symbols → new.integers ≡ st.integers → IsTimeState new
point-state st new m time h is symbols integers =
    let q = st.sequences in
    let q' = after_point q m time in
    let made : IsTimeState (record { sequences = q'; symbols = st.symbols; integers = st.integers }) =
    record {
      last = below-four (is_new m) (q.next + 1) q.last h.last;
      next = below-four (is_new m) (q.next + 1) q.next h.next;
      count = length-set q.slots (sequence_for q m) _ ∙ h.count;
      extremes = slots-below q.slots (sequence_for q m) (next_slot (slot_at q (sequence_for q m)) m time) h.extremes (extremes-below m (slot_at q (sequence_for q m)).extremes (h.extremes (sequence_for q m)));
      sizes = h.sizes;
      integers = h.integers;
    } in
    subst IsTimeState (same_state _ _ _ _ _ _ (sym is) (sym symbols) (sym integers)) made

pub switch-state : (st new : TimeState) (i : ℕ) → IsTimeState st → new.sequences ≡ after_switch st.sequences i → new.symbols ≡ st.symbols → new.integers ≡ st.integers → IsTimeState new
switch-state st new i h is symbols integers =
    let q = st.sequences in
    let slots = switch-slots q i in
    let made : IsTimeState (record { sequences = after_switch q i; symbols = st.symbols; integers = st.integers }) =
    record {
      last = omega (arith, switch-last q i h.last);
      next = omega (arith, slots.1, h.next);
      count = ap length slots.0 ∙ h.count;
      extremes = λ s. rw slots.0 (h.extremes s);
      sizes = h.sizes;
      integers = h.integers;
    } in
    subst IsTimeState (same_state _ _ _ _ _ _ (sym is) (sym symbols) (sym integers)) made
