use Rattle.std.proofs.Common.{◌≡◌, ℕ, ◌+◌, ◌%◌, ◌<◌, eqb, cond, Bool, true, false, List, [], ◌∷◌, length, set, get_or, refl, sym, ap, ◌∙◌, arith, ⊎_elim, lit<}
use Rattle.std.proofs.lemmas.Bool.{cases_eq, cond-true, cond-false, eq-eqb, ne_eqb}
use Rattle.std.proofs.lemmas.List.{get_or-set_same, get_or-set_other, length-set}
use Rattle.laz_gpstime.specs.Meanings.{is_new}
use Rattle.laz_gpstime.specs.Sequences.{Point, difference, extremes, last_time, openings, point_meaning, sequence, point_switch}
use Rattle.laz_gpstime.specs.Slots.{AreSlots, after_switch, no_slot, sequence_for, next_slot, slot_at, after_point}
use Rattle.laz_gpstime.specs.declared.sequences.Slot.{Slot}
use Rattle.laz_gpstime.specs.declared.sequences.Sequences.{Sequences}

cond-both : {A : Type 0} (b : Bool) (a c d e : A) → a ≡ d → c ≡ e → cond b a c ≡ cond b d e
cond-both true a c d e f g = f
cond-both false a c d e f g = g

cond-mod : (b : Bool) (n : ℕ) → cond b ((n + 1) % 4) (n % 4) ≡ cond b (n + 1) n % 4
cond-mod true n = refl
cond-mod false n = refl

cond-below : (b : Bool) (m n : ℕ) → cond b (m % 4) (n % 4) < 4
cond-below true m n = omega arith
cond-below false m n = omega arith

pub sequence-below : (earlier : List Point) → sequence earlier < 4
sequence-below [] = lit< tt
sequence-below (p ∷ earlier) = cond-below (is_new (point_meaning p)) (openings earlier + 1) (sequence earlier + point_switch p)

-- ---- a switch
pub switch-last : (q : Sequences) (i : ℕ) → q.last < 4 → (after_switch q i).last ≡ (q.last + i) % 4
switch-last q i small =
    ⊎_elim
    (λ (none : i ≡ 0). ap (λ (b : Bool). (cond b q (record { slots = q.slots; last = (q.last + i) % 4; next = q.next })).last) (eq-eqb i 0 none) ∙ omega (arith, none, small))
    (λ (some : i ≡ 0 → ⊥). ap (λ (b : Bool). (cond b q (record { slots = q.slots; last = (q.last + i) % 4; next = q.next })).last) (ne_eqb i 0 some))
    (cases_eq i 0)

cond-slots : (b : Bool) (q : Sequences) (n : ℕ) → ((cond b q (record { slots = q.slots; last = n; next = q.next })).slots ≡ q.slots) × ((cond b q (record { slots = q.slots; last = n; next = q.next })).next ≡ q.next)
cond-slots true q n = (refl, refl)
cond-slots false q n = (refl, refl)

pub switch-slots : (q : Sequences) (i : ℕ) → ((after_switch q i).slots ≡ q.slots) × ((after_switch q i).next ≡ q.next)
switch-slots q i = cond-slots (eqb i 0) q ((q.last + i) % 4)

-- ---- a slot
same_slot : (t u d x n m : ℕ) → t ≡ u → d ≡ x → n ≡ m → (let s : Slot = record { time = t; difference = d; extremes = n } in s) ≡ record { time = u; difference = x; extremes = m }
same_slot t u d x n m e f g = cc

-- What a slot is after a point of its sequence.
here : (p : Point) (earlier : List Point) (s : ℕ) (slot : Slot) → sequence (p ∷ earlier) ≡ s → slot ≡ record { time = last_time earlier s; difference = difference earlier s; extremes = extremes earlier s }
    → next_slot slot (point_meaning p) p.time ≡ record { time = last_time (p ∷ earlier) s; difference = difference (p ∷ earlier) s; extremes = extremes (p ∷ earlier) s }
here p earlier s slot at is =
    let b : eqb (sequence (p ∷ earlier)) s ≡ true = eq-eqb (sequence (p ∷ earlier)) s at in
    ap (λ (k : Slot). next_slot k (point_meaning p) p.time) is
    ∙ same_slot _ _ _ _ _ _ (sym (cond-true _ _ _ b)) (sym (cond-true _ _ _ b)) (sym (cond-true _ _ _ b))

-- What it is after a point of another one.
there : (p : Point) (earlier : List Point) (s : ℕ) (slot : Slot) → (sequence (p ∷ earlier) ≡ s → ⊥) → slot ≡ record { time = last_time earlier s; difference = difference earlier s; extremes = extremes earlier s }
    → slot ≡ record { time = last_time (p ∷ earlier) s; difference = difference (p ∷ earlier) s; extremes = extremes (p ∷ earlier) s }
there p earlier s slot apart is =
    let b : eqb (sequence (p ∷ earlier)) s ≡ false = ne_eqb (sequence (p ∷ earlier)) s apart in
    is ∙ same_slot _ _ _ _ _ _ (sym (cond-false _ _ _ b)) (sym (cond-false _ _ _ b)) (sym (cond-false _ _ _ b))

-- ---- the slots stand for one point more
pub AreSlots-push : (earlier : List Point) (p : Point) (q : Sequences) → AreSlots earlier q → AreSlots (p ∷ earlier) (after_point (after_switch q (point_switch p)) (point_meaning p) p.time)
AreSlots-push earlier p q h =
    let small : q.last < 4 = omega (arith, h.last, sequence-below earlier) in
    let i = point_switch p in
    let m = point_meaning p in
    let go = after_switch q i in
    let last : go.last ≡ (sequence earlier + i) % 4 = switch-last q i small ∙ ap (λ n. (n + i) % 4) h.last in
    let slots : go.slots ≡ q.slots = (switch-slots q i).0 in
    let next : go.next ≡ openings earlier % 4 = (switch-slots q i).1 ∙ h.next in
    let opened : (go.next + 1) % 4 ≡ (openings earlier + 1) % 4 = omega (arith, next) in
    let at : sequence_for go m ≡ sequence (p ∷ earlier) = cond-both (is_new m) _ _ _ _ opened last in
    let within : sequence_for go m < length q.slots = omega (arith, at, sequence-below (p ∷ earlier), h.count) in
    let new : Slot = next_slot (slot_at go (sequence_for go m)) m p.time in
    let stored : (after_point go m p.time).slots ≡ set q.slots (sequence_for go m) new = ap (λ (l : List Slot). set l (sequence_for go m) new) slots in
    record {
      last = at;
      next = cond-both (is_new m) _ _ _ _ opened next ∙ cond-mod (is_new m) (openings earlier);
      count = ap length stored ∙ (length-set q.slots (sequence_for go m) new ∙ h.count);
      slot = λ s inside.
          ⊎_elim
          (λ (same : s ≡ sequence_for go m).
          let old : slot_at go (sequence_for go m) ≡ record { time = last_time earlier s; difference = difference earlier s; extremes = extremes earlier s } = ap (λ (l : List Slot). get_or l (sequence_for go m) no_slot) slots ∙ (ap (λ n. get_or q.slots n no_slot) (sym same) ∙ h.slot s inside) in
          ap (λ (l : List Slot). get_or l s no_slot) stored
          ∙ (ap (λ n. get_or (set q.slots (sequence_for go m) new) n no_slot) same
          ∙ (get_or-set_same q.slots (sequence_for go m) new no_slot within
          ∙ here p earlier s (slot_at go (sequence_for go m)) (sym (same ∙ at)) old)))
          (λ (ne : s ≡ sequence_for go m → ⊥).
          ap (λ (l : List Slot). get_or l s no_slot) stored
          ∙ (get_or-set_other q.slots (sequence_for go m) s new no_slot ne
          ∙ there p earlier s (slot_at q s) (λ e. ne (sym e ∙ sym at)) (h.slot s inside)))
          (cases_eq s (sequence_for go m));
    }
