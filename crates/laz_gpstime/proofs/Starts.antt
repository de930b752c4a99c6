-- The item after `new` and after `start`.
use Rattle.std.proofs.Common.{◌≡◌, ℕ, zero, suc, ◌<◌, List, [], ◌∷◌, length, get_or, refl, ap, ◌∙◌, arith, lit<}
use Rattle.laz_models.specs.Bank.{alphabet_sizes}
use Rattle.laz_integer.specs.Fields.{BankStands}
use Rattle.laz_integer.specs.Integer.{IntStands, IsInts}
use Rattle.laz_gpstime.specs.Meanings.{time_kind}
use Rattle.laz_gpstime.specs.Sequences.{Point, difference, extremes, last_time}
use Rattle.laz_gpstime.specs.Items.{TimeStands, point_with}
use Rattle.laz_gpstime.specs.Slots.{IsTimeState, TimeState, no_slot}
use Rattle.laz_gpstime.specs.declared.sequences.Slot.{Slot}

-- The slots after the first time of a chunk.
abbrev pub first_slots : ℕ → List Slot
first_slots time = record { time = time; difference = 0; extremes = 0 } ∷ no_slot ∷ no_slot ∷ no_slot ∷ []

none-extreme : (time s : ℕ) → (get_or (first_slots time) s no_slot).extremes < 4
none-extreme time zero = lit< tt
none-extreme time (suc zero) = lit< tt
none-extreme time (suc (suc zero)) = lit< tt
none-extreme time (suc (suc (suc zero))) = lit< tt
none-extreme time (suc (suc (suc (suc s)))) = lit< tt

pub start-state : (new : TimeState) (time : ℕ) → new.sequences.slots ≡ first_slots time → new.sequences.last ≡ 0 → new.sequences.next ≡ 0 → alphabet_sizes new.symbols ≡ 6 ∷ 516 ∷ [] → IsInts 32 9 new.integers → IsTimeState new
start-state new time slots last next sizes int =
    record {
      last = omega (arith, last);
      next = omega (arith, next);
      count = ap length slots;
      extremes = λ s. rw slots (none-extreme time s);
      sizes = sizes;
      integers = int;
    }

first_slot : (time s : ℕ) → s < 4 → let p : Point = point_with time [] in get_or (first_slots time) s no_slot ≡ record { time = last_time (p ∷ []) s; difference = difference (p ∷ []) s; extremes = extremes (p ∷ []) s }
first_slot time zero h = refl
first_slot time (suc zero) h = refl
first_slot time (suc (suc zero)) h = refl
first_slot time (suc (suc (suc zero))) h = refl
first_slot time (suc (suc (suc (suc s)))) h = absurd (omega (arith, h))

pub start-stands : (new : TimeState) (time : ℕ) → new.sequences.slots ≡ first_slots time → new.sequences.last ≡ 0 → new.sequences.next ≡ 0 → BankStands time_kind [] new.symbols → IntStands time_kind [] new.integers
    → TimeStands [] (point_with time [] ∷ []) new
start-stands new time slots last next symbols int =
    record {
      models = record { symbols = symbols; integers = int };
      slots = record {
        last = last;
        next = next;
        count = ap length slots;
        slot = λ s h. ap (λ (l : List Slot). get_or l s no_slot) slots ∙ first_slot time s h;
      };
    }
