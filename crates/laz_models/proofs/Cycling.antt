-- The theory of cycles, for models of symbols and of bits alike.
use Rattle.std.proofs.Common.{◌≡◌, ℕ, zero, suc, ◌+◌, ◌-◌, ◌<◌, ◌≤◌, refl, ap, arith, ⊎_elim, add-one, lit≤}
use Rattle.std.proofs.lemmas.Bool.{cases_lt, cond-true, cond-false, le-leb, lt-leb}
use Rattle.laz_models.specs.Cycles.{due, cycle_in, IsInCycle}

pub cycle_in-ends : (cycles : ℕ → ℕ) (len : ℕ) → due cycles (cycle_in cycles len + 1) ≤ suc len → cycle_in cycles (suc len) ≡ cycle_in cycles len + 1
unfolding cycle_in
cycle_in-ends cycles len h = cond-true _ _ _ (le-leb (due cycles (cycle_in cycles len + 1)) (suc len) h)

pub cycle_in-goes_on : (cycles : ℕ → ℕ) (len : ℕ) → suc len < due cycles (cycle_in cycles len + 1) → cycle_in cycles (suc len) ≡ cycle_in cycles len
unfolding cycle_in
cycle_in-goes_on cycles len h = cond-false _ _ _ (lt-leb (due cycles (cycle_in cycles len + 1)) (suc len) h)

pub due-more : (cycles : ℕ → ℕ) (j : ℕ) → due cycles (j + 1) ≡ due cycles j + cycles j
due-more cycles j = ap (due cycles) (add-one j)

-- ---- no symbol yet
pub IsInCycle-first : (cycles : ℕ → ℕ) → 0 < cycles 0 → IsInCycle cycles 0 (cycles 0) (cycles 0)
unfolding cycle_in
IsInCycle-first cycles some =
    record { begun = lit≤ tt; open_until = omega (arith, due-more cycles 0); is = refl; to_come = omega (arith, due-more cycles 0) }

-- ---- one symbol more: the last of its cycle
pub record Ends (cycles : ℕ → ℕ) (len : ℕ) : Type 0 where
  pub whole : due cycles (cycle_in cycles len + 1) ≡ suc len
  pub ends : cycle_in cycles (suc len) ≡ cycle_in cycles len + 1
  pub next : IsInCycle cycles (suc len) (cycles (cycle_in cycles len + 1)) (cycles (cycle_in cycles len + 1))

pub ends : (cycles : ℕ → ℕ) (len cycle remaining : ℕ) → ((j : ℕ) → 0 < cycles j) → IsInCycle cycles len cycle remaining → remaining ≡ 1 → Ends cycles len
ends cycles len cycle remaining some h last =
    let j : ℕ = cycle_in cycles len in
    let whole : due cycles (j + 1) ≡ suc len = omega (arith, h.to_come, last) in
    let next : cycle_in cycles (suc len) ≡ j + 1 = cycle_in-ends cycles len (omega (arith, whole)) in
    record {
      whole = whole;
      ends = next;
      next = record {
        begun = rw next (omega (arith, whole));
        open_until = rw next (omega (arith, whole, due-more cycles (j + 1), some (j + 1)));
        is = rw next refl;
        to_come = rw next (omega (arith, whole, due-more cycles (j + 1)));
      };
    }

-- .. or another
pub record GoesOn (cycles : ℕ → ℕ) (len cycle remaining : ℕ) : Type 0 where
  pub same : cycle_in cycles (suc len) ≡ cycle_in cycles len
  pub next : IsInCycle cycles (suc len) cycle (remaining - 1)

pub goes_on : (cycles : ℕ → ℕ) (len cycle remaining : ℕ) → IsInCycle cycles len cycle remaining → (remaining ≡ 1 → ⊥) → GoesOn cycles len cycle remaining
goes_on cycles len cycle remaining h more =
    let j : ℕ = cycle_in cycles len in
    let before_end : suc len < due cycles (j + 1) = omega (arith, h.to_come, h.open_until, more) in
    let same : cycle_in cycles (suc len) ≡ j = cycle_in-goes_on cycles len before_end in
    record {
      same = same;
      next = record {
        begun = rw same (omega (arith, h.begun));
        open_until = rw same before_end;
        is = rw same h.is;
        to_come = rw same (omega (arith, h.to_come, h.open_until));
      };
    }

-- ---- it is the greatest that is due
due-rises : (cycles : ℕ → ℕ) (j d : ℕ) → due cycles j ≤ due cycles (j + d)
due-rises cycles j zero = let e : j + 0 ≡ j = omega arith in rw e (omega arith)
due-rises cycles j (suc d) = let e : j + suc d ≡ suc (j + d) = omega arith in rw e (omega (arith, due-rises cycles j d))

pub record IsGreatestDue (cycles : ℕ → ℕ) (len j : ℕ) : Type 0 where
  pub due_then : due cycles j ≤ len
  pub not_more : len < due cycles (j + 1)

greatest-due : (cycles : ℕ → ℕ) → ((j : ℕ) → 0 < cycles j) → (len : ℕ) → IsGreatestDue cycles len (cycle_in cycles len)
greatest-due cycles some zero = let first = IsInCycle-first cycles (some 0) in record { due_then = first.begun; not_more = first.open_until }
greatest-due cycles some (suc len) =
    let before = greatest-due cycles some len in
    let j : ℕ = cycle_in cycles len in
    ⊎_elim
    (λ (before_end : suc len < due cycles (j + 1)). rw (cycle_in-goes_on cycles len before_end) (record { due_then = omega (arith, before.due_then); not_more = before_end }))
    (λ (whole : due cycles (j + 1) ≤ suc len).
    rw (cycle_in-ends cycles len whole)
    (record { due_then = whole; not_more = omega (arith, before.not_more, due-more cycles (j + 1), some (j + 1)) }))
    (cases_lt (suc len) (due cycles (j + 1)))

pub cycle_in-due : (cycles : ℕ → ℕ) → ((j : ℕ) → 0 < cycles j) → (len : ℕ) → due cycles (cycle_in cycles len) ≤ len
cycle_in-due cycles some len = (greatest-due cycles some len).due_then

pub cycle_in-greatest : (cycles : ℕ → ℕ) → ((j : ℕ) → 0 < cycles j) → (len j : ℕ) → due cycles j ≤ len → j ≤ cycle_in cycles len
cycle_in-greatest cycles some len j h =
    let k : ℕ = cycle_in cycles len in
    ⊎_elim
    (λ (more : k < j).
    let e : (k + 1) + (j - (k + 1)) ≡ j = omega (arith, more) in
    let rises : due cycles (k + 1) ≤ due cycles j = rw e at (due-rises cycles (k + 1) (j - (k + 1))) in
    absurd (omega (arith, rises, h, (greatest-due cycles some len).not_more)))
    (λ (less : j ≤ k). less)
    (cases_lt k j)
