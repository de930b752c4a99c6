-- For crates that keep models: a new model is sound, and it stays so with each symbol or bit that it counts.
use Rattle.std.proofs.Common.{◌≡◌, false, ℕ, ◌+◌, ◌*◌, ◌/◌, ◌<◌, ◌≤◌, All, List, length, map, sum, take, get_or, set, sym, arith, ⊎_elim, length-set, Bool, true, false, eqb, lit≤, lit<}
use Rattle.std.proofs.lemmas.Bool.{cases_lt, cases_eq, cond-true, cond-false, eq-eqb, ne_eqb}
use Rattle.std.proofs.lemmas.List.{get_or-set_same, get_or-set_other, get_or-map, length-map, length-replicate, length-take-le}
use Rattle.std.proofs.lemmas.List.Elements.{All-get_or}
use Rattle.laz_models.specs.Bank.{model_at}
use Rattle.laz_models.specs.BitCounting.{BitCounting, IsBitCounting, after_bit, new_bit_cycle, small_bit_counts, new_bit_model, zeros_with}
use Rattle.laz_models.specs.Counting.{Counting, AreCounts, after_symbol, new_model, new_cycle, small_counts, counts_with}
use Rattle.laz_models.specs.Dist.{alphabet_size}
use Rattle.laz_models.specs.Place.{cells_of, counting_in, counting_of, IsModel, IsBank}
use Rattle.laz_models.specs.Sound.{IsSound, AreSound}
use Rattle.laz_models.specs.declared.place.Place.{Place}
use Rattle.laz_models.proofs.BitParts.{after_bit-last, after_bit-more, p0_bounds, small_bit_counts-small as bit-small, small_bit_counts-large as bit-large}
use Rattle.laz_models.proofs.Models.{first-AreStarts, AreCounts-counts_with, sum-counts_with, counting_of-first, counting_of-laid}
use Rattle.laz_models.proofs.Parts.{after_symbol-last, after_symbol-more, AreCounts-small_counts, AreCounts-ones, sum-ones, small_counts-small, small_counts-large, sum-halves_of-le, starts_of-AreStarts, min-cycles}
use Rattle.laz_models.proofs.Stand.{length-small_counts}

-- ---- a model of symbols is sound, whatever it counts
pub IsSound-new_model : (n : ℕ) → 2 ≤ n → n ≤ 2048 → IsSound (new_model n)
unfolding new_model
IsSound-new_model n many few =
    record {
      counts = AreCounts-ones n many few;
      starts = rw (length-replicate {A = ℕ} n 1) (first-AreStarts n many few);
      sum = omega (arith, sum-ones n);
      some = omega arith;
      within = omega arith;
      four = omega arith;
      cycle = omega (arith, length-replicate {A = ℕ} n 1);
    }

sum-small_counts : (counts : List ℕ) → AreCounts counts → sum counts ≤ 50000 → sum (small_counts counts) ≤ 32768
sum-small_counts counts are few =
    ⊎_elim
    (λ (large : 32768 < sum counts). rw (small_counts-large counts large) (sum-halves_of-le counts are few))
    (λ (small : sum counts ≤ 32768). rw (small_counts-small counts small) small)
    (cases_lt 32768 (sum counts))

IsSound-new_cycle : (counts : List ℕ) (cycle : ℕ) → AreCounts counts → sum counts ≤ 32768 + cycle → 4 ≤ cycle → cycle ≤ 8 * (length counts + 6) → IsSound (new_cycle counts cycle)
unfolding new_cycle
IsSound-new_cycle counts cycle are few four most =
    let kept : AreCounts (small_counts counts) = AreCounts-small_counts counts are in
    let small : sum (small_counts counts) ≤ 32768 = sum-small_counts counts are (omega (arith, are.few)) in
    let same = length-small_counts counts in
    let next = min-cycles (length counts) cycle are.many four in
    record {
      counts = kept;
      starts = starts_of-AreStarts (small_counts counts) kept small;
      sum = omega (arith, small);
      some = omega (arith, next.0);
      within = omega arith;
      four = next.0;
      cycle = omega (arith, next.1, same);
    }

pub IsSound-after_symbol : (m : Counting) (s : ℕ) → IsSound m → s < alphabet_size m → IsSound (after_symbol m s)
IsSound-after_symbol m s h within =
    let more = AreCounts-counts_with m.counts s h.counts within in
    let total = sum-counts_with m.counts s within in
    let same : length (counts_with m.counts s) ≡ length m.counts = length-set m.counts s (get_or m.counts s 0 + 1) in
    ⊎_elim
    (λ (last : m.remaining ≡ 1). rw (after_symbol-last m s last) (IsSound-new_cycle (counts_with m.counts s) m.cycle more (omega (arith, total, h.sum, last)) h.four (omega (arith, h.cycle, same))))
    (λ (others : m.remaining ≡ 1 → ⊥).
    rw (after_symbol-more m s others)
    (record {
      counts = more;
      starts = rw same h.starts;
      sum = omega (arith, total, h.sum, h.some);
      some = omega (arith, others, h.some);
      within = omega (arith, h.within);
      four = h.four;
      cycle = omega (arith, h.cycle, same);
    }))
    (cases_eq m.remaining 1)

-- ---- so are those of a bank
pub AreSound-set : (bank : List Counting) (m s : ℕ) → AreSound bank → m < length bank → s < alphabet_size (model_at bank m) → AreSound (set bank m (after_symbol (model_at bank m) s))
AreSound-set bank m s h within symbol i inside =
    ⊎_elim
    (λ (same : i ≡ m). rw (same, get_or-set_same bank m (after_symbol (model_at bank m) s) (new_model 2) within) (IsSound-after_symbol (model_at bank m) s (h m within) symbol))
    (λ (ne : i ≡ m → ⊥). rw (get_or-set_other bank m i (after_symbol (model_at bank m) s) (new_model 2) ne) (h i (omega (arith, inside, length-set bank m (after_symbol (model_at bank m) s)))))
    (cases_eq i m)

pub AreSound-new_model : (sizes : List ℕ) → All (λ n. (2 ≤ n) × (n ≤ 2048)) sizes → AreSound (map new_model sizes)
AreSound-new_model sizes range i within =
    let inside : i < length sizes = omega (arith, within, length-map sizes new_model) in
    let size = All-get_or (λ (n : ℕ). (2 ≤ n) × (n ≤ 2048)) sizes i 0 inside range in
    rw (get_or-map new_model sizes i 0 (new_model 2) inside) (IsSound-new_model (get_or sizes i 0) size.0 size.1)

-- ---- what the cells of a model hold is sound
pub IsSound-state : (p : Place) (cells : List ℕ) → IsModel p cells → IsSound (counting_of p cells)
IsSound-state p cells model =
    ⊎_elim {C = IsSound (counting_of p cells)}
    (λ (first : p.remaining ≡ 0). rw (counting_of-first p cells first) (IsSound-new_model p.size model.shape.many model.shape.few))
    (λ (laid : p.remaining ≡ 0 → ⊥).
    let some : 0 < p.remaining = omega (arith, laid) in
    let is = model.laid some in
    let size : length (take p.size cells) ≡ p.size = length-take-le p.size cells (omega (arith, model.length some)) in
    rw (counting_of-laid p cells some)
    (record {
      counts = is.counts;
      starts = rw size is.starts;
      sum = omega (arith, is.sum, is.total);
      some = is.remaining;
      within = is.within;
      four = is.four;
      cycle = omega (arith, is.cycle, size);
    }))
    (cases_eq p.remaining 0)

pub AreSound-bank : (places : List Place) (cells : List ℕ) → IsBank places cells → AreSound (map (counting_in cells) places)
AreSound-bank places cells bank m within =
    let p0 : Place = record { start = 0; end = 0; first = 0; dist = 0; size = 0; shift = 0; total = 0; cycle = 0; indexed = false; even = true; remaining = 0 } in
    let here : m < length places = omega (arith, within, length-map places (counting_in cells)) in
    rw (get_or-map (counting_in cells) places m p0 (new_model 2) here) (IsSound-state (get_or places m p0) (cells_of (get_or places m p0) cells) (bank.placed m p0 here).model)

-- ---- a model of bits is sound, whatever it counts
record IsLimited (zeros count : ℕ) (kept : ℕ × ℕ) : Type 0 where
  pub some : 1 ≤ kept.0
  pub fewer : kept.0 < kept.1
  pub few : kept.1 ≤ 8192

bit-small_counts : (zeros count : ℕ) → 1 ≤ zeros → zeros < count → count ≤ 8256 → IsLimited zeros count (small_bit_counts zeros count)
bit-small_counts zeros count some fewer few =
    ⊎_elim
    (λ (large : 8192 < count).
    ⊎_elim
    (λ (same : (zeros + 1) / 2 ≡ (count + 1) / 2).
    rw (bit-large zeros count ((count + 1) / 2 + 1) large (sym (cond-true (eqb ((zeros + 1) / 2) ((count + 1) / 2)) _ _ (eq-eqb _ _ same))))
    (record { some = omega arith; fewer = omega (arith, same); few = omega arith }))
    (λ (ne : (zeros + 1) / 2 ≡ (count + 1) / 2 → ⊥).
    rw (bit-large zeros count ((count + 1) / 2) large (sym (cond-false (eqb ((zeros + 1) / 2) ((count + 1) / 2)) _ _ (ne_eqb _ _ ne))))
    (record { some = omega arith; fewer = omega (arith, ne); few = omega arith }))
    (cases_eq ((zeros + 1) / 2) ((count + 1) / 2)))
    (λ (small : count ≤ 8192). rw (bit-small zeros count small) (record { some = some; fewer = fewer; few = small }))
    (cases_lt 8192 count)

IsBitCounting-new_cycle : (zeros count cycle : ℕ) → 1 ≤ zeros → zeros < count → count ≤ 8256 → 4 ≤ cycle → IsBitCounting (new_bit_cycle zeros count cycle)
unfolding new_bit_cycle
IsBitCounting-new_cycle zeros count cycle some fewer few four =
    let kept = bit-small_counts zeros count some fewer few in
    let bounds = p0_bounds (small_bit_counts zeros count).0 (small_bit_counts zeros count).1 kept.some kept.fewer kept.few in
    record {
      some = kept.some;
      fewer = omega (arith, kept.fewer);
      count = kept.few;
      p0_some = bounds.0;
      p0_below = bounds.1;
      remaining = omega arith;
      within = omega arith;
      four = omega arith;
      cycle = omega arith;
    }

zeros-bounds : (zeros : ℕ) (bit : Bool) → (zeros ≤ zeros_with zeros bit) × (zeros_with zeros bit ≤ zeros + 1)
zeros-bounds zeros false = (omega arith, omega arith)
zeros-bounds zeros true = (omega arith, omega arith)

pub IsBitCounting-after_bit : (m : BitCounting) (bit : Bool) → IsBitCounting m → IsBitCounting (after_bit m bit)
IsBitCounting-after_bit m bit h =
    let zeros = zeros-bounds m.zeros bit in
    ⊎_elim
    (λ (last : m.remaining ≡ 1).
    rw (after_bit-last m bit last)
    (IsBitCounting-new_cycle (zeros_with m.zeros bit) (m.count + m.cycle) m.cycle (omega (arith, h.some, zeros.0)) (omega (arith, h.fewer, zeros.1, last)) (omega (arith, h.count, h.cycle)) h.four))
    (λ (more : m.remaining ≡ 1 → ⊥).
    rw (after_bit-more m bit more)
    (record {
      some = omega (arith, h.some, zeros.0);
      fewer = omega (arith, h.fewer, zeros.1, h.remaining);
      count = h.count;
      p0_some = h.p0_some;
      p0_below = h.p0_below;
      remaining = omega (arith, more, h.remaining);
      within = omega (arith, h.within);
      four = h.four;
      cycle = h.cycle;
    }))
    (cases_eq m.remaining 1)

pub IsBitCounting-new_bit_model : IsBitCounting new_bit_model
IsBitCounting-new_bit_model = record { some = lit≤ tt; fewer = lit< tt; count = lit≤ tt; p0_some = lit< tt; p0_below = lit< tt; remaining = lit≤ tt; within = lit≤ tt; four = lit≤ tt; cycle = lit≤ tt }
