-- A model of bits stands for the longer list after one more bit. Cited by crates above.
use Rattle.std.proofs.Common.{◌≡◌, ℕ, zero, suc, ◌+◌, ◌<◌, ◌≤◌, Bool, true, false, not, cond, List, [], ◌∷◌, ◌++◌, length, drop, refl, sym, ap, ◌∙◌, arith, lit≤, ⊎_elim, add-one}
use Rattle.std.proofs.lemmas.List.{length_push, drop-append-le, drop_all}
use Rattle.std.proofs.lemmas.List.Sums.{sum_by_push}
use Rattle.std.proofs.lemmas.Slice.{between_to_end}
use Rattle.std.proofs.lemmas.Bool.{cases_eq}
use Rattle.std.specs.List.{between}
use Rattle.laz_models.specs.BitCounting.{BitCounting, new_bit_model, after_bit, new_bit_cycle, small_bit_counts, zero_part, zeros_with, next_bit_cycle}
use Rattle.laz_models.specs.BitDist.{bit_cycle, zeros_in, bit_counts_at, BitStandsFor}
use Rattle.laz_models.specs.Cycles.{due, cycle_in}
use Rattle.laz_models.proofs.Cycling.{ends, goes_on, IsInCycle-first}
use Rattle.laz_models.proofs.BitParts.{after_bit-last, after_bit-more}
use Rattle.laz_models.proofs.Stand.{between-push}

-- a bit more among the zeros
pub zeros_in-push : (zeros : ℕ) (xs : List Bool) (b : Bool) → zeros_with (zeros + zeros_in xs) b ≡ zeros + zeros_in (xs ++ b ∷ [])
zeros_in-push zeros xs false = omega (arith, sum_by_push (λ x. cond {A = ℕ} (not x) 1 0) xs false)
zeros_in-push zeros xs true = omega (arith, sum_by_push (λ x. cond {A = ℕ} (not x) 1 0) xs true)

pub bit_cycle-four : (j : ℕ) → 4 ≤ bit_cycle j
bit_cycle-four zero = lit≤ tt
bit_cycle-four (suc j) = omega (arith, bit_cycle-four j)

-- bits after the cycle change nothing
pub bit_counts_at-push : (h : List Bool) (j : ℕ) (b : Bool) → due bit_cycle j ≤ length h → bit_counts_at (h ++ b ∷ []) j ≡ bit_counts_at h j
unfolding bit_counts_at
bit_counts_at-push h zero b within = refl
bit_counts_at-push h (suc j) b within =
    let before : due bit_cycle j ≤ length h = omega arith in
    rw (bit_counts_at-push h j b before, between-push (due bit_cycle j) (due bit_cycle (suc j)) h b within) refl

-- ---- one bit more
pub bit_cycle-some : (j : ℕ) → 0 < bit_cycle j
bit_cycle-some j = omega (arith, bit_cycle-four j)

bit_cycle-more : (j : ℕ) → bit_cycle (j + 1) ≡ next_bit_cycle (bit_cycle j)
bit_cycle-more j = ap bit_cycle (add-one j)

bit_counts_at-more : (h : List Bool) (j : ℕ) → bit_counts_at h (j + 1) ≡ small_bit_counts ((bit_counts_at h j).0 + zeros_in (between (due bit_cycle j) (due bit_cycle (j + 1)) h)) ((bit_counts_at h j).1 + bit_cycle j)
unfolding bit_counts_at
bit_counts_at-more h j = rw add-one refl

pub BitStandsFor-push : (h : List Bool) (b : Bool) (m : BitCounting) → BitStandsFor h m → BitStandsFor (h ++ b ∷ []) (after_bit m b)
unfolding new_bit_cycle
BitStandsFor-push h b m stands =
    let c : ℕ → ℕ = bit_cycle in
    let j : ℕ = cycle_in c (length h) in
    let len : length (h ++ b ∷ []) ≡ suc (length h) = length_push h b ∙ add-one (length h) in
    let counts = bit_counts_at-push h j b stands.in_cycle.begun in
    let rest : drop (due c j) (h ++ b ∷ []) ≡ drop (due c j) h ++ b ∷ [] = drop-append-le (due c j) h (b ∷ []) stands.in_cycle.begun in
    let now : zeros_with m.zeros b ≡ (bit_counts_at h j).0 + zeros_in (drop (due c j) (h ++ b ∷ [])) =
    ap (λ z. zeros_with z b) stands.zeros ∙ (zeros_in-push (bit_counts_at h j).0 (drop (due c j) h) b ∙ ap (λ xs. (bit_counts_at h j).0 + zeros_in xs) (sym rest)) in
    ⊎_elim
    (λ (last : m.remaining ≡ 1).
    let e = ends c (length h) m.cycle m.remaining bit_cycle-some stands.in_cycle last in
    let next : cycle_in c (length (h ++ b ∷ [])) ≡ j + 1 = ap (cycle_in c) len ∙ e.ends in
    let to_end : between (due c j) (due c (j + 1)) (h ++ b ∷ []) ≡ drop (due c j) (h ++ b ∷ []) = between_to_end (h ++ b ∷ []) (due c j) (due c (j + 1)) (omega (arith, e.whole, len)) in
    let limit : small_bit_counts (zeros_with m.zeros b) (m.count + m.cycle) ≡ bit_counts_at (h ++ b ∷ []) (j + 1) =
    sym (bit_counts_at-more (h ++ b ∷ []) j ∙ rw (counts, to_end, now, stands.count, stands.in_cycle.is) refl) in
    let long : next_bit_cycle m.cycle ≡ c (j + 1) = ap next_bit_cycle stands.in_cycle.is ∙ sym (bit_cycle-more j) in
    let none : drop (due c (j + 1)) (h ++ b ∷ []) ≡ [] = drop_all (due c (j + 1)) (h ++ b ∷ []) (omega (arith, e.whole, len)) in
    rw (after_bit-last m b last)
    (record {
      in_cycle = rw (len, long) e.next;
      zeros = rw (next, none) (ap (λ c. c.0) limit ∙ omega arith);
      count = rw next (ap (λ c. c.1) limit);
      p0 = rw next (ap zero_part limit);
    }))
    (λ (more : m.remaining ≡ 1 → ⊥).
    let g = goes_on c (length h) m.cycle m.remaining stands.in_cycle more in
    let stays : cycle_in c (length (h ++ b ∷ [])) ≡ j = ap (cycle_in c) len ∙ g.same in
    rw (after_bit-more m b more)
    (record {
      in_cycle = rw len g.next;
      zeros = rw (stays, counts) now;
      count = rw (stays, counts) stands.count;
      p0 = rw (stays, counts) stands.p0;
    }))
    (cases_eq m.remaining 1)

pub BitStandsFor-new_bit_model : BitStandsFor [] new_bit_model
unfolding bit_counts_at cycle_in
BitStandsFor-new_bit_model =
    record {
      in_cycle = IsInCycle-first bit_cycle (bit_cycle-some 0);
      zeros = refl;
      count = refl;
      p0 = refl;
    }
