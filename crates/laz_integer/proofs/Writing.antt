-- Which corrector a writer takes: it is one, and its events spell the integer. Meant for the crates of items, too.
use Rattle.std.proofs.Common.{◌≡◌, ℕ, ℤ, ◌-◌, ◌*◌, ◌^◌, ◌<◌, ◌≤◌, List, subst, ap, ◌∙◌, arith, ⊎_elim, cond, ltb, refl}
use Rattle.std.proofs.lemmas.Bool.{cases_lt, cond-true, cond-false, lt-ltb, le-ltb}
use Rattle.std.proofs.lemmas.Nat.{pow_pos}
use Rattle.std.specs.Int.{w32}
use lib.Count.{count_leading_zeros}
use mir.Val.{SFits}
use Rattle.laz_integer.specs.Corrector.{difference, width_of, corrector_index, HasBits}
use Rattle.laz_integer.specs.Integer.{IntSpell, IntEvents, IsCorrector, int_width}
use Rattle.laz_integer.specs.Fields.{int_corrector}
use Rattle.laz_integer.proofs.Correctors.{IsSplit, split-any, split-full, digits-all, power-le, twice}
use Rattle.laz_integer.proofs.Spellings.{written-spells, corrected-is, word_of}

split-all : (bits d : ℕ) → 1 ≤ bits → bits ≤ 32 → d < 2 ^ bits → (k : ℕ) × (v : ℕ) × IsSplit bits d k v
split-all bits d some few fits =
    let half : ℕ = 2 ^ (bits - 1) in
    let full : 2 ^ bits ≡ 2 * half = twice bits some in
    let most : half ≤ 2 ^ 31 = power-le (bits - 1) 31 (omega arith) in
    let size : ℕ = cond (ltb d half) (d - 1) (half - (d - half)) in
    let up : d < half → size ≡ d - 1 = λ h. cond-true (ltb d half) _ _ (lt-ltb d half h) in
    let down : half ≤ d → size ≡ half - (d - half) = λ h. cond-false (ltb d half) _ _ (le-ltb d half h) in
    let small : size ≤ half = ⊎_elim (λ (less : d < half). omega (arith, up less)) (λ (more : half ≤ d). omega (arith, down more)) (cases_lt d half) in
    let digits = digits-all size (omega (arith, small, most)) in
    let k : ℕ = 32 - count_leading_zeros 32 size in
    ⊎_elim
    (λ (short : k < 32).
    ⊎_elim
    (λ (less : d < half).
    let v : ℕ = cond (ltb 0 k) (d - 1) d in
    let is : IsSplit bits d k v = split-any bits k size v d some few fits up down short digits.none digits.least digits.above digits.is
    (λ h zero_is. cond-false (ltb 0 k) _ _ (le-ltb 0 k (omega (arith, zero_is))))
    (λ h one some. cond-true (ltb 0 k) _ _ (lt-ltb 0 k one))
    (λ h. absurd (omega (arith, h, less))) in
    (k, v, is))
    (λ (more : half ≤ d).
    (k, 2 ^ k - 1 - size, split-any bits k size (2 ^ k - 1 - size) d some few fits up down short digits.none digits.least digits.above digits.is (λ h. absurd (omega (arith, h, more))) (λ h. absurd (omega (arith, h, more))) (λ h. refl)))
    (cases_lt d half))
    (λ (long : 32 ≤ k).
    let whole : k ≡ 32 = omega (arith, long) in
    (32, 0, split-full bits k size d some few fits up down whole (digits.least (omega (arith, long))) digits.is))
    (cases_lt k 32)

-- ---- width and place of a difference
pub splits : (bits d : ℕ) → 1 ≤ bits → bits ≤ 32 → d < 2 ^ bits → IsSplit bits d (width_of bits d) (corrector_index bits d (width_of bits d))
splits bits d some few fits =
    let r = split-all bits d some few fits in
    let v : r.1 ≡ corrector_index bits d (width_of bits d) = r.2.index ∙ ap (λ n. corrector_index bits d n) r.2.width in
    subst (λ (k : ℕ). IsSplit bits d k (corrector_index bits d (width_of bits d))) r.2.width (subst (λ (v : ℕ). IsSplit bits d r.0 v) v r.2)

difference-fits : (bits : ℕ) (pred real : ℤ) → difference bits pred real < 2 ^ bits
difference-fits bits pred real = let some = pow_pos bits in omega arith

pub written-splits : (bits : ℕ) (pred real : ℤ) → 1 ≤ bits → bits ≤ 32 → IsSplit bits (difference bits pred real) (int_corrector bits pred real).0 (int_corrector bits pred real).1
written-splits bits pred real some few = splits bits (difference bits pred real) some few (difference-fits bits pred real)

pub IsCorrector-written : (bits : ℕ) (pred real : ℤ) → 1 ≤ bits → bits ≤ 32 → IsCorrector bits (int_corrector bits pred real)
IsCorrector-written bits pred real some few = let r = written-splits bits pred real some few in (r.digits, r.value)

-- ---- the events of a writer spell the integer
pub spells-written : (kind : List ℕ) (bits ctx : ℕ) (pred real : ℤ) → 1 ≤ bits → bits ≤ 32 → SFits w32 pred → SFits w32 real → HasBits bits real
    → IntSpell kind bits ctx pred (IntEvents kind bits ctx pred real) real (int_width bits pred real)
spells-written kind bits ctx pred real some few f g h =
    let r = written-splits bits pred real some few in
    written-spells kind bits ctx pred real (int_corrector bits pred real).0 (int_corrector bits pred real).1 r.digits r.value (refl, refl)
    (corrected-is bits pred real (int_corrector bits pred real).0 (int_corrector bits pred real).1 few g (word_of pred f) h r.makes)
