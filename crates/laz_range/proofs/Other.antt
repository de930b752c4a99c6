-- Two events of one kind: they are equal, or their parts are disjoint.
use Rattle.std.proofs.Common.{◌≡◌, ◌≢◌, Bool, ℕ, ◌+◌, ◌-◌, ◌*◌, ◌/◌, ◌^◌, ◌<◌, ◌≤◌, true, false, eqb, List, Some, None, ◌⊎◌, refl, ap, arith, ⊎_elim, inl, inr}
use Rattle.std.proofs.lemmas.Bool.{cases_lt, cases_eq, cond-false, ne_eqb}
use Rattle.std.proofs.lemmas.Nat.{mul-le}
use Rattle.laz_range.specs.Cut.{Cut, Part, Bit, Raw, IsCut, AreAlike, start_in, width_in}
use Rattle.laz_range.specs.Span.{Span, cut, Begins, IsBytes}
use Rattle.laz_range.specs.Reading.{Reading, follow, IsIn}
use Rattle.laz_range.proofs.Refills.{follow-below, follow-above, IsIn-followed}
use Rattle.laz_range.proofs.Begin.{Begins-subspan}

-- two events of one kind that cannot both come
abbrev pub IsOther : Cut → Cut → Type 0
IsOther (Part lo hi) (Part low high) = (hi ≤ low) ⊎ (high ≤ lo)
IsOther (Bit p bit) (Bit q other) = (p ≡ q) × (bit ≢ other)
IsOther (Raw b v) (Raw c w) = (b ≡ c) × (v ≢ w)
IsOther c d = ⊥

same_part : (lo hi low high : ℕ) → lo ≡ low → hi ≡ high → Part lo hi ≡ Part low high
same_part lo hi low high e f = cc

same_bit : (p q : ℕ) (bit other : Bool) → p ≡ q → bit ≡ other → Bit p bit ≡ Bit q other
same_bit p q bit other e f = cc

same_raw : (b v c w : ℕ) → b ≡ c → v ≡ w → Raw b v ≡ Raw c w
same_raw b v c w e f = cc

not_equal : (p q : Bool) → (p ≡ q) ⊎ (p ≢ q)
not_equal false false = inl refl
not_equal false true = inr (λ e. cc)
not_equal true false = inr (λ e. cc)
not_equal true true = inl refl

-- events of one kind are equal, or cannot both come
pub alike_cases : (c d : Cut) → AreAlike c d → (c ≡ d) ⊎ IsOther c d
alike_cases (Part lo hi) (Part low high) h =
    ⊎_elim
    (λ (same : (lo ≡ low) × (hi ≡ high)). inl (same_part lo hi low high same.0 same.1))
    (λ (other : (hi ≤ low) ⊎ (high ≤ lo)). inr other)
    h
alike_cases (Bit p bit) (Bit q other) h =
    ⊎_elim
    (λ (same : bit ≡ other). inl (same_bit p q bit other h same))
    (λ (ne : bit ≢ other). inr (h, ne))
    (not_equal bit other)
alike_cases (Raw b v) (Raw c w) h =
    ⊎_elim
    (λ (same : v ≡ w). inl (same_raw b v c w h same))
    (λ (ne : v ≡ w → ⊥). inr (h, ne))
    (cases_eq v w)
alike_cases (Part lo hi) (Bit q bit) h = absurd h
alike_cases (Part lo hi) (Raw c w) h = absurd h
alike_cases (Bit p bit) (Part low high) h = absurd h
alike_cases (Bit p bit) (Raw c w) h = absurd h
alike_cases (Raw b v) (Part low high) h = absurd h
alike_cases (Raw b v) (Bit q bit) h = absurd h

-- the end of a part that is not the last
end_part : (lo hi len : ℕ) → lo < hi → hi < 32768 → start_in len (Part lo hi) + width_in len (Part lo hi) ≡ hi * (len / 32768)
end_part lo hi len part more =
    let not_last : eqb hi 32768 ≡ false = ne_eqb hi 32768 (λ e. omega arith) in
    let lower : lo * (len / 32768) ≤ hi * (len / 32768) = mul-le lo (len / 32768) hi (len / 32768) (omega arith) (omega arith) in
    rw (cond-false (eqb hi 32768) (len - lo * (len / 32768)) (hi * (len / 32768) - lo * (len / 32768)) not_last) (omega arith)

-- the parts of two such events are apart
abbrev pub AreApart : ℕ → Cut → Cut → Type 0
AreApart len c d = (start_in len c + width_in len c ≤ start_in len d) ⊎ (start_in len d + width_in len d ≤ start_in len c)

part_before : (lo hi low high len : ℕ) → lo < hi → low < high → high ≤ 32768 → hi ≤ low → start_in len (Part lo hi) + width_in len (Part lo hi) ≤ start_in len (Part low high)
part_before lo hi low high len part part' whole order =
    omega (arith, end_part lo hi len part (omega arith), mul-le hi (len / 32768) low (len / 32768) order (omega arith))

pub apart : (len : ℕ) (c d : Cut) → IsCut c → IsCut d → IsOther c d → AreApart len c d
apart len (Part lo hi) (Part low high) h k other =
    ⊎_elim
    (λ (before : hi ≤ low). inl (part_before lo hi low high len h.0 k.0 k.1 before))
    (λ (behind : high ≤ lo). inr (part_before low high lo hi len k.0 h.0 h.1 behind))
    other
apart len (Bit p false) (Bit q false) h k other = absurd (other.1 refl)
apart len (Bit p false) (Bit q true) h k other = inl (rw other.0 (omega arith))
apart len (Bit p true) (Bit q false) h k other = inr (rw other.0 (omega arith))
apart len (Bit p true) (Bit q true) h k other = absurd (other.1 refl)
apart len (Raw b v) (Raw c w) h k other =
    let same : len / 2 ^ b ≡ len / 2 ^ c = ap (λ n. len / 2 ^ n) other.0 in
    ⊎_elim
    (λ (less : v < w). inl (rw same (omega (arith, mul-le (v + 1) (len / 2 ^ c) w (len / 2 ^ c) (omega arith) (omega arith)))))
    (λ (more : w ≤ v). inr (rw same (omega (arith, other.1, mul-le (w + 1) (len / 2 ^ c) v (len / 2 ^ c) (omega (arith, other.1)) (omega arith)))))
    (cases_lt v w)
apart len (Part lo hi) (Bit q bit) h k other = absurd other
apart len (Part lo hi) (Raw c w) h k other = absurd other
apart len (Bit p bit) (Part low high) h k other = absurd other
apart len (Bit p bit) (Raw c w) h k other = absurd other
apart len (Raw b v) (Part low high) h k other = absurd other
apart len (Raw b v) (Bit q bit) h k other = absurd other

-- if one of them begins what is left, the other does not
pub follow-other : (r s : Reading) (c d : Cut) → IsCut c → IsCut d → IsOther c d → follow r c ≡ Some s → follow r d ≡ None
follow-other r s c d h k other e =
    let lies = IsIn-followed r s c e in
    ⊎_elim
    (λ (before : start_in r.len c + width_in r.len c ≤ start_in r.len d). follow-below r d (omega (arith, lies.below)))
    (λ (behind : start_in r.len d + width_in r.len d ≤ start_in r.len c). follow-above r d (omega (arith, lies.above)))
    (apart r.len c d h k other)

-- no bytes are begun by both
pub Begins-other : (s : Span) (c d : Cut) (bytes : List ℕ) → IsBytes bytes → IsCut c → IsCut d → IsOther c d → Begins (cut s c) bytes → Begins (cut s d) bytes → ⊥
Begins-other s c d bytes b h k other f g =
    let one = Begins-subspan s (start_in s.len c) (width_in s.len c) bytes b f in
    let two = Begins-subspan s (start_in s.len d) (width_in s.len d) bytes b g in
    ⊎_elim
    (λ (before : start_in s.len c + width_in s.len c ≤ start_in s.len d). omega (arith, one.high, two.low))
    (λ (behind : start_in s.len d + width_in s.len d ≤ start_in s.len c). omega (arith, two.high, one.low))
    (apart s.len c d h k other)

pub follow-apart : (r : Reading) (c d : Cut) → IsCut c → IsCut d → IsOther c d → IsIn r c → follow r d ≡ None
follow-apart r c d h k other lies =
    ⊎_elim
    (λ (before : start_in r.len c + width_in r.len c ≤ start_in r.len d). follow-below r d (omega (arith, lies.below)))
    (λ (behind : start_in r.len d + width_in r.len d ≤ start_in r.len c). follow-above r d (omega (arith, lies.above)))
    (apart r.len c d h k other)
