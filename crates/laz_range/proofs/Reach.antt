-- The spans that the coder reaches, and the bytes that end a stream.
use Rattle.std.proofs.Common.{◌≡◌, ℕ, zero, suc, ◌+◌, ◌-◌, ◌*◌, ◌/◌, ◌%◌, ◌^◌, ◌<◌, ◌≤◌, true, false, eqb, List, [], ◌∷◌, length, refl, sym, ap, ◌∙◌, arith, ⊎_elim, lit≤, lit<, subst}
use Rattle.std.proofs.Math.Nat.{one-le-pow}
use Rattle.std.proofs.lemmas.Bool.{cond_both, cases_lt, cond_below, cond_above}
use Rattle.std.proofs.lemmas.Nat.{mul-le, div-add-mod', mod_below}
use Rattle.std.specs.List.{AllByRecursion}
use Rattle.laz_range.specs.Cut.{Cut, Part, Bit, Raw, IsCut, start_in, width_in}
use Rattle.laz_range.specs.Span.{Span, IsSpan, after, initial_span, cut, final_number, digits, number, bytes_of, Fits}
use Rattle.laz_range.proofs.Numbers.{number-cons}
use Rattle.laz_range.proofs.Cuts.{raw_some, raw_lies}
use Rattle.laz_range.proofs.Spans.{subspan-IsSpan}

-- a part has some length, and lies within
abbrev pub Lies : ℕ → ℕ → ℕ → Type 0
Lies len from width = (0 < width) × (from + width ≤ len)

part-lies : (lo hi len unit : ℕ) → unit ≡ len / 32768 → lo < hi → hi ≤ 32768 → 16777216 ≤ len → Lies len (lo * unit) (len - lo * unit) × Lies len (lo * unit) (hi * unit - lo * unit)
part-lies lo hi len unit e part whole long =
    let some : 512 ≤ unit = omega arith in
    let lower : (lo + 1) * unit ≤ hi * unit = mul-le (lo + 1) unit hi unit (omega arith) (omega arith) in
    let upper : hi * unit ≤ 32768 * unit = mul-le hi unit 32768 unit whole (omega arith) in
    let all : 32768 * unit ≤ len = omega arith in
    ((omega arith, omega arith), (omega arith, omega arith))

chance-lies : (p0 len unit : ℕ) → unit ≡ len / 8192 → 0 < p0 → p0 < 8192 → 16777216 ≤ len → Lies len 0 (p0 * unit) × Lies len (p0 * unit) (len - p0 * unit)
chance-lies p0 len unit e some part long =
    let much : 2048 ≤ unit = omega arith in
    let lower : 1 * unit ≤ p0 * unit = mul-le 1 unit p0 unit some (omega arith) in
    let upper : (p0 + 1) * unit ≤ 8192 * unit = mul-le (p0 + 1) unit 8192 unit (omega arith) (omega arith) in
    let all : 8192 * unit ≤ len = omega arith in
    ((omega arith, omega arith), (omega arith, omega arith))

pub cut-lies : (c : Cut) (len : ℕ) → IsCut c → 16777216 ≤ len → Lies len (start_in len c) (width_in len c)
cut-lies (Part lo hi) len h long =
    let both = part-lies lo hi len (len / 32768) refl h.0 h.1 long in
    cond_both (eqb hi 32768) _ _ (Lies len (lo * (len / 32768))) (λ e. both.0) (λ e. both.1)
cut-lies (Bit p0 false) len h long = (chance-lies p0 len (len / 8192) refl h.0 h.1 long).0
cut-lies (Bit p0 true) len h long = (chance-lies p0 len (len / 8192) refl h.0 h.1 long).1
cut-lies (Raw b v) len h long = (raw_some len b h.1 long, raw_lies len b v h.2)

pub cut-IsSpan : (s : Span) (c : Cut) → IsSpan s → IsCut c → IsSpan (cut s c)
cut-IsSpan s c h k =
    let lies = cut-lies c s.len k h.long in
    subspan-IsSpan s (start_in s.len c) (width_in s.len c) h lies.0 lies.1

pub after-IsSpan : (s : Span) (cs : List Cut) → IsSpan s → AllByRecursion IsCut cs → IsSpan (after s cs)
after-IsSpan s [] h k = h
after-IsSpan s (c ∷ cs) h k = after-IsSpan (cut s c) cs (cut-IsSpan s c h k.0) k.1

pub initial_span-IsSpan : IsSpan initial_span
initial_span-IsSpan = record { long = lit≤ tt; short = lit< tt; within = lit≤ tt }

-- ---- the digits of a number
pub length-digits : (n v : ℕ) → length (digits n v) ≡ n
length-digits zero v = refl
length-digits (suc n) v = ap suc (length-digits n (v % 256 ^ n))

pub number-digits : (n v : ℕ) → v < 256 ^ n → number (digits n v) ≡ v
number-digits zero v h = omega arith
number-digits (suc n) v h =
    let positive : 0 < 256 ^ n = one-le-pow n 256 (lit< tt) in
    number-cons (v / 256 ^ n) (digits n (v % 256 ^ n))
    ∙ rw (length-digits, number-digits n (v % 256 ^ n) (mod_below v (256 ^ n) positive)) (div-add-mod' v (256 ^ n))

pub last-within : (s : Span) → IsSpan s → (s.low ≤ final_number s) × (final_number s < s.low + s.len)
last-within s h =
    ⊎_elim
    (λ (long : 33554432 < s.len). let P : ℕ → Type 0 = λ v. (s.low ≤ v) × (v < s.low + s.len) in subst P (cond_below 33554432 s.len _ _ long) (omega arith, omega (arith, long)))
    (λ (short : s.len ≤ 33554432). let P : ℕ → Type 0 = λ v. (s.low ≤ v) × (v < s.low + s.len) in subst P (cond_above 33554432 s.len _ _ _ short refl) (omega arith, omega (arith, h.long)))
    (cases_lt 33554432 s.len)

pub bytes-fit : (s : Span) → IsSpan s → Fits s (bytes_of s)
bytes-fit s h =
    let within = last-within s h in
    let number_is : number (bytes_of s) ≡ final_number s = number-digits (s.shifts + 4) (final_number s) (omega (arith, h.within, within.1)) in
    record { length = sym (length-digits (s.shifts + 4) (final_number s)); low = omega (arith, within.0, number_is); high = omega (arith, within.1, number_is) }
