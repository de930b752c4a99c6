-- Two parts that follow each other, one of which the value lies in.
use Rattle.std.proofs.Common.{◌≡◌, ℕ, ◌-◌, ◌*◌, ◌/◌, ◌<◌, ◌≤◌, min, Bool, true, false, leb, eqb, cond, sym, ap, ◌∙◌, arith, ⊎_elim}
use Rattle.std.proofs.lemmas.Nat.{le-div, div_below, mul-le}
use Rattle.std.proofs.lemmas.Bool.{cases_lt, cond-true, cond-false, eq-eqb, ne_eqb, le-leb, lt-leb}
use Rattle.laz_range.specs.declared.input.Input.{Input}
use Rattle.laz_range.specs.Cut.{Part, Bit, IsCut, width_in}
use Rattle.laz_range.specs.Reading.{IsIn}
use Rattle.laz_range.specs.Input.{input_reading}
use Rattle.laz_range.specs.Search.{AreTwo, part_of_two}

-- a place, by a product
pub by-product : (n unit value : ℕ) → 0 < unit → leb (n * unit) value ≡ leb n (value / unit)
by-product n unit value some =
    ⊎_elim
    (λ (below : value < n * unit). lt-leb (n * unit) value below ∙ sym (lt-leb n (value / unit) (div_below value unit n some below)))
    (λ (above : n * unit ≤ value). le-leb (n * unit) value above ∙ sym (le-leb n (value / unit) (le-div n value unit some above)))
    (cases_lt value (n * unit))

-- how long a part is that ends at a start or at a guard
pub width-part : (lo hi len : ℕ) → 16777216 ≤ len → (32768 ≤ hi → 65535 ≤ hi) → min (hi * (len / 32768)) len - lo * (len / 32768) ≡ width_in len (Part lo (min hi 32768))
width-part lo hi len long guard =
    let unit : ℕ = len / 32768 in
    ⊎_elim
    (λ (inner : hi < 32768).
    let most : hi * unit ≤ 32768 * unit = mul-le hi unit 32768 unit (omega arith) (omega arith) in
    let small : min hi 32768 ≡ hi = omega arith in
    let not_last : eqb (min hi 32768) 32768 ≡ false = ne_eqb (min hi 32768) 32768 (λ e. omega (arith, e)) in
    let width : width_in len (Part lo (min hi 32768)) ≡ min hi 32768 * unit - lo * unit = cond-false (eqb (min hi 32768) 32768) (len - lo * unit) (min hi 32768 * unit - lo * unit) not_last in
    let whole : min (hi * unit) len ≡ hi * unit = omega (arith, most) in
    ap (λ x. x - lo * unit) (whole ∙ ap (λ x. x * unit) (sym small)) ∙ sym width)
    (λ (last : 32768 ≤ hi).
    let least : 65535 * unit ≤ hi * unit = mul-le 65535 unit hi unit (guard last) (omega arith) in
    let is_last : eqb (min hi 32768) 32768 ≡ true = eq-eqb (min hi 32768) 32768 (omega arith) in
    let width : width_in len (Part lo (min hi 32768)) ≡ len - lo * unit = cond-true (eqb (min hi 32768) 32768) (len - lo * unit) (min hi 32768 * unit - lo * unit) is_last in
    let whole : min (hi * unit) len ≡ len = omega (arith, least) in
    ap (λ x. x - lo * unit) whole ∙ sym width)
    (cases_lt hi 32768)

pub width-two : (second : Bool) (start next after len : ℕ) → 16777216 ≤ len → AreTwo start next after
    → min (cond second (after * (len / 32768)) (next * (len / 32768))) len - cond second (next * (len / 32768)) (start * (len / 32768)) ≡ width_in len (part_of_two start next after second)
width-two true start next after len long two = width-part next after len long two.last
width-two false start next after len long two = width-part start next len long (λ h. (two.guard h).0)

-- the chosen part is lawful
pub IsCut-two : (start next after value : ℕ) → AreTwo start next after → value < after → value < 65535 → IsCut (part_of_two start next after (leb next value))
IsCut-two start next after value two below small =
    ⊎_elim
    (λ (first : value < next). rw (lt-leb next value first) (omega (arith, two.first, two.order), omega arith))
    (λ (second : next ≤ value).
    let inner : next < 32768 =
    ⊎_elim
    (λ (less : next < 32768). less)
    (λ (more : 32768 ≤ next). absurd (omega (arith, (two.guard more).0, second, small)))
    (cases_lt next 32768) in
    rw (le-leb next value second) (omega (arith, inner, two.second inner), omega arith))
    (cases_lt value next)

-- a place is below a guard
pub place-small : (value len : ℕ) → value < len → 16777216 ≤ len → value / (len / 32768) < 65535
place-small value len below long = div_below value (len / 32768) 65535 (omega arith) (omega arith)

-- ---- bits
-- the value lies in the part of the bit that it gives
pub bit-lies : (i : Input) (p0 : ℕ) → i.value < i.length → IsIn (input_reading i) (Bit p0 (leb (p0 * (i.length / 8192)) i.value))
bit-lies i p0 below =
    let split : ℕ = p0 * (i.length / 8192) in
    ⊎_elim
    (λ (zero : i.value < split). rw (lt-leb split i.value zero) (record { above = omega arith; below = omega (arith, zero) }))
    (λ (one : split ≤ i.value). rw (le-leb split i.value one) (record { above = one; below = omega (arith, one, below) }))
    (cases_lt i.value split)
