-- A look-up table from its marks.
use Rattle.std.proofs.Common.{◌≡◌, ℕ, ◌+◌, ◌-◌, ◌*◌, ◌^◌, ◌<◌, ◌≤◌, List, length, get_or, max, ap, arith, ⊎_elim}
use Rattle.std.proofs.lemmas.Nat.{pow_pos, div_below}
use Rattle.std.proofs.lemmas.Bool.{cases_lt}
use Rattle.laz_models.specs.Lookup.{AreMarked, HaveBegun, IsLastAt, first_entry}

-- a part that has begun at an entry's place is marked there or before
pub entry-le : (start shift t : ℕ) → start ≤ t * 2 ^ shift → first_entry start shift ≤ t
entry-le start shift t h =
    let unit : ℕ = 2 ^ shift in
    let some : 0 < unit = pow_pos shift in
    let below : first_entry start shift < t + 1 = div_below (start + (unit - 1)) unit (t + 1) some (omega (arith, some, h)) in
    omega (arith, below)

-- the greatest symbol that was marked up to an entry
pub record Greatest (starts : List ℕ) (shift t y : ℕ) : Type 0 where
  pub symbol : y < length starts
  pub start : get_or starts y 0 ≤ t * 2 ^ shift
  pub greatest : (k : ℕ) → k < length starts → first_entry (get_or starts k 0) shift < t + 1 → k ≤ y

abbrev pub Before : List ℕ → ℕ → ℕ → ℕ → Type 0
Before starts shift t last = (k : ℕ) → k < length starts → first_entry (get_or starts k 0) shift < t → k ≤ last

marked-le : (starts init : List ℕ) (shift t last x y : ℕ) → AreMarked (length starts) starts shift init → t < length init → x ≡ get_or init t 0 → x ≤ y → last ≤ y → Before starts shift t last
    → (k : ℕ) → k < length starts → first_entry (get_or starts k 0) shift < t + 1 → k ≤ y
marked-le starts init shift t last x y marked inside is first second before k symbol entry =
    let e : ℕ = first_entry (get_or starts k 0) shift in
    ⊎_elim
    (λ (less : e < t). omega (arith, before k symbol less, second))
    (λ (more : t ≤ e).
    let same : e ≡ t = omega (arith, more, entry) in
    let here : k ≤ get_or init e 0 = marked k symbol (omega (arith, same, inside)) in
    omega (arith, here, ap (λ i. get_or init i 0) same, is, first))
    (cases_lt e t)

pub greatest-of : (starts init : List ℕ) (shift t last x y : ℕ) → HaveBegun starts shift init → AreMarked (length starts) starts shift init → t < length init → x ≡ get_or init t 0 → y ≡ max x last
    → last < length starts → get_or starts last 0 ≤ t * 2 ^ shift → Before starts shift t last → Greatest starts shift t y
greatest-of starts init shift t last x y begun marked inside is max_is symbol start before =
    let here = begun t inside in
    let small : x < length starts = omega (arith, is, here.0) in
    let began : get_or starts x 0 ≤ t * 2 ^ shift = rw is here.1 in
    ⊎_elim
    (λ (less : x < last).
    let same : y ≡ last = omega (arith, max_is, less) in
    rw same (record { symbol = symbol; start = start; greatest = marked-le starts init shift t last x last marked inside is (omega (arith, less)) (omega arith) before }))
    (λ (more : last ≤ x).
    let same : y ≡ x = omega (arith, max_is, more) in
    rw same (record { symbol = small; start = began; greatest = marked-le starts init shift t last x x marked inside is (omega arith) more before }))
    (cases_lt x last)

-- it is the last one that has begun there
pub last-greatest : (starts : List ℕ) (shift t y : ℕ) → Greatest starts shift t y → IsLastAt starts (t * 2 ^ shift) y
last-greatest starts shift t y g =
    record {
      symbol = g.symbol;
      start = g.start;
      greatest = λ k symbol begun. g.greatest k symbol (omega (arith, entry-le (get_or starts k 0) shift t begun));
    }
