-- How many bytes a part needs, and where the bytes run out.
use Rattle.std.proofs.Common.{◌≡◌, ℕ, ◌+◌, ◌-◌, ◌*◌, ◌/◌, ◌<◌, ◌≤◌, ◌⊎◌, eqb, true, false, List, [], ◌∷◌, ◌++◌, length, Option, Some, None, refl, sym, ap, ◌∙◌, arith, ⊎_elim, inl, inr, lit≤}
use Rattle.std.proofs.lemmas.Bool.{cases_lt, cond-true, cond-false, eq-eqb, ne_eqb}
use Rattle.laz_range.specs.Cut.{Cut, Part, IsCut, AreCuts, width_in, start_in}
use Rattle.laz_range.specs.Span.{Span, IsSpan, renormal_step, subspan, bytes_for, span, initial_span}
use Rattle.laz_range.specs.Reading.{Reading, IsIn, refill_step, reading_after_part, with_byte}
use Rattle.laz_range.proofs.Spans.{renormal_step-short, renormal_step-long, renormal_step-longer}
use Rattle.laz_range.proofs.Reach.{cut-lies, after-IsSpan, initial_span-IsSpan}
use Rattle.laz_range.proofs.Whole.{after-append}
use Rattle.laz_range.proofs.Refills.{refill_step-short, refill_step-long}
use Rattle.std.proofs.lemmas.Nat.{mul-le, div-add-mod', mod_below}
use Rattle.std.proofs.lemmas.Bool.Decides.{nat_tests}

-- ---- how many bytes a length asks for
pub bytes_for-long : (len : ℕ) → 16777216 ≤ len → bytes_for len ≡ 0
unfolding bytes_for
bytes_for-long len h = grind (arith, nat_tests)

pub bytes_for-short : (len : ℕ) → 0 < len → len < 16777216 → bytes_for len ≡ 1 + bytes_for (len * 256)
unfolding bytes_for
bytes_for-short len some h = grind (arith, nat_tests)

-- ---- one byte more, or none left
pub record Refills (r m : Reading) : Type 0 where
  pub is : refill_step r ≡ Some m
  pub room : length m.rest + bytes_for r.len ≡ length r.rest + bytes_for m.len
  pub longer : (k : ℕ) → k * 256 ≤ 16777216 → k ≤ r.len → k * 256 ≤ m.len

pub record Lacks (r : Reading) : Type 0 where
  pub is : refill_step r ≡ None
  pub room : length r.rest < bytes_for r.len

byte_cases : (r : Reading) (bs : List ℕ) → 0 < r.len → r.len < 16777216 → r.rest ≡ bs → Lacks r ⊎ ((m : Reading) × Refills r m)
byte_cases r [] some short e =
    inl (record {
      is = refill_step-short r short ∙ ap (with_byte r) e;
      room = omega (arith, ap length e, bytes_for-short r.len some short);
    })
byte_cases r (b ∷ bs) some short e =
    let m : Reading = record { value = r.value * 256 + b; len = r.len * 256; rest = bs } in
    inr (
      m,
      record {
        is = refill_step-short r short ∙ ap (with_byte r) e;
        room = omega (arith, ap length e, bytes_for-short r.len some short);
        longer = λ k small h. omega (arith, h);
      },
    )

pub refill_cases : (r : Reading) → 0 < r.len → Lacks r ⊎ ((m : Reading) × Refills r m)
refill_cases r some =
    ⊎_elim
    (λ (short : r.len < 16777216). byte_cases r r.rest some short refl)
    (λ (long : 16777216 ≤ r.len). inr (r, record { is = refill_step-long r long; room = refl; longer = λ k small h. omega (arith, small, long) }))
    (cases_lt r.len 16777216)

-- ---- all that a part asks for, or not enough
pub record Enough (r : Reading) (from width : ℕ) (m : Reading) : Type 0 where
  pub is : reading_after_part r from width ≡ Some m
  pub room : bytes_for width ≤ length r.rest

pub record Short (r : Reading) (from width : ℕ) : Type 0 where
  pub is : reading_after_part r from width ≡ None
  pub room : length r.rest < bytes_for width

abbrev pub part_in : Reading → ℕ → ℕ → Reading
part_in r from width = record { value = r.value - from; len = width; rest = r.rest }

third : (r m n : Reading) (from width : ℕ) → 0 < width → Refills (part_in r from width) m → Refills m n → Short r from width ⊎ ((k : Reading) × Enough r from width k)
unfolding reading_after_part
third r m n from width some f g =
    let once : 256 ≤ m.len = f.longer 1 (lit≤ tt) some in
    let twice : 65536 ≤ n.len = g.longer 256 (lit≤ tt) once in
    ⊎_elim
    (λ (lacks : Lacks n). inl (record { is = rw (f.is, g.is) lacks.is; room = omega (arith, f.room, g.room, lacks.room) }))
    (λ (some_more : (k : Reading) × Refills n k).
    let h = some_more.1 in
    let long : 16777216 ≤ (some_more.0).len = h.longer 65536 (lit≤ tt) twice in
    inr (some_more.0, record { is = rw (f.is, g.is) h.is; room = omega (arith, f.room, g.room, h.room, bytes_for-long (some_more.0).len long) }))
    (refill_cases n (omega arith))

second : (r m : Reading) (from width : ℕ) → 0 < width → Refills (part_in r from width) m → Short r from width ⊎ ((k : Reading) × Enough r from width k)
unfolding reading_after_part
second r m from width some f =
    let once : 256 ≤ m.len = f.longer 1 (lit≤ tt) some in
    ⊎_elim
    (λ (lacks : Lacks m). inl (record { is = rw (f.is, lacks.is) refl; room = omega (arith, f.room, lacks.room) }))
    (λ (more : (n : Reading) × Refills m n). third r m more.0 from width some f more.1)
    (refill_cases m (omega arith))

pub taken_cases : (r : Reading) (from width : ℕ) → 0 < width → Short r from width ⊎ ((k : Reading) × Enough r from width k)
unfolding reading_after_part
taken_cases r from width some =
    ⊎_elim
    (λ (lacks : Lacks (part_in r from width)). inl (record { is = rw lacks.is refl; room = lacks.room }))
    (λ (more : (m : Reading) × Refills (part_in r from width) m). second r more.0 from width some more.1)
    (refill_cases (part_in r from width) some)

none_some : {A : Type 0} (o : Option A) (x : A) → o ≡ None → o ≡ Some x → ⊥
none_some {A} o x e f = let no : None ≡ Some x = sym e ∙ f in cc

pub short_of : (r : Reading) (from width : ℕ) → 0 < width → reading_after_part r from width ≡ None → length r.rest < bytes_for width
short_of r from width some e =
    ⊎_elim
    (λ (short : Short r from width). short.room)
    (λ (enough : (k : Reading) × Enough r from width k). absurd (none_some (reading_after_part r from width) enough.0 e enough.1.is))
    (taken_cases r from width some)

pub enough_for : (r m : Reading) (from width : ℕ) → 0 < width → reading_after_part r from width ≡ Some m → bytes_for width ≤ length r.rest
enough_for r m from width some e =
    ⊎_elim
    (λ (short : Short r from width). absurd (none_some (reading_after_part r from width) m short.is e))
    (λ (enough : (k : Reading) × Enough r from width k). enough.1.room)
    (taken_cases r from width some)

-- ---- digits of a span
pub shifts-renewed_is : (s : Span) → 0 < s.len → (renormal_step s).shifts + bytes_for (renormal_step s).len ≡ s.shifts + bytes_for s.len
shifts-renewed_is s some =
    ⊎_elim
    (λ (short : s.len < 16777216). rw (renormal_step-short s short) (omega (arith, bytes_for-short s.len some short)))
    (λ (long : 16777216 ≤ s.len). rw (renormal_step-long s long) refl)
    (cases_lt s.len 16777216)

pub shifts-narrowed_is : (s : Span) (from width : ℕ) → IsSpan s → 0 < width → from + width ≤ s.len → (subspan s from width).shifts ≡ s.shifts + bytes_for width
unfolding subspan
shifts-narrowed_is s from width h some within =
    let part : Span = record { low = s.low + from; len = width; shifts = s.shifts } in
    let once : 256 ≤ (renormal_step part).len = renormal_step-longer 1 part (lit≤ tt) some in
    let twice : 65536 ≤ (renormal_step (renormal_step part)).len = renormal_step-longer 256 (renormal_step part) (lit≤ tt) once in
    let thrice : 16777216 ≤ (renormal_step (renormal_step (renormal_step part))).len = renormal_step-longer 65536 (renormal_step (renormal_step part)) (lit≤ tt) twice in
    let first = shifts-renewed_is part some in
    let next = shifts-renewed_is (renormal_step part) (omega arith) in
    let last = shifts-renewed_is (renormal_step (renormal_step part)) (omega arith) in
    omega (arith, first, next, last, bytes_for-long _ thrice)

pub shifts-event : (events : List Cut) (c : Cut) → AreCuts events → IsCut c → (span (events ++ c ∷ [])).shifts ≡ (span events).shifts + bytes_for (width_in (span events).len c)
shifts-event events c all is =
    let reach = after-IsSpan initial_span events initial_span-IsSpan all in
    let lies = cut-lies c (span events).len is reach.long in
    rw (after-append initial_span events (c ∷ [])) (shifts-narrowed_is (span events) (start_in (span events).len c) (width_in (span events).len c) reach lies.0 lies.1)

-- ---- the value lies in the part that its place is in
pub place-lies : (value len lo hi : ℕ) (bytes : List ℕ) → lo < hi → hi ≤ 32768 → lo ≤ value / (len / 32768) → (hi < 32768 → value / (len / 32768) < hi) → value < len → 16777216 ≤ len
    → IsIn (record { value = value; len = len; rest = bytes }) (Part lo hi)
place-lies value len lo hi bytes part whole above below within long =
    let unit : ℕ = len / 32768 in
    let some : 0 < unit = omega arith in
    let place : ℕ = value / unit in
    let lower : lo * unit ≤ place * unit = mul-le lo unit place unit above (omega arith) in
    let floor : place * unit ≤ value = omega (arith, div-add-mod' value unit) in
    ⊎_elim
    (λ (more : hi < 32768).
    let not_last : eqb hi 32768 ≡ false = ne_eqb hi 32768 (λ e. omega (arith, e, more)) in
    let width : width_in len (Part lo hi) ≡ hi * unit - lo * unit = cond-false (eqb hi 32768) (len - lo * unit) (hi * unit - lo * unit) not_last in
    let upper : (place + 1) * unit ≤ hi * unit = mul-le (place + 1) unit hi unit (omega (arith, below more)) (omega arith) in
    let ceiling : value < (place + 1) * unit = omega (arith, div-add-mod' value unit, mod_below value unit some) in
    record { above = omega arith; below = omega (arith, width) })
    (λ (last : 32768 ≤ hi).
    let is_last : eqb hi 32768 ≡ true = eq-eqb hi 32768 (omega arith) in
    let width : width_in len (Part lo hi) ≡ len - lo * unit = cond-true (eqb hi 32768) (len - lo * unit) (hi * unit - lo * unit) is_last in
    record { above = omega arith; below = omega (arith, width) })
    (cases_lt hi 32768)
