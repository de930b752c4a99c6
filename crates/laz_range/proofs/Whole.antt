-- Lists of events from the first byte on. Cited by crates above.
use Rattle.std.proofs.Common.{◌≡◌, ℕ, ◌-◌, ◌<◌, ◌≤◌, List, [], ◌∷◌, ◌++◌, length, take, drop, Some, None, leb, ltb, ◌&&◌, refl, sym, ap, ◌∙◌, arith, ⊎_elim, length-append}
use Rattle.std.specs.Option.{SomeIff, option_and_then}
use Rattle.std.proofs.lemmas.Bool.{cases_lt, cond-true, cond-false, and_from, and_left, and_right, le-leb, lt-leb, lt-ltb, le-ltb}
use Rattle.std.specs.List.{AllByRecursion}
use Rattle.laz_range.specs.Cut.{Cut, IsCut, AreAlike}
use Rattle.laz_range.specs.Span.{Span, IsSpan, after, initial_span, cut, number, Begins, IsBytes}
use Rattle.laz_range.specs.Coding.{Coding, Codes, CodesInSteps}
use Rattle.laz_range.specs.Reading.{Reading, follow_all, reading, initial_reading}
use Rattle.laz_range.proofs.Reach.{cut-IsSpan, initial_span-IsSpan}
use Rattle.laz_range.proofs.Begin.{SomeIff-then, follow_all-is, Begins-after}
use Rattle.laz_range.proofs.Other.{Begins-other, IsOther, alike_cases}

pub after-append : (s : Span) (xs ys : List Cut) → after s (xs ++ ys) ≡ after (after s xs) ys
after-append s [] ys = refl
after-append s (x ∷ xs) ys = after-append (cut s x) xs ys

abbrev pub first : List ℕ → Reading
first bytes = record { value = number (take 4 bytes); len = 4294967295; rest = drop 4 bytes }

pub first-is : (bytes : List ℕ) → first bytes ≡ reading initial_span bytes
first-is bytes = let same : number (take 4 bytes) ≡ number (take 4 bytes) - 0 = omega arith in cc

pub initial_reading-is : (bytes : List ℕ) → SomeIff (initial_reading bytes) (Begins initial_span bytes) (reading initial_span bytes)
initial_reading-is bytes =
    ⊎_elim
    (λ (few : length bytes < 4).
    rw (cond-false (leb 4 (length bytes) && ltb (number (take 4 bytes)) 4294967295) (Some (first bytes)) None (and_left _ _ (lt-leb 4 (length bytes) few)))
    (λ (h : Begins initial_span bytes). omega (arith, h.enough, few)))
    (λ (enough : 4 ≤ length bytes).
    ⊎_elim
    (λ (low : number (take 4 bytes) < 4294967295).
    rw (cond-true (leb 4 (length bytes) && ltb (number (take 4 bytes)) 4294967295) (Some (first bytes)) None (and_from _ _ (le-leb 4 (length bytes) enough) (lt-ltb _ 4294967295 low)))
    (record { enough = enough; low = omega arith; high = low }, first-is bytes))
    (λ (high : 4294967295 ≤ number (take 4 bytes)).
    rw (cond-false (leb 4 (length bytes) && ltb (number (take 4 bytes)) 4294967295) (Some (first bytes)) None (and_right _ _ (le-ltb _ 4294967295 high)))
    (λ (h : Begins initial_span bytes). omega (arith, h.high, high)))
    (cases_lt (number (take 4 bytes)) 4294967295))
    (cases_lt (length bytes) 4)

pub following-is : (cs : List Cut) (bytes : List ℕ) → AllByRecursion IsCut cs → IsBytes bytes
    → SomeIff (option_and_then (λ r. follow_all r cs) (initial_reading bytes)) (Begins (after initial_span cs) bytes) (reading (after initial_span cs) bytes)
following-is cs bytes all b =
    SomeIff-then (initial_reading bytes) (λ r. follow_all r cs) (Begins initial_span bytes) _ _ _
    (initial_reading-is bytes) (follow_all-is initial_span cs bytes initial_span-IsSpan all b) (Begins-after initial_span cs bytes initial_span-IsSpan all b)

pub fronts : (s : Span) (xs ys : List Cut) (bytes : List ℕ) → IsSpan s → AllByRecursion IsCut (xs ++ ys) → IsBytes bytes → Begins (after s (xs ++ ys)) bytes → Begins (after s xs) bytes
fronts s [] ys bytes reach all b h = Begins-after s ys bytes reach all b h
fronts s (x ∷ xs) ys bytes reach all b h = fronts (cut s x) xs ys bytes (cut-IsSpan s x reach all.0) all.1 b h

pub one : (front : List Cut) (c d : Cut) (bytes : List ℕ) → IsBytes bytes → IsCut c → IsCut d → AreAlike c d → Begins (after initial_span (front ++ c ∷ [])) bytes → Begins (after initial_span (front ++ d ∷ [])) bytes → c ≡ d
one front c d bytes b h k alike f g =
    ⊎_elim
    (λ (same : c ≡ d). same)
    (λ (other : IsOther c d). absurd (Begins-other (after initial_span front) c d bytes b h k other (rw after-append at f) (rw after-append at g)))
    (alike_cases c d alike)

-- one list of cuts after another
pub Codes-append : (a b c : Coding) (xs ys : List Cut) → Codes a b xs → Codes b c ys → Codes a c (xs ++ ys)
Codes-append a b c xs ys f g =
    record {
      span = g.span ∙ (ap (λ s. after s ys) f.span ∙ sym (after-append a.span xs ys));
      before = g.before ∙ f.before;
      left = omega (arith, f.left, g.left);
      used = omega (arith, f.used, g.used, length-append xs ys);
      more = g.more ∙ f.more;
    }

-- ---- with a room that was lengthened at times
pub CodesInSteps-none : (a : Coding) → CodesInSteps a a []
CodesInSteps-none a = record { span = refl; before = refl; room = refl; more = omega arith }

-- the room was lengthened, and then cuts were coded
pub CodesInSteps-step : (a b c d : Coding) (xs ys : List Cut) → CodesInSteps a b xs → CodesInSteps b c [] → Codes c d ys → CodesInSteps a d (xs ++ ys)
CodesInSteps-step a b c d xs ys f w g =
    record {
      span = g.span ∙ (ap (λ s. after s ys) (w.span ∙ f.span) ∙ sym (after-append a.span xs ys));
      before = g.before ∙ (w.before ∙ f.before);
      room = omega (arith, f.room, w.room, g.left, g.more);
      more = omega (arith, f.more, w.more, g.more);
    }
