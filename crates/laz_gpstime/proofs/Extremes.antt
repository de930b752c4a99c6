-- The count of extreme differences, as a count of points.
use Rattle.std.proofs.Common.{◌≡◌, ℕ, suc, ◌+◌, eqb, cond, Bool, true, false, not, List, [], ◌∷◌, count_by, take, take_while, refl, sym, ap, ◌∙◌, arith, ◌||◌}
use Rattle.std.specs.List.{prefix_len}
use Rattle.std.proofs.lemmas.List.Sums.{sum_by-cons}
use Rattle.laz_gpstime.specs.Laws.{ExtremesAreCounted, begins_anew, points_of_sequence}
use Rattle.laz_gpstime.specs.Meanings.{is_extreme, is_new, is_one, sets}
use Rattle.laz_gpstime.specs.Sequences.{extremes, point_meaning, sequence}

counted : {X : Type 0} (test : X → Bool) (x : X) (xs : List X) (e : Bool) → test x ≡ e → count_by test (x ∷ xs) ≡ cond e 1 0 + count_by test xs
counted test x xs e is = sum_by-cons (λ y. cond (test y) 1 0) x xs ∙ ap (λ b. cond b 1 0 + count_by test xs) is

goes_on : {X : Type 0} (stays : X → Bool) (x : X) (xs : List X) → stays x ≡ true → take_while stays (x ∷ xs) ≡ x ∷ take_while stays xs
goes_on stays x xs e =
    let n : ℕ = prefix_len stays xs in
    let front : take_while stays (x ∷ xs) ≡ take (1 + n) (x ∷ xs) = rw e refl in
    let more : 1 + n ≡ suc n = omega arith in
    front ∙ ap (λ k. take k (x ∷ xs)) more

stops : {X : Type 0} (stays : X → Bool) (x : X) (xs : List X) → stays x ≡ false → take_while stays (x ∷ xs) ≡ []
stops stays x xs e = rw e refl

one-more : {X : Type 0} (test stays : X → Bool) (x : X) (xs : List X) (here anew extreme : Bool) (count : ℕ) → test x ≡ extreme → stays x ≡ not anew → count ≡ count_by test (take_while stays xs)
    → cond here (cond anew 0 (cond extreme (count + 1) count)) count ≡ count_by test (take_while stays (cond here (x ∷ xs) xs))
one-more test stays x xs false anew extreme count is goes same = same
one-more test stays x xs true true extreme count is goes same = sym (ap (count_by test) (stops stays x xs goes))
one-more test stays x xs true false true count is goes same =
    let sum : count_by test (x ∷ take_while stays xs) ≡ 1 + count_by test (take_while stays xs) = counted test x (take_while stays xs) true is in
    let more : count + 1 ≡ count_by test (x ∷ take_while stays xs) = (ap (λ n. n + 1) same ∙ omega arith) ∙ sym sum in
    more ∙ sym (ap (count_by test) (goes_on stays x xs goes))
one-more test stays x xs true false false count is goes same =
    let sum : count_by test (x ∷ take_while stays xs) ≡ 0 + count_by test (take_while stays xs) = counted test x (take_while stays xs) false is in
    let more : count ≡ count_by test (x ∷ take_while stays xs) = (same ∙ omega arith) ∙ sym sum in
    more ∙ sym (ap (count_by test) (goes_on stays x xs goes))

pub extremes-counted : ExtremesAreCounted
extremes-counted [] s = refl
extremes-counted (p ∷ earlier) s =
    let m = point_meaning p in
    one-more (λ x. is_extreme (point_meaning x.0)) (λ x. not (begins_anew s x)) (p, earlier) (points_of_sequence s earlier) (eqb (sequence (p ∷ earlier)) s)
    (is_new m || (sets m (extremes earlier s) || is_one m)) (is_extreme m) (extremes earlier s) refl refl (extremes-counted earlier s)
