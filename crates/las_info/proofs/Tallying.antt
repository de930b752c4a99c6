-- Numbers of records by return number, 0 to 7, after one record more.
use Rattle.std.proofs.Common.{◌≡◌, ℕ, zero, suc, ◌+◌, ◌<◌, ◌≤◌, ◌==◌, List, [], ◌∷◌, ◌++◌, All, Bool, true, false, cond, drop, length, map, refl, sym, ◌∙◌, ap, arith, slice_index, slice_set}
use Rattle.std.proofs.lemmas.List.Sums.{sum_by-append}
use Rattle.las_points.specs.Record.{return_number_of}
use Rattle.las_points.specs.Tally.{count_of_return, counts_of}

abbrev pub seven : List ℕ
seven = 1 ∷ 2 ∷ 3 ∷ 4 ∷ 5 ∷ 6 ∷ 7 ∷ []

mapped : (f g : ℕ → ℕ) → ((k : ℕ) → f k ≡ g k) → (ks : List ℕ) → map f ks ≡ map g ks
mapped f g same [] = refl
mapped f g same (k ∷ ks) = λ i. same k i ∷ mapped f g same ks i

counted_if : (b : Bool) (m : ℕ) → m + (0 + cond b 1 0) ≡ cond b (m + 1) m
counted_if true m = omega arith
counted_if false m = omega arith

one_more : (records : List (List ℕ)) (point : List ℕ) (k : ℕ)
    → count_of_return (records ++ point ∷ []) k ≡ cond (return_number_of point == k) (count_of_return records k + 1) (count_of_return records k)
one_more records point k =
    sum_by-append (λ (p : List ℕ). cond (return_number_of p == k) 1 0) records (point ∷ [])
    ∙ counted_if (return_number_of point == k) (count_of_return records k)

at_number : (n : ℕ) → n < 8 → (r : ℕ) (f : ℕ → ℕ)
    → drop 1 (slice_set (r ∷ map f seven) n (slice_index (r ∷ map f seven) n + 1)) ≡ map (λ k. cond (n == k) (f k + 1) (f k)) seven
at_number zero lt r f = refl
at_number (suc zero) lt r f = refl
at_number (suc (suc zero)) lt r f = refl
at_number (suc (suc (suc zero))) lt r f = refl
at_number (suc (suc (suc (suc zero)))) lt r f = refl
at_number (suc (suc (suc (suc (suc zero))))) lt r f = refl
at_number (suc (suc (suc (suc (suc (suc zero)))))) lt r f = refl
at_number (suc (suc (suc (suc (suc (suc (suc zero))))))) lt r f = refl
at_number (suc (suc (suc (suc (suc (suc (suc (suc n)))))))) lt r f = absurd (omega arith)

-- the numbers of the returns 1 to 7
pub returns_counted : (returns : List ℕ) (records : List (List ℕ)) (point : List ℕ) → length returns ≡ 8 → drop 1 returns ≡ (counts_of records).returns
    → drop 1 (slice_set returns (return_number_of point) (slice_index returns (return_number_of point) + 1)) ≡ (counts_of (records ++ point ∷ [])).returns
returns_counted [] records point long counted = absurd (omega arith)
returns_counted (r ∷ rs) records point long counted =
    let n = return_number_of point in
    ap (λ (s : List ℕ). drop 1 (slice_set (r ∷ s) n (slice_index (r ∷ s) n + 1))) counted
    ∙ at_number n (omega arith) r (count_of_return records)
    ∙ mapped (λ k. cond (n == k) (count_of_return records k + 1) (count_of_return records k)) (count_of_return (records ++ point ∷ [])) (λ k. sym (one_more records point k)) seven

-- how many there are at most
pub few_counted : (returns : List ℕ) (number most : ℕ) → All (λ n. n ≤ most) returns
    → All (λ n. n ≤ most + 1) (slice_set returns number (slice_index returns number + 1))
few_counted [] number most few k d lt = absurd (omega arith)
few_counted (r ∷ rs) zero most few zero d lt = omega (arith, few 0 0 (omega arith))
few_counted (r ∷ rs) zero most few (suc k) d lt = omega (arith, few (suc k) d lt)
few_counted (r ∷ rs) (suc n) most few zero d lt = omega (arith, few 0 0 (omega arith))
few_counted (r ∷ rs) (suc n) most few (suc k) d lt = few_counted rs n most (λ j e l. few (suc j) e (omega arith)) k d (omega arith)

pub few_first : (most : ℕ) (returns : List ℕ) → All (λ n. n ≤ most) returns → All (λ n. n ≤ most + 0) (0 ∷ returns)
few_first most returns few zero d lt = omega arith
few_first most returns few (suc k) d lt = omega (arith, few k d (omega arith))

pub few_but_first : (most : ℕ) (returns : List ℕ) → All (λ n. n ≤ most) returns → All (λ n. n ≤ most) (drop 1 returns)
few_but_first most [] few = λ k d lt. absurd (omega arith)
few_but_first most (r ∷ rs) few = λ k d lt. few (suc k) d (omega arith)
