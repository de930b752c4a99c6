-- Counts in a list, one for each bin, as a finite map.
use Rattle.std.proofs.Common.{◌≡◌, ℕ, zero, suc, ◌+◌, ◌<◌, ◌==◌, Bool, true, false, ◌&&◌, cond, T, List, [], ◌∷◌, ◌++◌, length, refl, sym, ◌∙◌, ap, subst, arith, get_or, set, length-set, replicate, Option, Some, None, unwrap_or, inl, inr}
use Rattle.std.specs.declared.cmp.Ordering.TheVariants.{Less, Equal, Greater}
use Rattle.std.specs.Ordering.{nat_cmp, is_lt, is_eq, eq_by_cmp}
use Rattle.std.specs.Cmp.{nat_cmp_total, nat_cmp_is}
use Rattle.std.specs.FinMap as map
use Rattle.std.specs.FinMap.{entries-from_sorted, get-from_sorted, get-insert, same_map, nat_cmp-IsAntisymmetric, len-entries, empty_of_len}
use Rattle.std.specs.FinMap.Entries.{find, is_sorted, below_all}
use Rattle.std.proofs.lemmas.Bool.{cases_lt, cases_eq, eqb-false, eqb-true}
use Rattle.std.proofs.lemmas.List.{get_or-set_other, get_or-set_same, set-get_or}
use Rattle.las_info.specs.Cells.{bins_from}
use Rattle.las_info.specs.Tallies.{Tally, count_at, with_many, with_one}

less : (x y : ℕ) → x < y → nat_cmp x y ≡ Less
less x y lt = sym (nat_cmp_is x y Less lt)

equal : (x y : ℕ) → x ≡ y → nat_cmp x y ≡ Equal
equal x y e = sym (nat_cmp_is x y Equal e)

greater : (x y : ℕ) → y < x → nat_cmp x y ≡ Greater
greater x y gt = sym (nat_cmp_is x y Greater gt)

both : (a b : Bool) → T a → T b → T (a && b)
both true b p q = q
both false b p q = p

-- bins from a first one on are not below it
below : (x first : ℕ) (counts : List ℕ) → x < first → T (below_all nat_cmp x (bins_from first counts))
below x first [] lt = tt
below x first (zero ∷ counts) lt = below x (first + 1) counts (omega (arith, lt))
below x first (suc n ∷ counts) lt = both _ _ (subst (λ o. T (is_lt o)) (sym (less x first lt)) tt) (below x (first + 1) counts (omega (arith, lt)))

ordered : (first : ℕ) (counts : List ℕ) → T (is_sorted nat_cmp (bins_from first counts))
ordered first [] = tt
ordered first (zero ∷ counts) = ordered (first + 1) counts
ordered first (suc n ∷ counts) = both _ _ (below first (first + 1) counts (omega arith)) (ordered (first + 1) counts)

abbrev pub made : (counts : List ℕ) → Tally
made counts = map.from_sorted (bins_from 0 counts)

pub entries-made : (counts : List ℕ) → map.entries (made counts) ≡ bins_from 0 counts
entries-made counts = entries-from_sorted nat_cmp (bins_from 0 counts) (ordered 0 counts)

-- what a look-up finds: the count of the bin, if it is above 0
abbrev some_above : ℕ → Option ℕ
some_above zero = None
some_above (suc n) = Some (suc n)

absent : (q first : ℕ) (counts : List ℕ) → q < first → find nat_cmp q (bins_from first counts) ≡ None
absent q first [] lt = refl
absent q first (zero ∷ counts) lt = absent q (first + 1) counts (omega (arith, lt))
absent q first (suc n ∷ counts) lt =
    ap (λ o. cond (is_eq o) (Some (suc n)) (find nat_cmp q (bins_from (first + 1) counts))) (less q first lt)
    ∙ absent q (first + 1) counts (omega (arith, lt))

found : (q first i : ℕ) (counts : List ℕ) → q ≡ first + i → find nat_cmp q (bins_from first counts) ≡ some_above (get_or counts i 0)
found q first i [] e = refl
found q first zero (zero ∷ counts) e = absent q (first + 1) counts (omega (arith, e))
found q first zero (suc n ∷ counts) e =
    ap (λ o. cond (is_eq o) (Some (suc n)) (find nat_cmp q (bins_from (first + 1) counts))) (equal q first (omega (arith, e)))
found q first (suc i) (zero ∷ counts) e = found q (first + 1) i counts (omega (arith, e))
found q first (suc i) (suc n ∷ counts) e =
    ap (λ o. cond (is_eq o) (Some (suc n)) (find nat_cmp q (bins_from (first + 1) counts))) (greater q first (omega (arith, e)))
    ∙ found q (first + 1) i counts (omega (arith, e))

get-made : (counts : List ℕ) (q : ℕ) → map.get (made counts) q ≡ some_above (get_or counts q 0)
get-made counts q = get-from_sorted nat_cmp (bins_from 0 counts) q (ordered 0 counts) ∙ found q 0 q counts (omega arith)

above : (n : ℕ) → unwrap_or (some_above n) 0 ≡ n
above zero = refl
above (suc n) = refl

-- the count of a bin
pub count-made : (counts : List ℕ) (bin : ℕ) → count_at (made counts) bin ≡ get_or counts bin 0
count-made counts bin = ap (λ o. unwrap_or o 0) (get-made counts bin) ∙ above (get_or counts bin 0)

-- lists in which each bin has one count are one tally
alike : (xs ys : List ℕ) → ((q : ℕ) → get_or xs q 0 ≡ get_or ys q 0) → made xs ≡ made ys
alike xs ys is = same_map nat_cmp_total nat_cmp-IsAntisymmetric (made xs) (made ys) (λ q. get-made xs q ∙ ap some_above (is q) ∙ sym (get-made ys q))

zeros : (n q : ℕ) → get_or (replicate {A = ℕ} n 0) q 0 ≡ 0
zeros zero q = refl
zeros (suc n) zero = refl
zeros (suc n) (suc q) = zeros n q

padded : (xs : List ℕ) (n q : ℕ) → get_or (xs ++ replicate n 0) q 0 ≡ get_or xs q 0
padded [] n q = zeros n q
padded (x ∷ xs) n zero = refl
padded (x ∷ xs) n (suc q) = padded xs n q

-- counts of 0 at the end
pub made-longer : (xs ys : List ℕ) (n : ℕ) → ys ≡ xs ++ replicate n 0 → made ys ≡ made xs
made-longer xs ys n is = ap made is ∙ alike (xs ++ replicate n 0) xs (padded xs n)

shifted : (q i : ℕ) → nat_cmp q i ≡ nat_cmp (suc q) (suc i)
shifted q i = elim (cases_lt q i) [
  | inl lt ↦ less q i lt ∙ sym (less (suc q) (suc i) (omega (arith, lt)))
  | inr ge ↦ elim (cases_eq q i) [
    | inl e ↦ equal q i e ∙ sym (equal (suc q) (suc i) (ap suc e))
    | inr apart ↦ let gt : i < q = omega (arith, ge, apart) in greater q i gt ∙ sym (greater (suc q) (suc i) (omega (arith, gt)))
  ]
]

some_one : (n : ℕ) → some_above (n + 1) ≡ Some (n + 1)
some_one n = let e : n + 1 ≡ suc n = omega arith in ap some_above e ∙ ap (λ (k : ℕ). Some k) (sym e)

one_set : (xs : List ℕ) (i n q : ℕ) → i < length xs → some_above (get_or (set xs i (n + 1)) q 0) ≡ cond (eq_by_cmp nat_cmp q i) (Some (n + 1)) (some_above (get_or xs q 0))
one_set [] i n q lt = absurd (omega (arith, lt))
one_set (x ∷ xs) zero n zero lt = some_one n
one_set (x ∷ xs) zero n (suc q) lt = ap (λ o. cond (is_eq o) (Some (n + 1)) (some_above (get_or xs q 0))) (sym (greater (suc q) 0 (omega arith)))
one_set (x ∷ xs) (suc i) n zero lt = ap (λ o. cond (is_eq o) (Some (n + 1)) (some_above x)) (sym (less 0 (suc i) (omega arith)))
one_set (x ∷ xs) (suc i) n (suc q) lt =
    one_set xs i n q (omega (arith, lt)) ∙ ap (λ o. cond (is_eq o) (Some (n + 1)) (some_above (get_or xs q 0))) (shifted q i)

-- one more in a bin
pub made-set : (xs ys : List ℕ) (bin : ℕ) → bin < length xs → ys ≡ set xs bin (get_or xs bin 0 + 1) → made ys ≡ with_one (made xs) bin
made-set xs ys bin lt is =
    let n = get_or xs bin 0 in
    ap made is
    ∙ same_map nat_cmp_total nat_cmp-IsAntisymmetric (made (set xs bin (n + 1))) (map.insert (made xs) bin (n + 1))
    (λ q. get-made (set xs bin (n + 1)) q ∙ one_set xs bin n q lt
    ∙ sym (get-insert nat_cmp_total (made xs) bin (n + 1) q ∙ ap (cond (eq_by_cmp nat_cmp q bin) (Some (n + 1))) (get-made xs q)))
    ∙ ap (λ (k : ℕ). map.insert (made xs) bin (k + 1)) (sym (count-made xs bin))

set-twice : (xs : List ℕ) (i a b : ℕ) → set (set xs i a) i b ≡ set xs i b
set-twice [] i a b = refl
set-twice (x ∷ xs) zero a b = refl
set-twice (x ∷ xs) (suc i) a b = ap (λ (t : List ℕ). x ∷ t) (set-twice xs i a b)

-- a number more in a bin
pub made-more : (more : ℕ) (xs ys : List ℕ) (bin : ℕ) → bin < length xs → ys ≡ set xs bin (get_or xs bin 0 + more) → made ys ≡ with_many (made xs) bin more
made-more zero xs ys bin lt is =
    let none : get_or xs bin 0 + 0 ≡ get_or xs bin 0 = omega arith in
    ap made (is ∙ ap (λ (n : ℕ). set xs bin n) none ∙ set-get_or xs bin 0)
made-more (suc more) xs ys bin lt is =
    let one = set xs bin (get_or xs bin 0 + 1) in
    let here : get_or one bin 0 + more ≡ get_or xs bin 0 + suc more = omega (arith, get_or-set_same xs bin (get_or xs bin 0 + 1) 0 lt) in
    let long : bin < length one = omega (arith, lt, length-set xs bin (get_or xs bin 0 + 1)) in
    made-more more one ys bin long
    (is ∙ ap (λ (n : ℕ). set xs bin n) (sym here) ∙ sym (set-twice xs bin (get_or xs bin 0 + 1) (get_or one bin 0 + more)))
    ∙ ap (λ t. with_many t bin more) (made-set xs one bin lt refl)

-- one more in a bin, and then one more in another or the same: both counts are read before either is written
get_after : (b : Bool) (xs : List ℕ) (i j : ℕ) → (i == j) ≡ b → i < length xs → get_or (set xs i (get_or xs i 0 + 1)) j 0 ≡ get_or xs j 0 + cond b 1 0
get_after true xs i j same lt =
    let e : i ≡ j = eqb-true i j same in
    subst (λ (k : ℕ). get_or (set xs i (get_or xs i 0 + 1)) k 0 ≡ get_or xs k 0 + 1) e (get_or-set_same xs i (get_or xs i 0 + 1) 0 lt)
get_after false xs i j apart lt =
    get_or-set_other xs i j (get_or xs i 0 + 1) 0 (λ (e : j ≡ i). eqb-false i j apart (sym e)) ∙ (let zero_more : get_or xs j 0 ≡ get_or xs j 0 + 0 = omega arith in zero_more)

pub made-two : (xs ys zs : List ℕ) (i j again : ℕ) → i < length xs → j < length xs → again ≡ cond (i == j) 1 0
    → ys ≡ set xs i (get_or xs i 0 + 1) → zs ≡ set ys j (get_or xs j 0 + again + 1) → made zs ≡ with_one (with_one (made xs) i) j
made-two xs ys zs i j again lt within is first second =
    let here : get_or ys j 0 ≡ get_or xs j 0 + again = ap (λ (l : List ℕ). get_or l j 0) first ∙ get_after (i == j) xs i j refl lt ∙ ap (λ (n : ℕ). get_or xs j 0 + n) (sym is) in
    let long : length ys ≡ length xs = ap (λ (l : List ℕ). length l) first ∙ length-set xs i (get_or xs i 0 + 1) in
    made-set ys zs j (omega (arith, long, within)) (second ∙ ap (λ (n : ℕ). set ys j (n + 1)) (sym here))
    ∙ ap (λ t. with_one t j) (made-set xs ys i lt first)

pub made-empty : made [] ≡ map.empty
made-empty = empty_of_len (made []) (len-entries (made []) ∙ ap length (entries-made []))

-- the rows of the first counts
pub bins-more : (first : ℕ) (xs : List ℕ) (x : ℕ) → bins_from first (xs ++ x ∷ []) ≡ bins_from first xs ++ bins_from (first + length xs) (x ∷ [])
bins-more first [] x = ap (λ (k : ℕ). bins_from k (x ∷ [])) (omega arith)
bins-more first (zero ∷ xs) x = bins-more (first + 1) xs x ∙ ap (λ (k : ℕ). bins_from (first + 1) xs ++ bins_from k (x ∷ [])) (omega arith)
bins-more first (suc n ∷ xs) x = ap (λ (t : List (ℕ × ℕ)). (first, suc n) ∷ t) (bins-more (first + 1) xs x ∙ ap (λ (k : ℕ). bins_from (first + 1) xs ++ bins_from k (x ∷ [])) (omega arith))
