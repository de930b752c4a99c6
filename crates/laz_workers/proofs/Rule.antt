-- Each step keeps the rule of claims, and what follows from the rule.
use Rattle.std.proofs.Common.{◌≡◌, ◌≢◌, ℕ, ◌+◌, ◌-◌, ◌<◌, ◌≤◌, Bool, true, false, List, [], ◌∷◌, ◌++◌, set, refl, sym, ap, ◌∙◌, subst, ⊎_elim, arith}
use Rattle.std.specs.Prelude.{◌==◌, nat_lt, nat_le, sum_by, count_by, All, flat_map}
use Rattle.std.proofs.lemmas.List.Sums.{sum_by-append, sum_by_push}
use Rattle.std.proofs.lemmas.Bool.{cases_Bool, true≢false, false≢true, both_ways}
use Rattle.std.proofs.lemmas.Bool.Decides.{nat_tests}
use mathlib.Core.Option.{some}
use lib.ListN.{get_elem?}
use Rattle.atomic_table.proofs.Lists.{at_set, at_snoc}
use Rattle.laz_workers.specs.declared.view.View.{View}
use Rattle.laz_workers.specs.Numbers.{one_if, times, HoldsBelow}
use Rattle.laz_workers.specs.Claims.{past, is_split, split_from, split_off, drew, joined, gone, Fits, Kept}
use Rattle.laz_workers.proofs.Counting.{sum_at, sum_le, sum_none, term_le, one_place, one_passes, none_pass, count_of_below, count_below-past, below_from_times, count_flat}

one_if_le : (b : Bool) → one_if b ≤ 1
one_if_le true = omega arith
one_if_le false = omega arith

module _ (T W word : ℕ) (views : List View) (k : Kept T W word views) where
  -- two views that open are one
  pub same_opening : (i j : ℕ) (v u : View) → get_elem? views i ≡ some v → v.opens ≡ true → get_elem? views j ≡ some u → u.opens ≡ true → i ≡ j
  same_opening i j v u at ov at' ou = one_place (λ w. w.opens) views k.one_opens i j v u at ov at' ou

  -- a view that opens is not gone
  pub opens_there : (i : ℕ) (v : View) → get_elem? views i ≡ some v → v.opens ≡ true → v.gone ≡ false
  opens_there i v at o = ⊎_elim (λ (t : v.gone ≡ true). absurd (both_ways v.opens ((k.each i v at).gone t).1 o)) (λ f. f) (cases_Bool v.gone)

  -- what is true of the opening pass's place, of what is gone and of each split pass is true of all
  others : (i : ℕ) (v : View) → get_elem? views i ≡ some v → v.opens ≡ true → (P : View → Type 0) → P gone
      → ((u : View) → u.gone ≡ true → u.drawn ≡ [] → P u) → ((j : ℕ) (u : View) → get_elem? views j ≡ some u → is_split u ≡ true → P u)
      → (j : ℕ) (u : View) → get_elem? (set views i gone) j ≡ some u → P u
  others i v at o P g away split j u e =
      ⊎_elim
      (λ (t : (j ≡ i) × (gone ≡ u)). subst P t.1 g)
      (λ (t : (j ≢ i) × (get_elem? views j ≡ some u)).
      ⊎_elim
      (λ (h : u.gone ≡ true). away u h ((k.each j u t.1).gone h).0)
      (λ (h : u.gone ≡ false).
      ⊎_elim
      (λ (b : u.opens ≡ true). absurd (t.0 (sym (same_opening i j v u at o t.1 b))))
      (λ (b : u.opens ≡ false). split j u t.1 (rw (b, h) refl))
      (cases_Bool u.opens))
      (cases_Bool u.gone))
      (at_set views i j gone u e)

  -- if no pass is out, the opening one holds each number below the word
  pub whole : (i : ℕ) (v : View) → get_elem? views i ≡ some v → v.opens ≡ true → v.out ≡ 0 → HoldsBelow word v.drawn
  whole i v at o none x =
      let f : View → ℕ = λ u. times x u.drawn in
      let no_split : count_by is_split views ≡ 0 = sym ((k.each i v at).out o) ∙ none in
      let rest : sum_by f (set views i gone) ≡ 0 =
      sum_none f (set views i gone)
      (others i v at o (λ u. f u ≡ 0) refl (λ u _ d. ap (times x) d) (λ j u at' s. absurd (both_ways (is_split u) (none_pass is_split views no_split j u at') s))) in
      omega (arith, sum_at f views i v gone at, rest, k.once x)

  -- each number that a pass holds is below the word
  pub below : (i : ℕ) (v : View) → get_elem? views i ≡ some v → All (λ x. x < word) v.drawn
  below i v at = below_from_times word v.drawn (λ x. omega (arith, term_le (λ u. times x u.drawn) views i v at, k.once x))

  -- the word is at most the total and the number of workers
  pub bound : word ≤ T + W
  bound =
      let at = one_passes (λ v. v.opens) views (omega (arith, k.one_opens)) in
      let i = at.0 in
      let v = at.1 in
      let f : View → ℕ = λ u. past T u.drawn in
      let fit = (k.each i v at.2) in
      let total : sum_by f views ≡ word - T =
      sym (count_flat (λ (u : View). u.drawn) (λ x. nat_le T x) views)
      ∙ (count_of_below (λ x. nat_le T x) word (flat_map (λ (u : View). u.drawn) views) (λ x. count_flat (λ (u : View). u.drawn) (λ y. y == x) views ∙ k.once x) ∙ count_below-past T word) in
      let le : sum_by f (set views i gone) ≤ count_by is_split (set views i gone) =
      sum_le f (λ u. one_if (is_split u)) (set views i gone)
      (others i v at.2 at.3 (λ u. f u ≤ one_if (is_split u)) (omega arith) (λ u _ d. omega (arith, ap (past T) d))
      (λ j u at' s. omega (arith, ((k.each j u at').split s).0, ap one_if s, one_if_le u.spent))) in
      let same : is_split v ≡ false = rw at.3 refl in
      omega (arith, sum_at f views i v gone at.2, sum_at (λ u. one_if (is_split u)) views i v gone at.2, ap one_if same, total, le, fit.out at.3, fit.seats at.3, fit.opening at.3, one_if_le v.spent)

-- what holds of a view that is not the opening one holds with any number of split passes
refit : (T W s t : ℕ) (u : View) → u.opens ≡ false → Fits T W s u → Fits T W t u
refit T W s t u shut f = record {
  gone = f.gone;
  sizes = f.sizes;
  split = f.split;
  out = λ o. absurd (both_ways u.opens shut o);
  seats = λ o. absurd (both_ways u.opens shut o);
  opening = λ o. absurd (both_ways u.opens shut o);
}

times_push : (x y : ℕ) (xs : List ℕ) → times x (xs ++ y ∷ []) ≡ times x xs + one_if (y == x)
times_push x y xs = sum_by_push (λ z. one_if (z == x)) xs y

past_push : (T y : ℕ) (xs : List ℕ) → past T (xs ++ y ∷ []) ≡ past T xs + one_if (nat_le T y)
past_push T y xs = sum_by_push (λ z. one_if (nat_le T z)) xs y

past_join : (T : ℕ) (xs ys : List ℕ) → past T (xs ++ ys) ≡ past T xs + past T ys
past_join T xs ys = sum_by-append (λ z. one_if (nat_le T z)) xs ys

one_more_below : (x word : ℕ) → one_if (nat_lt x (word + 1)) ≡ one_if (nat_lt x word) + one_if (word == x)
one_more_below x word = grind (arith, nat_tests)

pub keeps_draw : (T W word : ℕ) (views : List View) → Kept T W word views → (i : ℕ) (v : View) → get_elem? views i ≡ some v → v.gone ≡ false → v.spent ≡ false
    → Kept T W (word + 1) (set views i (drew v word))
keeps_draw T W word views k i v at here unspent =
    let w = drew v word in
    let fit = k.each i v at in
    let counted : count_by is_split (set views i w) ≡ count_by is_split views = omega (arith, sum_at (λ u. one_if (is_split u)) views i v w at) in
    let size : v.total ≡ T = (fit.sizes here).0 in
    let old : one_if v.spent ≡ 0 = ap one_if unspent in
    let test : one_if (nat_le v.total word) ≡ one_if (nat_le T word) = ap (λ t. one_if (nat_le t word)) size in
    let mine : Fits T W (count_by is_split views) w =
    record {
      gone = λ g. absurd (both_ways v.gone here g);
      sizes = λ _. fit.sizes here;
      split = λ s. (omega (arith, past_push T word v.drawn, (fit.split s).0), (fit.split s).1, (fit.split s).2);
      out = λ o. fit.out o;
      seats = λ o. fit.seats o;
      opening = λ o. omega (arith, past_push T word v.drawn, fit.opening o);
    } in
    record {
      once = λ x. omega (arith, sum_at (λ (u : View). times x u.drawn) views i v w at, times_push x word v.drawn, k.once x, one_more_below x word);
      one_opens = omega (arith, sum_at (λ (u : View). one_if u.opens) views i v w at, k.one_opens);
      each = λ j u e.
          let P : ℕ → Type 0 = λ s. Fits T W s u in
          subst P (sym counted)
          (⊎_elim
          (λ (t : (j ≡ i) × (w ≡ u)). let Q : View → Type 0 = λ y. Fits T W (count_by is_split views) y in subst Q t.1 mine)
          (λ (t : (j ≢ i) × (get_elem? views j ≡ some u)). k.each j u t.1)
          (at_set views i j w u e));
    }

pub keeps_split : (T W word : ℕ) (views : List View) → Kept T W word views → (i : ℕ) (v : View) → get_elem? views i ≡ some v → v.opens ≡ true → 0 < v.rest
    → Kept T W word (set views i (split_from v) ++ split_off v ∷ [])
keeps_split T W word views k i v at o some_rest =
    let w = split_from v in
    let n = split_off v in
    let fit = k.each i v at in
    let here = opens_there T W word views k i v at o in
    let more : List View = set views i w ++ n ∷ [] in
    let no : is_split v ≡ false = rw o refl in
    let no' : is_split w ≡ false = rw o refl in
    let counted : count_by is_split more ≡ count_by is_split views + 1 =
    omega (arith, sum_at (λ u. one_if (is_split u)) views i v w at, sum_by_push (λ u. one_if (is_split u)) (set views i w) n, ap one_if no, ap one_if no') in
    let S : ℕ = count_by is_split views + 1 in
    let mine : Fits T W S w =
    record {
      gone = λ g. absurd (both_ways v.gone here g);
      sizes = λ _. fit.sizes here;
      split = λ s. absurd (both_ways (is_split w) no' s);
      out = λ _. omega (arith, fit.out o);
      seats = λ _. omega (arith, fit.seats o);
      opening = λ _. fit.opening o;
    } in
    let new : Fits T W S n =
    record {
      gone = λ g. absurd (false≢true g);
      sizes = λ _. fit.sizes here;
      split = λ _. (refl, refl, refl);
      out = λ e. absurd (false≢true e);
      seats = λ e. absurd (false≢true e);
      opening = λ e. absurd (false≢true e);
    } in
    record {
      once = λ x. omega (arith, sum_at (λ (u : View). times x u.drawn) views i v w at, sum_by_push (λ (u : View). times x u.drawn) (set views i w) n, k.once x);
      one_opens = omega (arith, sum_at (λ (u : View). one_if u.opens) views i v w at, sum_by_push (λ (u : View). one_if u.opens) (set views i w) n, k.one_opens);
      each = λ j u e.
          let P : ℕ → Type 0 = λ s. Fits T W s u in
          let Q : View → Type 0 = λ y. Fits T W S y in
          subst P (sym counted)
          (⊎_elim
          (λ (f : get_elem? (set views i w) j ≡ some u).
          ⊎_elim
          (λ (t : (j ≡ i) × (w ≡ u)). subst Q t.1 mine)
          (λ (t : (j ≢ i) × (get_elem? views j ≡ some u)).
          ⊎_elim
          (λ (b : u.opens ≡ true). absurd (t.0 (sym (same_opening T W word views k i j v u at o t.1 b))))
          (λ (b : u.opens ≡ false). refit T W (count_by is_split views) S u b (k.each j u t.1))
          (cases_Bool u.opens))
          (at_set views i j w u f))
          (λ (s : n ≡ u). subst Q s new)
          (at_snoc (set views i w) n u j e));
    }

pub keeps_join : (T W word : ℕ) (views : List View) → Kept T W word views → (i j : ℕ) (v u : View) → get_elem? views i ≡ some v → ¬ (j ≡ i) → get_elem? (set views i (joined v u)) j ≡ some u → v.opens ≡ true → is_split u ≡ true
    → Kept T W word (set (set views i (joined v u)) j gone)
keeps_join T W word views k i j v u at apart at' o s =
    let w = joined v u in
    let middle : List View = set views i w in
    let fit = k.each i v at in
    let here = opens_there T W word views k i v at o in
    let there : get_elem? views j ≡ some u =
    ⊎_elim (λ (t : (j ≡ i) × (w ≡ u)). absurd (apart t.0)) (λ (t : (j ≢ i) × (get_elem? views j ≡ some u)). t.1) (at_set views i j w u at') in
    let fits = k.each j u there in
    let no : is_split v ≡ false = rw o refl in
    let no' : is_split w ≡ false = rw o refl in
    let counted : count_by is_split (set middle j gone) + 1 ≡ count_by is_split views =
    omega (arith, sum_at (λ y. one_if (is_split y)) views i v w at, sum_at (λ y. one_if (is_split y)) middle j u gone at', ap one_if no, ap one_if no', ap one_if s) in
    let S : ℕ = count_by is_split (set middle j gone) in
    let shut : u.opens ≡ false = ⊎_elim (λ (t : u.opens ≡ true). absurd (true≢false (sym s ∙ rw t refl))) (λ f. f) (cases_Bool u.opens) in
    let mine : Fits T W S w =
    record {
      gone = λ g. absurd (both_ways v.gone here g);
      sizes = λ _. fit.sizes here;
      split = λ e. absurd (both_ways (is_split w) no' e);
      out = λ _. omega (arith, fit.out o);
      seats = λ _. omega (arith, fit.seats o, fit.out o);
      opening = λ _. omega (arith, fit.opening o, past_join T v.drawn u.drawn, (fits.split s).0, one_if_le u.spent);
    } in
    let none : Fits T W S gone =
    record {
      gone = λ _. (refl, refl);
      sizes = λ e. absurd (true≢false e);
      split = λ e. absurd (false≢true e);
      out = λ e. absurd (false≢true e);
      seats = λ e. absurd (false≢true e);
      opening = λ e. absurd (false≢true e);
    } in
    record {
      once = λ x.
          omega (arith, sum_at (λ (y : View). times x y.drawn) views i v w at, sum_at (λ (y : View). times x y.drawn) middle j u gone at', sum_by-append (λ z. one_if (z == x)) v.drawn u.drawn, k.once x);
      one_opens = omega (arith, sum_at (λ (y : View). one_if y.opens) views i v w at, sum_at (λ (y : View). one_if y.opens) middle j u gone at', ap one_if shut, k.one_opens);
      each = λ l y e.
          let Q : View → Type 0 = λ z. Fits T W S z in
          ⊎_elim
          (λ (t : (l ≡ j) × (gone ≡ y)). subst Q t.1 none)
          (λ (f : (l ≢ j) × (get_elem? middle l ≡ some y)).
          ⊎_elim
          (λ (t : (l ≡ i) × (w ≡ y)). subst Q t.1 mine)
          (λ (t : (l ≢ i) × (get_elem? views l ≡ some y)).
          ⊎_elim
          (λ (b : y.opens ≡ true). absurd (t.0 (sym (same_opening T W word views k i l v y at o t.1 b))))
          (λ (b : y.opens ≡ false). refit T W (count_by is_split views) S y b (k.each l y t.1))
          (cases_Bool y.opens))
          (at_set views i l w y f.1))
          (at_set middle j l gone y e);
    }
