-- Every run of steps keeps the rule.
use Rattle.std.proofs.Common.{◌≡◌, ℕ, zero, suc, ◌<◌, false, List, [], ◌∷◌, refl, sym, ap, ◌∙◌, subst, arith}
use Rattle.std.specs.Prelude.{nat_lt}
use Rattle.std.proofs.lemmas.Bool.{false≢true, both_ways}
use Rattle.std.proofs.lemmas.Bool.Decides.{nat_tests}
use mathlib.Core.Option.{some, some-injective, some-ne-none}
use lib.ListN.{get_elem?}
use Rattle.atomic_table.proofs.Lists.{set_else}
use Rattle.laz_workers.specs.declared.view.View.{View}
use Rattle.laz_workers.specs.declared.view.Sizes.{Sizes}
use Rattle.laz_workers.specs.Numbers.{one_if}
use Rattle.laz_workers.specs.Claims.{is_split, opened, joined, Fits, Kept, Claiming, Event, splits, draws, joins, closes, made, Leads, Run, EveryRunKeepsTheRule, EveryCloseIsWhole}
use Rattle.laz_workers.proofs.Rule.{keeps_draw, keeps_split, keeps_join, whole, bound}

pub kept_first : (z : Sizes) → 0 < z.workers → Kept z.total z.workers 0 (opened z ∷ [])
kept_first z some_worker = record {
  once = λ x. let none : nat_lt x 0 ≡ false = grind (arith, nat_tests) in sym (ap one_if none);
  one_opens = refl;
  each = first;
}
  where
    fits : Fits z.total z.workers 0 (opened z)
    fits = record {
      gone = λ e. absurd (false≢true e);
      sizes = λ _. (refl, refl);
      split = λ e. absurd (false≢true e);
      out = λ _. refl;
      seats = λ _. omega arith;
      opening = λ _. omega arith;
    }

    first : (i : ℕ) (v : View) → get_elem? (opened z ∷ []) i ≡ some v → Fits z.total z.workers 0 v
    first zero v e = let P : View → Type 0 = λ u. Fits z.total z.workers 0 u in subst P (some-injective _ _ e) fits
    first (suc i) v e = absurd (some-ne-none v (sym e))

-- one state of claims keeps the rule
abbrev IsKept : ℕ → ℕ → Claiming → Type 0
IsKept total workers s = Kept total workers s.word s.views

keeps : (total workers : ℕ) (s : Claiming) (e : Event) (t : Claiming) → IsKept total workers s → Leads s e t → IsKept total workers t
keeps total workers s (splits i) t k l = subst (IsKept total workers) (sym l.4) (keeps_split total workers s.word s.views k i l.0 l.1 l.2 l.3)
keeps total workers s (draws i) t k l = subst (IsKept total workers) (sym l.4) (keeps_draw total workers s.word s.views k i l.0 l.1 l.2 l.3)
keeps total workers s (joins i j) t k l =
    let v = l.0 in
    let u = l.1 in
    let apart : ¬ (j ≡ i) =
    λ (e : j ≡ i).
    let P : ℕ → Type 0 = λ n. get_elem? s.views n ≡ some u in
    let same : v ≡ u = some-injective v u (sym l.2 ∙ subst P e l.3) in
    let off : is_split v ≡ false = rw l.4 refl in
    both_ways (is_split v) off (ap is_split same ∙ l.5) in
    subst (IsKept total workers) (sym l.6) (keeps_join total workers s.word s.views k i j v u l.2 apart (set_else s.views i j (joined v u) apart ∙ l.3) l.4 l.5)
keeps total workers s (closes i) t k l = subst (IsKept total workers) (sym l.4) k

runs : (total workers : ℕ) (events : List Event) (s t : Claiming) → IsKept total workers s → Run s events t → IsKept total workers t
runs total workers [] s t k r = subst (IsKept total workers) (sym r) k
runs total workers (e ∷ es) s t k r = runs total workers es r.0 t (keeps total workers s e r.0 k r.1) r.2

pub every_run : EveryRunKeepsTheRule
every_run sizes events s range r =
    let k = runs sizes.total sizes.workers events (made sizes) s (kept_first sizes range.1) r in
    (k, bound sizes.total sizes.workers s.word s.views k)

pub every_close : EveryCloseIsWhole
every_close total workers s i k l v at =
    let same : v ≡ l.0 = some-injective v l.0 (sym at ∙ l.1) in
    whole total workers s.word s.views k i v at (ap (λ (u : View). u.opens) same ∙ l.2) (ap (λ (u : View). u.out) same ∙ l.3)
