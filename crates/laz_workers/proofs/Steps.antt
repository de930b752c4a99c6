-- What the atomic steps of the table ask, from the rule.
use Rattle.std.proofs.Common.{◌≡◌, ℕ, zero, suc, ◌+◌, ◌%◌, ◌^◌, ◌<◌, ◌≤◌, true, false, List, [], ◌∷◌, set, refl, sym, ap, ◌∙◌, subst, arith}
use Rattle.std.specs.Prelude.{slice_index, slice_set}
use mathlib.Core.Option.{some, none, some-injective, some-ne-none}
use lib.ListN.{get_elem?}
use Rattle.atomic_table.specs.Table.{Me, Act, keeps, step, Valid, homes_after, carried_after, Allows, Splits, Joins, Final, Seen}
use Rattle.atomic_table.proofs.Lists.{set_again}
use Rattle.laz_workers.specs.declared.view.View.{View}
use Rattle.laz_workers.specs.declared.view.Sizes.{Sizes}
use Rattle.laz_workers.specs.Numbers.{HoldsBelow}
use Rattle.laz_workers.specs.Claims.{is_split, split_from, split_off, drew, joined, gone, Kept, Holds, Draw, Look}
use Rattle.laz_workers.proofs.Rule.{keeps_draw, keeps_split, keeps_join, opens_there, whole, below, bound}

pub splits_hold : (z : Sizes) (id : ℕ) (v : View) → v.opens ≡ true → 0 < v.rest → Splits (Holds z) id v (split_from v) (split_off v)
splits_hold z id v o some_rest s h at = (h.0, (h.1.0, h.1.1, keeps_split z.total z.workers h.1.0 s.views h.1.2 id v at o some_rest))

pub joins_hold : (z : Sizes) (id : ℕ) (v : View) (other : ℕ) (u : View) → v.opens ≡ true → is_split u ≡ true → Joins (Holds z) id v other u (joined v u) gone
joins_hold z id v other u o split s h at apart there = (h.0, (h.1.0, h.1.1, keeps_join z.total z.workers h.1.0 s.views h.1.2 id other v u at apart there o split))

placed : (xs : List View) (i : ℕ) (a b : View) → get_elem? xs i ≡ some a → get_elem? (set xs i b) i ≡ some b
placed [] i a b e = absurd (some-ne-none a (sym e))
placed (x ∷ xs) zero a b e = refl
placed (x ∷ xs) (suc i) a b e = placed xs i a b e

pub draw_allowed : (z : Sizes) (slots id : ℕ) (me : Me (Unit {0}) View) → me.0.gone ≡ false → me.0.spent ≡ false
    → Allows (Holds z) slots id me 0 (λ n. (n + 1) % 2 ^ 64) (Draw (step slots 0 1 0 none) me)
draw_allowed z slots id me here unspent s h len at fits =
    let word = h.1.0 in
    let w = drew me.0 word in
    let P : List ℕ → Type 0 =
    λ ws. (w : View) × (a : Act (Unit {0})) × Valid s.homes me.1 a
    × Holds z record { words = slice_set ws 0 ((slice_index ws 0 + 1) % 2 ^ 64); homes = homes_after s.homes me.1 a; views = slice_set s.views id w }
    × Draw (step slots 0 1 0 none) me (slice_index ws 0) (w, carried_after me.1 a) in
    let small : (word + 1) % 2 ^ 64 ≡ word + 1 = omega (arith, bound z.total z.workers word s.views h.1.2, h.0.0, h.0.2) in
    subst P (sym h.1.1) (
      w,
      keeps,
      tt,
      (h.0, (word + 1, ap (λ n. n ∷ []) small, keeps_draw z.total z.workers word s.views h.1.2 id me.0 at here unspent)),
      record {
        view = refl;
        slots = refl;
        greater = below z.total z.workers word s.views h.1.2 id me.0 at;
        whole = λ o none_out.
            let after = keeps_draw z.total z.workers word s.views h.1.2 id me.0 at here unspent in
            whole z.total z.workers (word + 1) (set s.views id w) after id w (placed s.views id me.0 w at) o none_out;
      },
    )

pub look_allowed : (z : Sizes) (slots id : ℕ) (me : Me (Unit {0}) View) → Allows (Holds z) slots id me 0 (λ n. n) (Look (step slots 0 0 0 none) me)
look_allowed z slots id me s h len at fits =
    let word = h.1.0 in
    let P : List ℕ → Type 0 =
    λ ws. (w : View) × (a : Act (Unit {0})) × Valid s.homes me.1 a
    × Holds z record { words = slice_set ws 0 (slice_index ws 0); homes = homes_after s.homes me.1 a; views = slice_set s.views id w }
    × Look (step slots 0 0 0 none) me (slice_index ws 0) (w, carried_after me.1 a) in
    let Q : List View → Type 0 = λ vs. Kept z.total z.workers word vs in
    let fit = h.1.2.each id me.0 at in
    subst P (sym h.1.1) (
      me.0,
      keeps,
      tt,
      (h.0, (word, refl, subst Q (sym (set_again s.views id me.0 at)) h.1.2)),
      record {
        view = refl;
        slots = refl;
        whole = λ o none_out. whole z.total z.workers word s.views h.1.2 id me.0 at o none_out;
        seats = λ o. fit.seats o ∙ sym (fit.sizes (opens_there z.total z.workers word s.views h.1.2 id me.0 at o)).1;
      },
    )

pub closes : (z : Sizes) (id : ℕ) (v : View) (ws : List ℕ) (xs : List (Unit {0})) (n : ℕ) → Final (Seen (Holds z) id v) ws xs → get_elem? ws 0 ≡ some n → v.opens ≡ true → v.out ≡ 0
    → HoldsBelow n v.drawn × (n ≤ z.total + z.workers)
closes z id v ws xs n f at o none_out =
    let h = f.1.0.1 in
    let same : h.0 ≡ n = some-injective h.0 n (subst (λ (l : List ℕ). get_elem? l 0 ≡ some n) (sym f.2 ∙ h.1) at) in
    let P : ℕ → Type 0 = λ m. HoldsBelow m v.drawn × (m ≤ z.total + z.workers) in
    subst P same (whole z.total z.workers h.0 f.0.views h.2 id v f.1.1 o none_out, bound z.total z.workers h.0 f.0.views h.2)
