-- Records that pass the filters of a plan and then a sieve.
use Rattle.std.proofs.Common.{◌≡◌, ℕ, suc, ◌+◌, ◌<◌, ◌≤◌, Bool, true, false, cond, not, ◌&&◌, ◌||◌, List, [], ◌∷◌, ◌++◌, length, Option, Some, None, is_some, refl, sym, ◌∙◌, ap, subst, arith}
use Rattle.std.specs.Prelude.{IfSome}
use Rattle.std.specs.Option.{unwrap_or}
use Rattle.std.specs.List.{filter, AllByRecursion}
use Rattle.std.proofs.lemmas.List.{append-nil}
use Rattle.las_filter.specs.Filters.{keeps_all}
use Rattle.las_filter.specs.Changes.{changed}
use Rattle.las_filter.specs.Kept.{Steps, kept, kept_and}
use Rattle.las_thin.specs.declared.pick.Pick.{Pick}
use Rattle.las_thin.specs.declared.pick.Pick.TheVariants.{First, Lowest, Highest}
use Rattle.las_thin.specs.Placed.{Placed, placed, last_place}
use Rattle.las_thin.specs.Kept.{numbered, passing, kept_behind, kept_of_placed, kept_where}
use Rattle.las_thin.specs.Sieving.{Settings, Sieving, PicksFirst, all_pass, dropped_to, picks_first, sifted, stays}
use Rattle.las_thin.specs.Sieving.{thinned_to}
use Rattle.las_thin.specs.Sieving as sieve
use Rattle.las_thin.proofs.Public.{by_bool, passing-push, first_keeps_one_by_one, keeps_as_the_plan, keeps_one_by_one, keeps_what_stays}
use Rattle.las_convert.specs.Adding.{IsAfter, kept_by}
use Rattle.las_convert.specs.Passing.{KeepsOneMore, passes_after}
use Rattle.las_convert.proofs.Adding.{IsKeeping}

-- ---- what is kept, one record at a time

pub first_pick : (pick : Pick) → picks_first pick ≡ true → PicksFirst pick
first_pick First e = tt
first_pick Lowest e = absurd (let clash : false ≡ true = e in cc)
first_pick Highest e = absurd (let clash : false ≡ true = e in cc)

pub is_first : (pick : Pick) → PicksFirst pick → picks_first pick ≡ true
is_first First first = refl
is_first Lowest first = absurd first
is_first Highest first = absurd first

pub keeps_one_more : KeepsOneMore
keeps_one_more settings looked plan before point = by (picks_first settings.pick) (first_pick settings.pick)
  where
    a : Placed
    a = placed (length before) point

    by : (b : Bool) → (b ≡ true → PicksFirst settings.pick)
        → cond b (kept_behind plan settings (before ++ point ∷ [])) (kept_where (stays settings looked) plan (before ++ point ∷ []))
        ≡ cond (is_some (cond b (kept_behind plan settings before) (kept_where (stays settings looked) plan before)).raw_range
        || not (keeps_all plan.keeps point && stays settings (cond b (passing plan before ++ placed (length before) point ∷ []) looked) (placed (length before) point)))
        (cond b (kept_behind plan settings before) (kept_where (stays settings looked) plan before))
        (kept_and (cond b (kept_behind plan settings before) (kept_where (stays settings looked) plan before)) (changed plan.changes point))
    by true first = first_keeps_one_by_one settings plan before point (first refl)
    by false first = keeps_one_by_one (stays settings looked) plan before point

sifted_none : (settings : Settings) → sifted settings [] ≡ []
sifted_none settings = by settings.unique settings.step
  where
    thinned : (step : Option ℕ) → thinned_to step settings.pick [] ≡ []
    thinned None = refl
    thinned (Some n) = refl

    by : (unique : Bool) (step : Option ℕ) → thinned_to step settings.pick (dropped_to unique []) ≡ []
    by true step = thinned step
    by false step = thinned step

kept_none : (settings : Settings) (looked : List Placed) (plan : Steps) → kept_by settings looked plan [] ≡ record { records = []; raw_range = None }
kept_none settings looked plan = by (picks_first settings.pick)
  where
    by : (b : Bool) → cond b (kept_behind plan settings []) (kept_where (stays settings looked) plan []) ≡ record { records = []; raw_range = None }
    by true = ap (kept_of_placed plan) (sifted_none settings)
    by false = refl

pub sieve_keeps : (settings : Settings) (looked : List Placed) (plan : Steps) → IsKeeping (kept_by settings looked plan)
sieve_keeps settings looked plan = record {
  start = kept_none settings looked plan;
  grows = λ before point. (passes_after settings looked plan before point, changed plan.changes point, keeps_one_more settings looked plan before point);
}

-- ---- what is kept by a sieve, and behind it

pub kept_as_plan : (settings : Settings) (looked : List Placed) (plan : Steps) (records : List (List ℕ)) → settings ≡ all_pass → kept plan records ≡ kept_by settings looked plan records
kept_as_plan settings looked plan records is =
    sym (keeps_as_the_plan plan records) ∙ ap (λ (s : Settings). kept_by s looked plan records) (sym is)

pub kept_as_first : (settings : Settings) (looked : List Placed) (plan : Steps) (records : List (List ℕ)) → PicksFirst settings.pick → kept_by settings looked plan records ≡ kept_behind plan settings records
kept_as_first settings looked plan records first =
    ap (λ (b : Bool). cond b (kept_behind plan settings records) (kept_where (stays settings looked) plan records)) (is_first settings.pick first)

-- the records that were looked at are those that pass
pub kept_as_looked : (settings : Settings) (plan : Steps) (records : List (List ℕ)) → kept_by settings (passing plan records) plan records ≡ kept_behind plan settings records
kept_as_looked settings plan records = by (picks_first settings.pick)
  where
    by : (b : Bool) → cond b (kept_behind plan settings records) (kept_where (stays settings (passing plan records)) plan records) ≡ kept_behind plan settings records
    by true = refl
    by false = sym (keeps_what_stays plan settings records)

-- a sieve that no more records came to
pub no_more : (looked : List Placed) (plan : Steps) (before : List (List ℕ)) (sieving : Sieving) → sieve.HasSifted looked (passing plan before) sieving → sieve.HasSifted looked (passing plan (before ++ [])) sieving
no_more looked plan before sieving stands = subst (λ (records : List (List ℕ)). sieve.HasSifted looked (passing plan records) sieving) (sym (append-nil before)) stands

-- a sieve that no record came to, of a passage whose buffer has grown
pub after_start : (plan : Steps) (looked : List Placed) (old new : Sieving) (read now : ℕ) → new ≡ old → now ≡ read → read ≡ 0 → sieve.HasSifted looked [] old → IsAfter plan looked [] new now
after_start plan looked old new read now same still none stands = record {
  read_is = sym (still ∙ none);
  stands = λ other. subst (λ (s : Sieving). sieve.HasSifted looked [] s) (sym same) stands;
}

-- ---- places of the records that pass

below : (plan : Steps) (n m : ℕ) (records : List (List ℕ)) → n + length records ≤ m → AllByRecursion (λ b. b.place < m) (filter (λ a. keeps_all plan.keeps a.point) (numbered n records))
below plan n m [] few = tt
below plan n m (p ∷ records) few =
    let rest = below plan (suc n) m records (omega (arith, few)) in
    by_bool (keeps_all plan.keeps p) (λ t. rw t (omega (arith, few), rest)) (λ f. rw f rest)

last_below : (m : ℕ) (records : List Placed) → AllByRecursion (λ b. b.place < m) records → IfSome (last_place records) (λ last. last < m)
last_below m [] all = tt
last_below m (a ∷ records) all = by (last_place records) (last_below m records all.1)
  where
    by : (o : Option ℕ) → IfSome o (λ last. last < m) → unwrap_or o a.place < m
    by None h = all.0
    by (Some last) h = h

pub last_passed : (plan : Steps) (before : List (List ℕ)) (m : ℕ) → length before ≡ m → IfSome (last_place (passing plan before)) (λ last. last < m)
last_passed plan before m is = last_below m (passing plan before) (below plan 0 m before (omega (arith, is)))

-- a record more that the filters drop, or that passes them
pub passing_dropped : (plan : Steps) (before : List (List ℕ)) (point : List ℕ) → keeps_all plan.keeps point ≡ false → passing plan (before ++ point ∷ []) ≡ passing plan before
passing_dropped plan before point drops =
    passing-push plan before point
    ∙ ap (λ (b : Bool). passing plan before ++ cond b (placed (length before) point ∷ []) []) drops
    ∙ append-nil (passing plan before)

pub passing_more : (plan : Steps) (before : List (List ℕ)) (point : List ℕ) (place : ℕ) → keeps_all plan.keeps point ≡ true → length before ≡ place → passing plan (before ++ point ∷ []) ≡ passing plan before ++ placed place point ∷ []
passing_more plan before point place keeps is =
    passing-push plan before point
    ∙ ap (λ (b : Bool). passing plan before ++ cond b (placed (length before) point ∷ []) []) keeps
    ∙ ap (λ (n : ℕ). passing plan before ++ placed n point ∷ []) is
