-- What a plan keeps of records that are thinned.
use Rattle.std.proofs.Common.{◌≡◌, ℕ, suc, ◌+◌, ◌<◌, Bool, true, false, cond, not, ◌&&◌, ◌||◌, List, [], ◌∷◌, ◌++◌}
use Rattle.std.proofs.Common.{length, map, Option, is_some, refl, sym, ◌∙◌, ap, subst, arith, append_assoc, inl}
use Rattle.std.specs.List.{filter, list_any, AllByRecursion}
use Rattle.std.proofs.lemmas.List.{map-append, append-nil}
use Rattle.std.proofs.lemmas.List.Elements.{filter-append}
use Rattle.std.proofs.lemmas.List.Folds.{list_any-append}
use Rattle.las_filter.specs.Filters.{keeps_all}
use Rattle.las_filter.specs.Changes.{changed}
use Rattle.las_filter.specs.Kept.{Kept, Steps, kept, kept_of, kept_and}
use Rattle.las_filter.proofs.Public.{grows}
use Rattle.las_thin.specs.Placed.{Placed, placed, AreAscending}
use Rattle.las_thin.specs.Sieving.{Settings, PicksFirst, sifted, stays}
use Rattle.las_thin.specs.Laws.{LaterChangesNothing}
use Rattle.las_thin.specs.Kept.{numbered, passing, kept_of_placed, KeepsAsThePlan, KeepsWhatStays, KeepsOneByOne}
use Rattle.las_thin.specs.Kept.{FirstKeepsOneByOne, PlacesAscend}
use Rattle.las_thin.proofs.Members.{by_bool, In, each, for_each, append_left-In, append_right-In, or_false, or_true}
use Rattle.las_thin.proofs.Foremost.{ascending_filter, below_last}
use Rattle.las_thin.proofs.Thinned.{is_placed, place_after, sifts_one_by_one, sifts_whole}

abbrev Points : Type 0
Points = List (List ℕ)

-- ---- places

numbered_above : (n m : ℕ) (records : Points) → n < m → AllByRecursion (λ b. n < b.place) (numbered m records)
numbered_above n m [] lt = tt
numbered_above n m (p ∷ records) lt = (lt, numbered_above n (suc m) records (omega arith))

numbered_ascend : (n : ℕ) (records : Points) → AreAscending (numbered n records)
numbered_ascend n [] = tt
numbered_ascend n (p ∷ records) = (numbered_above n (suc n) records (omega arith), numbered_ascend (suc n) records)

pub places_ascend : PlacesAscend
places_ascend plan records = ascending_filter (λ a. keeps_all plan.keeps a.point) (numbered 0 records)
    (numbered_ascend 0 records)

numbered-push : (n : ℕ) (records : Points) (point : List ℕ)
    → numbered n (records ++ point ∷ []) ≡ numbered n records ++ placed (n + length records) point ∷ []
numbered-push n [] point = ap (λ (k : ℕ). placed k point ∷ []) (omega arith)
numbered-push n (p ∷ records) point =
    ap (λ (xs : List Placed). placed n p ∷ xs)
    (numbered-push (suc n) records point ∙ ap (λ (k : ℕ). numbered (suc n) records ++ placed k point ∷ [])
    (omega arith))

-- one that passes the filters more, or one that does not
pub passing-push : (plan : Steps) (records : Points) (point : List ℕ)
    → passing plan (records ++ point ∷ []) ≡ passing plan records ++ cond (keeps_all plan.keeps point)
    (placed (length records) point ∷ []) []
passing-push plan records point =
    let test = λ (a : Placed). keeps_all plan.keeps a.point in
    ap (filter test) (numbered-push 0 records point
    ∙ ap (λ (k : ℕ). numbered 0 records ++ placed k point ∷ []) (omega arith))
    ∙ filter-append test (numbered 0 records) (placed (length records) point ∷ [])

-- ---- without a sieve

outcomes_of : (plan : Steps) (n : ℕ) (records : Points)
    → map (λ (a : Placed). changed plan.changes a.point)
    (filter (λ a. keeps_all plan.keeps a.point) (numbered n records)) ≡ map (changed plan.changes)
    (filter (keeps_all plan.keeps) records)
outcomes_of plan n [] = refl
outcomes_of plan n (p ∷ records) = by_bool (keeps_all plan.keeps p)
    (λ t. rw t (ap (λ (xs : List (Option (List ℕ))). changed plan.changes p ∷ xs) (outcomes_of plan (suc n) records)))
    (λ f. rw f (outcomes_of plan (suc n) records))

pub keeps_as_the_plan : KeepsAsThePlan
keeps_as_the_plan plan records = ap kept_of (outcomes_of plan 0 records)

-- ---- thinned

pub keeps_what_stays : KeepsWhatStays
keeps_what_stays plan settings records = ap (kept_of_placed plan)
    (sym (sifts_whole settings (passing plan records) (places_ascend plan records)))

abbrev both_pass : (Placed → Bool) → Steps → Placed → Bool
both_pass test plan a = keeps_all plan.keeps a.point && test a

filtered-push : (test : Placed → Bool) (plan : Steps) (records : Points) (point : List ℕ)
    → filter test (passing plan (records ++ point ∷ []))
    ≡ filter test (passing plan records) ++ cond (both_pass test plan (placed (length records) point))
    (placed (length records) point ∷ []) []
filtered-push test plan records point =
    ap (filter test) (passing-push plan records point)
    ∙ filter-append test (passing plan records) (cond (keeps_all plan.keeps point) (placed (length records) point ∷ [])
    [])
    ∙ ap (λ (xs : List Placed). filter test (passing plan records) ++ xs)
    (by_bool (keeps_all plan.keeps point) (λ t. rw t refl) (λ f. rw f refl))

-- the plan with its changes alone keeps all records
abbrev changing : Steps → Steps
changing plan = record { keeps = []; changes = plan.changes }

all_pass : (plan : Steps) (records : List Placed)
    → map (changed plan.changes) (filter (keeps_all []) (map (λ (a : Placed). a.point) records)) ≡ map
    (λ (a : Placed). changed plan.changes a.point) records
all_pass plan [] = refl
all_pass plan (a ∷ records) = ap (λ (xs : List (Option (List ℕ))). changed plan.changes a.point ∷ xs)
    (all_pass plan records)

kept_points : (plan : Steps) (records : List Placed)
    → kept (changing plan) (map (λ (a : Placed). a.point) records) ≡ kept_of_placed plan records
kept_points plan records = ap kept_of (all_pass plan records)

pushed : (plan : Steps) (before : List Placed) (a : Placed) (passes : Bool)
    → kept_of_placed plan (before ++ cond passes (a ∷ []) [])
    ≡ cond (is_some (kept_of_placed plan before).raw_range || not passes) (kept_of_placed plan before)
    (kept_and (kept_of_placed plan before) (changed plan.changes a.point))
pushed plan before a true =
    sym (kept_points plan (before ++ a ∷ []))
    ∙ ap (kept (changing plan)) (map-append (λ (b : Placed). b.point) before (a ∷ []))
    ∙ grows (changing plan) (map (λ (b : Placed). b.point) before) a.point
    ∙ ap (λ (k : Kept). cond (is_some k.raw_range || false) k (kept_and k (changed plan.changes a.point)))
    (kept_points plan before)
pushed plan before a false =
    ap (kept_of_placed plan) (append-nil before)
    ∙ ap (λ (b : Bool). cond b (kept_of_placed plan before)
    (kept_and (kept_of_placed plan before) (changed plan.changes a.point)))
    (sym (or_true (is_some (kept_of_placed plan before).raw_range)))

pub keeps_one_by_one : KeepsOneByOne
keeps_one_by_one test plan records point =
    ap (kept_of_placed plan) (filtered-push test plan records point)
    ∙ pushed plan (filter test (passing plan records)) (placed (length records) point)
    (both_pass test plan (placed (length records) point))

-- ---- with the first of a cell

ascending_left : (xs ys : List Placed) → AreAscending (xs ++ ys) → AreAscending xs
ascending_left [] ys up = tt
ascending_left (x ∷ xs) ys up = (
  for_each (λ (b : Placed). x.place < b.place) xs
      (λ b h. each (λ (b : Placed). x.place < b.place) (xs ++ ys) b up.0 (append_left-In xs ys b h)),
  ascending_left xs ys up.1,
)

-- a record further on
stays-push : (settings : Settings) (R : List Placed) (a b : Placed) → PicksFirst settings.pick → AreAscending (R ++ b ∷ [])
    → In a R
    → stays settings (R ++ b ∷ []) a ≡ stays settings R a
stays-push settings R a b first up h =
    ap (list_any (is_placed a)) (sifts_one_by_one settings R b first up)
    ∙ list_any-append (is_placed a) (sifted settings R) (cond (stays settings (R ++ b ∷ []) b) (b ∷ []) [])
    ∙ by_bool (stays settings (R ++ b ∷ []) b)
    (λ t. rw t (rw (place_after a b (below_last R b a up h)) (or_false (list_any (is_placed a) (sifted settings R)))))
    (λ f. rw f (or_false (list_any (is_placed a) (sifted settings R))))

stays_further : (settings : Settings) (after R : List Placed) (a : Placed) → PicksFirst settings.pick
    → AreAscending (R ++ after) → In a R
    → stays settings (R ++ after) a ≡ stays settings R a
stays_further settings [] R a first up h = ap (λ (xs : List Placed). stays settings xs a) (append-nil R)
stays_further settings (b ∷ after) R a first up h =
    let one : (R ++ b ∷ []) ++ after ≡ R ++ b ∷ after = append_assoc R (b ∷ []) after in
    let whole : AreAscending ((R ++ b ∷ []) ++ after) = subst AreAscending (sym one) up in
    ap (λ (xs : List Placed). stays settings xs a) (sym one)
    ∙ stays_further settings after (R ++ b ∷ []) a first whole (append_left-In R (b ∷ []) a h)
    ∙ stays-push settings R a b first (ascending_left (R ++ b ∷ []) after whole) h

pub later_changes_nothing : LaterChangesNothing
later_changes_nothing settings before after a first up =
    let one : (before ++ a ∷ []) ++ after ≡ before ++ a ∷ after = append_assoc before (a ∷ []) after in
    ap (λ (xs : List Placed). stays settings xs a) (sym one)
    ∙ stays_further settings after (before ++ a ∷ []) a first (subst AreAscending (sym one) up)
    (append_right-In before (a ∷ []) a (inl refl))

-- ---- kept one by one

first_if : (settings : Settings) (plan : Steps) (before : List Placed) (a : Placed) (keeps : Bool)
    → PicksFirst settings.pick
    → (keeps ≡ true → AreAscending (before ++ a ∷ []))
    → kept_of_placed plan (sifted settings (before ++ cond keeps (a ∷ []) []))
    ≡ cond (is_some (kept_of_placed plan (sifted settings before)).raw_range || not
    (keeps && stays settings (before ++ a ∷ []) a))
    (kept_of_placed plan (sifted settings before))
    (kept_and (kept_of_placed plan (sifted settings before)) (changed plan.changes a.point))
first_if settings plan before a true first up =
    ap (kept_of_placed plan) (sifts_one_by_one settings before a first (up refl))
    ∙ pushed plan (sifted settings before) a (stays settings (before ++ a ∷ []) a)
first_if settings plan before a false first up =
    ap (λ (xs : List Placed). kept_of_placed plan (sifted settings xs)) (append-nil before)
    ∙ ap (λ (b : Bool). cond b (kept_of_placed plan (sifted settings before))
    (kept_and (kept_of_placed plan (sifted settings before)) (changed plan.changes a.point)))
    (sym (or_true (is_some (kept_of_placed plan (sifted settings before)).raw_range)))

pub first_keeps_one_by_one : FirstKeepsOneByOne
first_keeps_one_by_one settings plan records point first =
    let a = placed (length records) point in
    ap (λ (xs : List Placed). kept_of_placed plan (sifted settings xs)) (passing-push plan records point)
    ∙ first_if settings plan (passing plan records) a (keeps_all plan.keeps point) first
    (λ t. subst AreAscending (passing-push plan records point
    ∙ ap (λ (b : Bool). passing plan records ++ cond b (a ∷ []) []) t) (places_ascend plan (records ++ point ∷ [])))
