-- Records that are kept, some after others.
use Rattle.std.proofs.Common.{◌≡◌, ℕ, Bool, true, false, cond, not, ◌||◌, List, [], ◌∷◌, ◌++◌, length, Option, Some}
use Rattle.std.proofs.Common.{None, is_some, refl, sym, ◌∙◌, ap, append_assoc}
use Rattle.std.proofs.lemmas.List.{append-nil}
use Rattle.las_filter.specs.Kept.{Kept, Steps, kept, kept_and}
use Rattle.las_filter.specs.Filters.{keeps_all}
use Rattle.las_filter.specs.Changes.{changed}
use Rattle.las_filter.proofs.Public.{grows}
use Rattle.las_convert.specs.Adding.{Adds, Keeping}

-- what is kept, of its two parts
abbrev pub kept_from : List (List ℕ) → Option ℕ → Kept
kept_from records raw_range = record { records = records; raw_range = raw_range }

abbrev pub refused_at : Bool → List (List ℕ) → Option ℕ
refused_at refused records = cond refused (Some (length records)) None

-- what is kept with one record more, which passes or not, and is then changed or refused
abbrev pub GrowsBy : Keeping → (before : List (List ℕ)) → (point : List ℕ) → (passes : Bool) → Option (List ℕ) → Type 0
GrowsBy keeping before point passes out =
    keeping (before ++ point ∷ []) ≡ cond (is_some (keeping before).raw_range || not passes) (keeping before)
    (kept_and (keeping before) out)

-- What is kept of a list is said one record at a time.
pub record IsKeeping (keeping : Keeping) : Type 0 where
  pub start : keeping [] ≡ record { records = []; raw_range = None }
  pub grows : (before : List (List ℕ)) (point : List ℕ)
      → (passes : Bool) × (out : Option (List ℕ)) × GrowsBy keeping before point passes out

pub plan_keeps : (plan : Steps) → IsKeeping (kept plan)
plan_keeps plan = record {
  start = refl;
  grows = λ before point. (keeps_all plan.keeps point, changed plan.changes point, grows plan before point);
}

pub adds_same : (one two : Keeping) → ((records : List (List ℕ)) → one records ≡ two records)
    → (before xs os : List (List ℕ)) (refused : Bool) → Adds one before xs os refused → Adds two before xs os refused
adds_same one two same before xs os refused adds none =
    let here = same before in
    sym (same (before ++ xs))
    ∙ adds (ap (λ (k : Kept). k.raw_range) here ∙ none)
    ∙ ap (λ (k : Kept). kept_from (k.records ++ os) (refused_at refused (k.records ++ os))) here

pub adds_none : (keeping : Keeping) (before : List (List ℕ)) → Adds keeping before [] [] false
adds_none keeping before none =
    ap keeping (append-nil before)
    ∙ ap (λ (r : Option ℕ). kept_from (keeping before).records r) none
    ∙ ap (λ (rs : List (List ℕ)). kept_from rs None) (sym (append-nil (keeping before).records))

-- records after records
pub adds_then : (keeping : Keeping) (before xs ys os bs : List (List ℕ)) (refused : Bool)
    → Adds keeping before xs os false → Adds keeping (before ++ xs) ys bs refused
    → Adds keeping before (xs ++ ys) (os ++ bs) refused
adds_then keeping before xs ys os bs refused one two none =
    let first = one none in
    let old = (keeping before).records in
    let clear : (keeping (before ++ xs)).raw_range ≡ None = ap (λ (k : Kept). k.raw_range) first in
    ap keeping (sym (append_assoc before xs ys))
    ∙ two clear
    ∙ ap (λ (rs : List (List ℕ)). kept_from (rs ++ bs) (refused_at refused (rs ++ bs)))
    (ap (λ (k : Kept). k.records) first)
    ∙ ap (λ (rs : List (List ℕ)). kept_from rs (refused_at refused rs)) (append_assoc old os bs)

-- one record, which passes or not
pub adds_dropped : (keeping : Keeping) (before : List (List ℕ)) (point : List ℕ) (passes : Bool) (out : Option (List ℕ))
    → GrowsBy keeping before point passes out → passes ≡ false → Adds keeping before (point ∷ []) [] false
adds_dropped keeping before point passes out grow drops none =
    grow
    ∙ ap (λ (b : Bool). cond (is_some (keeping before).raw_range || not b) (keeping before)
    (kept_and (keeping before) out)) drops
    ∙ by (is_some (keeping before).raw_range)
    ∙ ap (λ (r : Option ℕ). kept_from (keeping before).records r) none
    ∙ ap (λ (rs : List (List ℕ)). kept_from rs None) (sym (append-nil (keeping before).records))
  where
    by : (b : Bool) → cond (b || true) (keeping before) (kept_and (keeping before) out) ≡ keeping before
    by true = refl
    by false = refl

passes_is : (keeping : Keeping) (before : List (List ℕ)) (point : List ℕ) (passes : Bool) (out : Option (List ℕ))
    → GrowsBy keeping before point passes out → (keeping before).raw_range ≡ None → passes ≡ true
    → keeping (before ++ point ∷ []) ≡ kept_and (kept_from (keeping before).records None) out
passes_is keeping before point passes out grow none pass =
    grow
    ∙ ap (λ (b : Bool). cond (is_some (keeping before).raw_range || not b) (keeping before)
    (kept_and (keeping before) out)) pass
    ∙ ap (λ (r : Option ℕ). cond (is_some r || false) (kept_from (keeping before).records r)
    (kept_and (kept_from (keeping before).records r) out)) none

pub adds_kept : (keeping : Keeping) (before : List (List ℕ)) (point new : List ℕ) (passes : Bool)
    (out : Option (List ℕ)) → GrowsBy keeping before point passes out → passes ≡ true → out ≡ Some new
    → Adds keeping before (point ∷ []) (new ∷ []) false
adds_kept keeping before point new passes out grow pass made none =
    passes_is keeping before point passes out grow none pass
    ∙ ap (λ (o : Option (List ℕ)). kept_and (kept_from (keeping before).records None) o) made

pub adds_refused : (keeping : Keeping) (before : List (List ℕ)) (point : List ℕ) (passes : Bool) (out : Option (List ℕ))
    → GrowsBy keeping before point passes out → passes ≡ true → out ≡ None → Adds keeping before (point ∷ []) [] true
adds_refused keeping before point passes out grow pass refused none =
    passes_is keeping before point passes out grow none pass
    ∙ ap (λ (o : Option (List ℕ)). kept_and (kept_from (keeping before).records None) o) refused
    ∙ ap (λ (rs : List (List ℕ)). kept_from rs (Some (length rs))) (sym (append-nil (keeping before).records))

-- what comes after a refused record changes nothing
stays : (keeping : Keeping) → IsKeeping keeping → (before : List (List ℕ)) (k : ℕ) (ys : List (List ℕ))
    → (keeping before).raw_range ≡ Some k → keeping (before ++ ys) ≡ keeping before
stays keeping keeps before k [] is = ap keeping (append-nil before)
stays keeping keeps before k (y ∷ ys) is =
    let g = keeps.grows before y in
    let one : keeping (before ++ y ∷ []) ≡ keeping before =
    g.2 ∙ ap (λ (r : Option ℕ). cond (is_some r || not g.0) (keeping before) (kept_and (keeping before) g.1)) is in
    ap keeping (sym (append_assoc before (y ∷ []) ys))
    ∙ stays keeping keeps (before ++ y ∷ []) k ys (ap (λ (x : Kept). x.raw_range) one ∙ is) ∙ one

pub adds_more : (keeping : Keeping) → IsKeeping keeping → (before xs ys os : List (List ℕ))
    → Adds keeping before xs os true → Adds keeping before (xs ++ ys) os true
adds_more keeping keeps before xs ys os one none =
    let first = one none in
    let all = (keeping before).records ++ os in
    ap keeping (sym (append_assoc before xs ys)) ∙ stays keeping keeps (before ++ xs) (length all) ys
    (ap (λ (x : Kept). x.raw_range) first) ∙ first

-- what is kept of the records themselves
pub adds_all : (keeping : Keeping) → IsKeeping keeping → (xs os : List (List ℕ)) (refused : Bool)
    → Adds keeping [] xs os refused → keeping xs ≡ kept_from os (refused_at refused os)
adds_all keeping keeps xs os refused one =
    one (ap (λ (k : Kept). k.raw_range) keeps.start)
    ∙ ap (λ (k : Kept). kept_from (k.records ++ os) (refused_at refused (k.records ++ os))) keeps.start

pub stays_all : (keeping : Keeping) → IsKeeping keeping → (xs ys : List (List ℕ)) (k : ℕ)
    → (keeping xs).raw_range ≡ Some k → keeping (xs ++ ys) ≡ keeping xs
stays_all keeping keeps xs ys k is = stays keeping keeps xs k ys is
