-- The parts of equal numbers of records, in the order of their first records: joined they are the records again, and each
-- stands under its name.
use Rattle.std.proofs.Common.{◌≡◌, inl, inr, ℕ, zero, suc, ◌+◌, ◌*◌, ◌/◌, ◌<◌, ◌≤◌, ◌==◌, not, Bool, true, false, cond, List, [], ◌∷◌, ◌++◌, length, map, Some, refl, sym, ◌∙◌, ap, subst, eq-eqb, length-append, arith}
use Rattle.std.specs.Prelude.{All, filter, slice_index_or}
use Rattle.std.specs.FinMap as finmap
use Rattle.std.specs.List.{concat}
use Rattle.std.proofs.lemmas.Bool.{cases_lt}
use Rattle.std.proofs.lemmas.List.Folds.{concat-append}
use Rattle.std.proofs.Math.Nat.{div-le_self}
use Rattle.las_filter.specs.declared.rule.Rule.{Rule}
use Rattle.las_filter.specs.declared.rule.Rule.TheVariants.{Every}
use Rattle.las_header.specs.Fields.{record_length_of}
use Rattle.las_outside.specs.Files.{FileMap}
use Rattle.las_outside.proofs.Public.{get-insert_same, get-with_value, same_other}
use Rattle.laz_range.specs.Span.{IsBytes}
use Rattle.laz_table.proofs.Public.{IsBytes-append}
use Rattle.las_merge.specs.Inputs.{item_at}
use Rattle.las_merge.specs.Parts.{IsPart}
use Rattle.las_split.specs.Parts.{firsts, number_by, numbers_from, part_from}
use Rattle.las_split.proofs.Public.{not_there, AreDistinct, IsAbsent, next_div, low}
use Rattle.laz_file.specs.Endings.{with_all}

-- ---- numbers

-- ---- lists without a number
abbrev other : ℕ → ℕ → Bool
other m k = not (k == m)

keep : (t : ℕ → Bool) (n : ℕ) (xs : List ℕ) → t n ≡ true → filter t (n ∷ xs) ≡ n ∷ filter t xs
keep t n xs is = ap (λ (b : Bool). cond b (n ∷ filter t xs) (filter t xs)) is

skip : (t : ℕ → Bool) (n : ℕ) (xs : List ℕ) → t n ≡ false → filter t (n ∷ xs) ≡ filter t xs
skip t n xs is = ap (λ (b : Bool). cond b (n ∷ filter t xs) (filter t xs)) is

swap : (p q : ℕ → Bool) (ns : List ℕ) → filter p (filter q ns) ≡ filter q (filter p ns)
swap p q [] = refl
swap p q (n ∷ ns) = by (p n) (q n) refl refl (swap p q ns)
  where
    by : (a b : Bool) → p n ≡ a → q n ≡ b → filter p (filter q ns) ≡ filter q (filter p ns) → filter p (cond b (n ∷ filter q ns) (filter q ns)) ≡ filter q (cond a (n ∷ filter p ns) (filter p ns))
    by true true pa qb rest = keep p n (filter q ns) pa ∙ ap (λ (t : List ℕ). n ∷ t) rest ∙ sym (keep q n (filter p ns) qb)
    by true false pa qb rest = rest ∙ sym (skip q n (filter p ns) qb)
    by false true pa qb rest = skip p n (filter q ns) pa ∙ rest
    by false false pa qb rest = rest

twice : (p : ℕ → Bool) (ns : List ℕ) → filter p (filter p ns) ≡ filter p ns
twice p [] = refl
twice p (n ∷ ns) = by (p n) refl (twice p ns)
  where
    by : (a : Bool) → p n ≡ a → filter p (filter p ns) ≡ filter p ns → filter p (cond a (n ∷ filter p ns) (filter p ns)) ≡ cond a (n ∷ filter p ns) (filter p ns)
    by true is rest = keep p n (filter p ns) is ∙ ap (λ (t : List ℕ). n ∷ t) rest
    by false is rest = rest

-- a number below all is none of them
kept : (n at j : ℕ) (rs : List (List ℕ)) → 0 < n → j < at / n → filter (other j) (firsts (numbers_from (Every n) at rs)) ≡ firsts (numbers_from (Every n) at rs)
kept n at j [] some less = refl
kept n at j (r ∷ rs) some less =
    let after = firsts (numbers_from (Every n) (at + 1) rs) in
    let apart : other j (at / n) ≡ true = ap not (not_there j (at / n) (λ e. absurd (omega (arith, less, e)))) in
    keep (other j) (at / n) (filter (other (at / n)) after) apart
    ∙ ap (λ (t : List ℕ). at / n ∷ t) (swap (other j) (other (at / n)) after ∙ ap (filter (other (at / n))) (kept n (at + 1) j rs some (omega (arith, less, next_div n at some))))

-- ---- parts, one after another
abbrev pub joined : (ℕ → List (List ℕ)) → List ℕ → List (List ℕ)
joined f [] = []
joined f (n ∷ ns) = f n ++ joined f ns

same_others : (n at : ℕ) (r : List ℕ) (rs : List (List ℕ)) (ns : List ℕ) → joined (part_from (Every n) at (r ∷ rs)) (filter (other (at / n)) ns) ≡ joined (part_from (Every n) (at + 1) rs) (filter (other (at / n)) ns)
same_others n at r rs [] = refl
same_others n at r rs (k ∷ ns) = by (k == at / n) refl (same_others n at r rs ns)
  where
    by : (b : Bool) → (k == at / n) ≡ b → joined (part_from (Every n) at (r ∷ rs)) (filter (other (at / n)) ns) ≡ joined (part_from (Every n) (at + 1) rs) (filter (other (at / n)) ns)
        → joined (part_from (Every n) at (r ∷ rs)) (cond (not b) (k ∷ filter (other (at / n)) ns) (filter (other (at / n)) ns)) ≡ joined (part_from (Every n) (at + 1) rs) (cond (not b) (k ∷ filter (other (at / n)) ns) (filter (other (at / n)) ns))
    by true is rest = rest
    by false is rest =
        let apart : (at / n == k) ≡ false = not_there k (at / n) (λ e. (let t : true ≡ false = sym (eq-eqb k (at / n) (sym e)) ∙ is in cc)) in
        ap (λ (b : Bool). cond b (r ∷ part_from (Every n) (at + 1) rs k) (part_from (Every n) (at + 1) rs k) ++ joined (part_from (Every n) at (r ∷ rs)) (filter (other (at / n)) ns)) apart
        ∙ ap (λ (t : List (List ℕ)). part_from (Every n) (at + 1) rs k ++ t) rest

-- the part of the number before, and those of the others
with_rest : (n at : ℕ) (rs : List (List ℕ)) → 0 < n → joined (part_from (Every n) (at + 1) rs) (firsts (numbers_from (Every n) (at + 1) rs)) ≡ rs
    → part_from (Every n) (at + 1) rs (at / n) ++ joined (part_from (Every n) (at + 1) rs) (filter (other (at / n)) (firsts (numbers_from (Every n) (at + 1) rs))) ≡ rs
with_rest n at [] some all = refl
with_rest n at (q ∷ qs) some all =
    let rs = q ∷ qs in
    let g = part_from (Every n) (at + 1) rs in
    let after = firsts (numbers_from (Every n) (at + 1) rs) in
    elim (cases_lt (at / n) ((at + 1) / n)) [
      | inl less ↦
          ap (λ (t : List (List ℕ)). t ++ joined g (filter (other (at / n)) after)) (low n (at + 1) (at / n) rs some less)
          ∙ ap (joined g) (kept n (at + 1) (at / n) rs some less) ∙ all
      | inr more ↦
          let same : at / n ≡ (at + 1) / n = omega (arith, more, next_div n at some) in
          let m = (at + 1) / n in
          let later = firsts (numbers_from (Every n) (at + 1 + 1) qs) in
          let gone : filter (other m) (m ∷ filter (other m) later) ≡ filter (other m) later = skip (other m) m (filter (other m) later) (ap not (eq-eqb m m refl)) ∙ twice (other m) later in
          subst (λ (k : ℕ). g k ++ joined g (filter (other k) after) ≡ rs) (sym same) (ap (λ (t : List ℕ). g m ++ joined g t) gone ∙ all)
    ]

pub join : (n at : ℕ) (rs : List (List ℕ)) → 0 < n → joined (part_from (Every n) at rs) (firsts (numbers_from (Every n) at rs)) ≡ rs
join n at [] some = refl
join n at (r ∷ rs) some =
    let m = at / n in
    let g = part_from (Every n) (at + 1) rs in
    let after = firsts (numbers_from (Every n) (at + 1) rs) in
    ap (λ (b : Bool). cond b (r ∷ g m) (g m) ++ joined (part_from (Every n) at (r ∷ rs)) (filter (other m) after)) (eq-eqb m m refl)
    ∙ ap (λ (t : List (List ℕ)). r ∷ (g m ++ t)) (same_others n at r rs after)
    ∙ ap (λ (t : List (List ℕ)). r ∷ t) (with_rest n at rs some (join n (at + 1) rs some))

pub bytes_joined : (f : ℕ → List (List ℕ)) (ns : List ℕ) → concat (map (λ k. concat (f k)) ns) ≡ concat (joined f ns)
bytes_joined f [] = refl
bytes_joined f (n ∷ ns) = ap (λ (t : List ℕ). concat (f n) ++ t) (bytes_joined f ns) ∙ sym (concat-append (f n) (joined f ns))

-- ---- numbers of parts are small
abbrev AreBelow : ℕ → List ℕ → Type 0
AreBelow b [] = Unit {0}
AreBelow b (n ∷ ns) = (n < b) × AreBelow b ns

below_numbers : (b n at : ℕ) (rs : List (List ℕ)) → at + length rs ≤ b → AreBelow b (numbers_from (Every n) at rs)
below_numbers b n at [] fits = tt
below_numbers b n at (r ∷ rs) fits = (omega (arith, fits, div-le_self at n), below_numbers b n (at + 1) rs (omega (arith, fits)))

below_filter : (b : ℕ) (t : ℕ → Bool) (ns : List ℕ) → AreBelow b ns → AreBelow b (filter t ns)
below_filter b t [] below = tt
below_filter b t (n ∷ ns) below = by (t n) (below_filter b t ns below.1)
  where
    by : (c : Bool) → AreBelow b (filter t ns) → AreBelow b (cond c (n ∷ filter t ns) (filter t ns))
    by true rest = (below.0, rest)
    by false rest = rest

below_firsts : (b : ℕ) (ns : List ℕ) → AreBelow b ns → AreBelow b (firsts ns)
below_firsts b [] below = tt
below_firsts b (n ∷ ns) below = (below.0, below_filter b (other n) (firsts ns) (below_firsts b ns below.1))

all_below : (b : ℕ) (ns : List ℕ) → AreBelow b ns → All (λ k. k < b) ns
all_below b [] below = λ k d within. absurd (omega (arith, within))
all_below b (n ∷ ns) below = go (all_below b ns below.1)
  where
    go : All (λ k. k < b) ns → (k d : ℕ) → k < length (n ∷ ns) → slice_index_or (n ∷ ns) k d < b
    go rest zero d within = below.0
    go rest (suc k) d within = rest k d (omega (arith, within))

pub parts_below : (b n : ℕ) (rs : List (List ℕ)) → length rs ≤ b → All (λ k. k < b) (firsts (numbers_from (Every n) 0 rs))
parts_below b n rs few = all_below b _ (below_firsts b _ (below_numbers b n 0 rs (omega (arith, few))))

-- ---- files under names that differ
untouched : (m : FileMap) (name : List ℕ) (ps : List (List ℕ × List ℕ)) → IsAbsent name ps → finmap.get (with_all m ps) name ≡ finmap.get m name
untouched m name [] absent = refl
untouched m name (p ∷ ps) absent =
    untouched (finmap.insert m p.0 p.1) name ps absent.1
    ∙ get-with_value m p.0 (Some p.1) name
    ∙ ap (λ (b : Bool). cond b (Some p.1) (finmap.get m name)) (same_other name p.0 (λ e. absent.0 (sym e)))

pub stands : (m : FileMap) (ps : List (List ℕ × List ℕ)) → AreDistinct ps → (k : ℕ) → k < length ps → finmap.get (with_all m ps) (item_at (map (λ p. p.0) ps) k) ≡ Some (item_at (map (λ p. p.1) ps) k)
stands m [] distinct k within = absurd (omega (arith, within))
stands m (p ∷ ps) distinct zero within = untouched (finmap.insert m p.0 p.1) p.0 ps distinct.0 ∙ get-insert_same m p.0 p.1
stands m (p ∷ ps) distinct (suc k) within = stands (finmap.insert m p.0 p.1) ps distinct.1 k (omega (arith, within))

-- ---- whole records
part_is : (rule : Rule) (head : List ℕ) (at : ℕ) (rs : List (List ℕ)) (k : ℕ) → All (λ r. length r ≡ record_length_of head) rs → All IsBytes rs → IsPart head (concat (part_from rule at rs k))
part_is rule head at [] k each bytes = record { count = 0; whole = omega arith; bytes = λ i. omega arith }
part_is rule head at (r ∷ rs) k each bytes = by (number_by rule at r == k) (part_is rule head (at + 1) rs k (λ j d lt. each (suc j) d (omega (arith, lt))) (λ j d lt. bytes (suc j) d (omega (arith, lt))))
  where
    by : (b : Bool) → IsPart head (concat (part_from rule (at + 1) rs k)) → IsPart head (concat (cond b (r ∷ part_from rule (at + 1) rs k) (part_from rule (at + 1) rs k)))
    by false rest = rest
    by true rest = record {
      count = rest.count + 1;
      whole =
          let first : length r ≡ record_length_of head = each 0 [] (omega arith) in
          let more : record_length_of head * (rest.count + 1) ≡ record_length_of head * rest.count + record_length_of head = omega arith in
          length-append r (concat (part_from rule (at + 1) rs k)) ∙ omega (arith, first, rest.whole, more);
      bytes = IsBytes-append r (concat (part_from rule (at + 1) rs k)) (bytes 0 [] (omega arith)) rest.bytes;
    }

pub parts_are : (rule : Rule) (head : List ℕ) (rs : List (List ℕ)) (ns : List ℕ) → All (λ r. length r ≡ record_length_of head) rs → All IsBytes rs → All (IsPart head) (map (λ k. concat (part_from rule 0 rs k)) ns)
parts_are rule head rs [] each bytes = λ k d within. absurd (omega (arith, within))
parts_are rule head rs (n ∷ ns) each bytes = go (parts_are rule head rs ns each bytes)
  where
    go : All (IsPart head) (map (λ j. concat (part_from rule 0 rs j)) ns) → (k : ℕ) (d : List ℕ) → k < length (map (λ j. concat (part_from rule 0 rs j)) (n ∷ ns))
        → IsPart head (slice_index_or (map (λ j. concat (part_from rule 0 rs j)) (n ∷ ns)) k d)
    go rest zero d within = part_is rule head 0 rs n each bytes
    go rest (suc k) d within = rest k d (omega (arith, within))
