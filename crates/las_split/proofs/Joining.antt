-- Parts of equal numbers of records, one after another, are the records.
use Rattle.std.proofs.Common.{◌≡◌, inl, inr, ℕ, zero, suc, ◌+◌, ◌*◌, ◌/◌, ◌<◌, ◌≤◌, ◌==◌, Bool, false, cond, List, [], ◌∷◌, ◌++◌, length, refl, sym, ◌∙◌, ap, eq-eqb, arith}
use Rattle.std.proofs.lemmas.Bool.{cases_lt}
use Rattle.std.proofs.Math.Nat.{div-add-mod, mul-div-le, mul-le-mul_left}
use Rattle.las_filter.specs.declared.rule.Rule.TheVariants.{Every}
use Rattle.las_split.specs.Parts.{PartsJoin, joined_parts, part, part_from}
use Rattle.las_split.proofs.Opening.{not_there}

abbrev joined : (n at : ℕ) → List (List ℕ) → ℕ → List (List ℕ)
joined n at rs zero = []
joined n at rs (suc k) = joined n at rs k ++ part_from (Every n) at rs k

pub next_div : (n at : ℕ) → 0 < n → at / n ≤ (at + 1) / n
next_div n at some =
    let up : n * (at / n) ≤ at = mul-div-le at n in
    let down : at + 1 < n * ((at + 1) / n) + n = omega (arith, div-add-mod (at + 1) n) in
    let far : n * ((at + 1) / n) + n ≡ n * ((at + 1) / n + 1) = omega arith in
    elim (cases_lt ((at + 1) / n) (at / n)) [
      | inl less ↦
          let more : n * ((at + 1) / n + 1) ≤ n * (at / n) = mul-le-mul_left n (let e : (at + 1) / n + 1 ≤ at / n = omega (arith, less) in e) in
          absurd (omega (arith, more, far, down, up))
      | inr more ↦ more
    ]

-- no record is in a part before that of the first one
pub low : (n at j : ℕ) (rs : List (List ℕ)) → 0 < n → j < at / n → part_from (Every n) at rs j ≡ []
low n at j [] some less = refl
low n at j (r ∷ rs) some less =
    let rest = low n (at + 1) j rs some (omega (arith, less, next_div n at some)) in
    let other : (at / n == j) ≡ false = not_there j (at / n) (λ e. absurd (omega (arith, less, e))) in
    ap (λ (b : Bool). cond b (r ∷ part_from (Every n) (at + 1) rs j) (part_from (Every n) (at + 1) rs j)) other ∙ rest

none_low : (n at k : ℕ) (rs : List (List ℕ)) → 0 < n → k ≤ at / n → joined n at rs k ≡ []
none_low n at zero rs some less = refl
none_low n at (suc k) rs some less = ap (λ (t : List (List ℕ)). t ++ part_from (Every n) at rs k) (none_low n at k rs some (omega (arith, less))) ∙ low n at k rs some (omega (arith, less))

-- one record before others
one_more : (n at k : ℕ) (r : List ℕ) (rs : List (List ℕ)) → 0 < n → at / n < k → joined n at (r ∷ rs) k ≡ r ∷ joined n (at + 1) rs k
one_more n at zero r rs some more = absurd (omega (arith, more))
one_more n at (suc k) r rs some more = elim (cases_lt (at / n) k) [
  | inl later ↦
      let other : (at / n == k) ≡ false = not_there k (at / n) (λ e. absurd (omega (arith, later, e))) in
      ap (λ (t : List (List ℕ)). t ++ part_from (Every n) at (r ∷ rs) k) (one_more n at k r rs some later)
      ∙ ap (λ (b : Bool). (r ∷ joined n (at + 1) rs k) ++ cond b (r ∷ part_from (Every n) (at + 1) rs k) (part_from (Every n) (at + 1) rs k)) other
  | inr here ↦
      let same : at / n ≡ k = omega (arith, more, here) in
      ap (λ (t : List (List ℕ)). t ++ part_from (Every n) at (r ∷ rs) k) (none_low n at k (r ∷ rs) some here)
      ∙ ap (λ (b : Bool). cond b (r ∷ part_from (Every n) (at + 1) rs k) (part_from (Every n) (at + 1) rs k)) (eq-eqb (at / n) k same)
      ∙ ap (λ (t : List (List ℕ)). r ∷ (t ++ part_from (Every n) (at + 1) rs k)) (sym (none_low n (at + 1) k rs some (omega (arith, here, next_div n at some))))
]

no_records : (n at k : ℕ) → joined n at [] k ≡ []
no_records n at zero = refl
no_records n at (suc k) = ap (λ (t : List (List ℕ)). t ++ []) (no_records n at k)

all : (n at k : ℕ) (rs : List (List ℕ)) → 0 < n → at + length rs ≤ n * k → joined n at rs k ≡ rs
all n at k [] some fits = no_records n at k
all n at k (r ∷ rs) some fits =
    let up : n * (at / n) ≤ at = mul-div-le at n in
    let within : at / n < k = elim (cases_lt (at / n) k) [
      | inl less ↦ less
      | inr past ↦ absurd (omega (arith, mul-le-mul_left n past, up, fits))
    ] in
    one_more n at k r rs some within ∙ ap (λ (t : List (List ℕ)). r ∷ t) (all n (at + 1) k rs some (omega (arith, fits)))

pub parts_join : PartsJoin
parts_join n count records some fits = same count ∙ all n 0 count records some (omega (arith, fits))
  where
    same : (k : ℕ) → joined_parts (Every n) records k ≡ joined n 0 records k
    same zero = refl
    same (suc k) = ap (λ (t : List (List ℕ)). t ++ part (Every n) records k) (same k)
