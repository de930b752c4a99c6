-- The pieces that a reader keeps of the chunks of a packed file.
use Rattle.std.proofs.Common.{◌≡◌, inl, inr, ℕ, zero, suc, ◌+◌, ◌-◌, ◌<◌, ◌≤◌, Bool, cond, List, [], ◌∷◌, length, take, drop, get_or, refl, sym, ◌∙◌, ap, arith, eq-eqb}
use Rattle.std.specs.Prelude.{sum}
use Rattle.std.proofs.lemmas.Bool.{cases_eq, ne_eqb}
use Rattle.std.proofs.lemmas.List.{drop-drop, drop-take, length-drop, length-take, take_all}
use Rattle.laz_reader.specs.declared.seeking.Ends.{Ends}
use Rattle.laz_forms.specs.Pieces.{Piece, pieces_from}
use Rattle.laz_reader.specs.Keeping.{cuts_from, left_of, pieces_kept, skip_at, tail_at, taken_at}
use Rattle.laz_models.proofs.Public.{sum-cons}

module _ (ends : Ends) where
  pub kept_length : (number at : ℕ) (cs ss : List ℕ) → length cs ≡ length ss → length (pieces_kept ends number at cs ss) ≡ length cs
  kept_length number at [] ss same = refl
  kept_length number at (n ∷ cs) [] same = absurd (omega arith)
  kept_length number at (n ∷ cs) (s ∷ ss) same = ap suc (kept_length (number + 1) (at + s) cs ss (omega arith))

  -- the pieces one by one
  pub kept_at : (number at : ℕ) (cs ss : List ℕ) (k : ℕ) (d : Piece) → length cs ≡ length ss → k < length cs
      → get_or (pieces_kept ends number at cs ss) k d ≡ record { start = at + sum (take k ss); size = get_or ss k 0; count = get_or cs k 0; skip = skip_at ends (number + k); taken = taken_at ends (number + k) (get_or cs k 0) }
  kept_at number at [] ss k d same lt = absurd (omega arith)
  kept_at number at (n ∷ cs) [] k d same lt = absurd (omega arith)
  kept_at number at (n ∷ cs) (s ∷ ss) zero d same lt =
      let e : number ≡ number + 0 = omega arith in
      let f : at ≡ at + sum (take 0 (s ∷ ss)) = omega arith in
      λ i. record { start = f i; size = s; count = n; skip = skip_at ends (e i); taken = taken_at ends (e i) n }
  kept_at number at (n ∷ cs) (s ∷ ss) (suc k) d same lt =
      let e : number + 1 + k ≡ number + suc k = omega arith in
      let f : at + s + sum (take k ss) ≡ at + sum (s ∷ take k ss) = omega (arith, sum-cons s (take k ss)) in
      kept_at (number + 1) (at + s) cs ss k d (omega arith) (omega arith)
      ∙ (λ i. record { start = f i; size = get_or ss k 0; count = get_or cs k 0; skip = skip_at ends (e i); taken = taken_at ends (e i) (get_or cs k 0) })

  -- those after the first ones
  kept_drop : (n number at : ℕ) (cs ss : List ℕ) → length cs ≡ length ss → n ≤ length cs → pieces_kept ends (number + n) (at + sum (take n ss)) (drop n cs) (drop n ss) ≡ drop n (pieces_kept ends number at cs ss)
  kept_drop zero number at cs ss same within =
      let e : number + 0 ≡ number = omega arith in
      let f : at + sum (take 0 ss) ≡ at = omega arith in
      ap (λ (m : ℕ). pieces_kept ends m (at + sum (take 0 ss)) cs ss) e ∙ ap (λ (a : ℕ). pieces_kept ends number a cs ss) f
  kept_drop (suc n) number at [] ss same within = absurd (omega arith)
  kept_drop (suc n) number at (c ∷ cs) [] same within = absurd (omega arith)
  kept_drop (suc n) number at (c ∷ cs) (s ∷ ss) same within =
      let e : number + suc n ≡ number + 1 + n = omega arith in
      let f : at + sum (s ∷ take n ss) ≡ at + s + sum (take n ss) = omega (arith, sum-cons s (take n ss)) in
      ap (λ (m : ℕ). pieces_kept ends m (at + sum (s ∷ take n ss)) (drop n cs) (drop n ss)) e
      ∙ ap (λ (a : ℕ). pieces_kept ends (number + 1 + n) a (drop n cs) (drop n ss)) f
      ∙ kept_drop n (number + 1) (at + s) cs ss (omega arith) (omega arith)

  -- the rest of a part of a list
  pub rest_part : (last next n : ℕ) (xs : List ℕ) → next + n ≤ last → take (last - (next + n)) (drop (next + n) xs) ≡ drop n (take (last - next) (drop next xs))
  rest_part last next n xs within =
      let m : last - next ≡ n + (last - (next + n)) = omega (arith, within) in
      ap (take (last - (next + n))) (sym (drop-drop n next xs)) ∙ sym (drop-take n (last - (next + n)) (drop next xs)) ∙ ap (λ (k : ℕ). drop n (take k (drop next xs))) (sym m)

  pub left_step : (next at n : ℕ) (counts sizes : List ℕ) → length counts ≡ length sizes → next + n ≤ ends.last → ends.last ≤ length counts
      → left_of ends (next + n) (at + sum (take n (take (ends.last - next) (drop next sizes)))) counts sizes ≡ drop n (left_of ends next at counts sizes)
  left_step next at n counts sizes same within last =
      let m = ends.last - next in
      let cs = take m (drop next counts) in
      let ss = take m (drop next sizes) in
      let place = at + sum (take n ss) in
      let c : length cs ≡ m = omega (arith, length-take m (drop next counts), length-drop next counts, last) in
      let s : length ss ≡ m = omega (arith, length-take m (drop next sizes), length-drop next sizes, last, same) in
      ap (λ (t : List ℕ). pieces_kept ends (next + n) place t (take (ends.last - (next + n)) (drop (next + n) sizes))) (rest_part ends.last next n counts within)
      ∙ ap (λ (t : List ℕ). pieces_kept ends (next + n) place (drop n cs) t) (rest_part ends.last next n sizes within)
      ∙ kept_drop n next at cs ss (c ∙ sym s) (omega (arith, c, within))

  -- what is left out of them, one by one
  pub cuts_length : (number : ℕ) (cs : List ℕ) → length (cuts_from ends number cs) ≡ length cs
  cuts_length number [] = refl
  cuts_length number (n ∷ cs) = ap suc (cuts_length (number + 1) cs)

  pub cuts_at : (number : ℕ) (cs : List ℕ) (k : ℕ) (d : ℕ × ℕ) → k < length cs → get_or (cuts_from ends number cs) k d ≡ (skip_at ends (number + k), taken_at ends (number + k) (get_or cs k 0))
  cuts_at number [] k d lt = absurd (omega arith)
  cuts_at number (n ∷ cs) zero d lt =
      let e : number ≡ number + 0 = omega arith in
      λ i. (skip_at ends (e i), taken_at ends (e i) n)
  cuts_at number (n ∷ cs) (suc k) d lt =
      let e : number + 1 + k ≡ number + suc k = omega arith in
      cuts_at (number + 1) cs k d (omega arith) ∙ (λ i. (skip_at ends (e i), taken_at ends (e i) (get_or cs k 0)))

  -- a chunk whose cut is listed is one of the chunks
  pub cut_below : (batch next i : ℕ) (counts : List ℕ) → i < length (cuts_from ends batch (take (next - batch) (drop batch counts))) → (i < next - batch) × (batch + i < length counts) × (i < length (take (next - batch) (drop batch counts)))
  cut_below batch next i counts lt =
      let most : i < length (take (next - batch) (drop batch counts)) = omega (arith, lt, cuts_length batch (take (next - batch) (drop batch counts))) in
      (omega (arith, most, length-take (next - batch) (drop batch counts)), omega (arith, most, length-take (next - batch) (drop batch counts), length-drop batch counts), most)

  -- no more is left out than there is
  pub skip_fits : (counts : List ℕ) → ends.skip ≤ get_or counts ends.first 0 → (k : ℕ) → skip_at ends k ≤ get_or counts k 0
  skip_fits counts front k = elim (cases_eq k ends.first) [
    | inl same ↦
        let here : skip_at ends k ≡ ends.skip = ap (λ (b : Bool). cond b ends.skip 0) (eq-eqb k ends.first same) in
        omega (arith, here, front, ap (λ (j : ℕ). get_or counts j 0) same)
    | inr other ↦
        let none : skip_at ends k ≡ 0 = ap (λ (b : Bool). cond b ends.skip 0) (ne_eqb k ends.first other) in
        omega (arith, none)
  ]

  -- if nothing is left out, the pieces are whole
  module _ (skip : ends.skip ≡ 0) (tail : ends.tail ≡ 0) where
    no_skip : (k : ℕ) → skip_at ends k ≡ 0
    no_skip k = elim (cases_eq k ends.first) [
      | inl same ↦ ap (λ (b : Bool). cond b ends.skip 0) (eq-eqb k ends.first same) ∙ skip
      | inr other ↦ ap (λ (b : Bool). cond b ends.skip 0) (ne_eqb k ends.first other)
    ]

    no_tail : (k : ℕ) → tail_at ends k ≡ 0
    no_tail k = elim (cases_eq (k + 1) ends.last) [
      | inl same ↦ ap (λ (b : Bool). cond b ends.tail 0) (eq-eqb (k + 1) ends.last same) ∙ tail
      | inr other ↦ ap (λ (b : Bool). cond b ends.tail 0) (ne_eqb (k + 1) ends.last other)
    ]

    kept_whole : (number at : ℕ) (cs ss : List ℕ) → pieces_kept ends number at cs ss ≡ pieces_from at cs ss
    kept_whole number at [] ss = refl
    kept_whole number at (n ∷ cs) [] = refl
    kept_whole number at (n ∷ cs) (s ∷ ss) =
        let k : skip_at ends number ≡ 0 = no_skip number in
        let t : taken_at ends number n ≡ n = omega (arith, k, no_tail number) in
        λ i. record { start = at; size = s; count = n; skip = k i; taken = t i } ∷ kept_whole (number + 1) (at + s) cs ss i

    pub left_whole : (at : ℕ) (counts sizes : List ℕ) → length counts ≡ length sizes → ends.last ≡ length counts → left_of ends 0 at counts sizes ≡ pieces_from at counts sizes
    left_whole at counts sizes same last =
        let cs = take_all (ends.last - 0) counts (omega (arith, last)) in
        let ss = take_all (ends.last - 0) sizes (omega (arith, last, same)) in
        ap (λ (t : List ℕ). pieces_kept ends 0 at t (take (ends.last - 0) sizes)) cs ∙ ap (pieces_kept ends 0 at counts) ss ∙ kept_whole 0 at counts sizes
