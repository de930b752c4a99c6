-- Parts of blocks, cut at the ends of a range, are a slice of all of them.
use Rattle.std.proofs.Common.{◌≡◌, inl, inr, ℕ, ◌+◌, ◌-◌, ◌*◌, ◌<◌, ◌≤◌, nat_lt, Bool, cond, if◌then◌else◌, List, [], ◌∷◌, ◌++◌, length, take, drop, sym, ◌∙◌, ap, arith}
use Rattle.std.specs.Prelude.{max}
use Rattle.std.specs.List.{concat}
use Rattle.std.proofs.lemmas.Bool.{cases_lt, le-leb, lt-leb}
use Rattle.std.proofs.lemmas.List.{append-nil, drop-append-le, length-drop, length-take, nil_from_length, take-append-le, take_all}
use Rattle.std.proofs.Math.Nat.{mul-le-mul_left}
use Rattle.std.proofs.Math.Seq.{drop-append-add, take-append-add}
use Rattle.laz_forms.specs.Pieces.{Piece}
use Rattle.laz_forms.specs.Ranges.{Range, part_in, taken_of}
use Rattle.laz_forms.specs.Records.{cut_block}

-- of the blocks of pieces those parts that are in a range; the first record of the first piece has this place
abbrev pub parts_cut : (size : ℕ) → Range → (at : ℕ) → List Piece → (blocks : List (List ℕ)) → List (List ℕ)
parts_cut size range at [] blocks = []
parts_cut size range at (p ∷ pieces) [] = []
parts_cut size range at (p ∷ pieces) (b ∷ blocks) =
    if nat_lt 0 (taken_of range at p.count)
    then cut_block size (part_in range at p) b ∷ parts_cut size range (at + p.count) pieces blocks
    else parts_cut size range (at + p.count) pieces blocks

-- Blocks are whole records, each as many as its piece has.
abbrev pub AreWhole : (size : ℕ) → List Piece → (blocks : List (List ℕ)) → Type 0
AreWhole size [] [] = Unit {0}
AreWhole size [] (b ∷ blocks) = ⊥
AreWhole size (p ∷ pieces) [] = ⊥
AreWhole size (p ∷ pieces) (b ∷ blocks) = (length b ≡ size * p.count) × AreWhole size pieces blocks

module _ (size : ℕ) (range : Range) where
  -- the slice from the records of a place on
  abbrev part : (at : ℕ) → List ℕ → List ℕ
  part at bytes = take (size * (range.stop - max at range.start)) (drop (size * (range.start - at)) bytes)

  none : (at : ℕ) (bytes : List ℕ) → range.stop - max at range.start ≡ 0 → part at bytes ≡ []
  none at bytes e =
      let zero : size * (range.stop - max at range.start) ≡ 0 = ap (λ (n : ℕ). size * n) e ∙ omega arith in
      ap (λ (n : ℕ). take n (drop (size * (range.start - at)) bytes)) zero

  in_it : (at : ℕ) (p : Piece) (ps : List Piece) (b : List ℕ) (bs : List (List ℕ)) → 0 < taken_of range at p.count
      → parts_cut size range at (p ∷ ps) (b ∷ bs) ≡ cut_block size (part_in range at p) b ∷ parts_cut size range (at + p.count) ps bs
  in_it at p ps b bs some =
      let rest = parts_cut size range (at + p.count) ps bs in
      ap (λ (t : Bool). cond t (cut_block size (part_in range at p) b ∷ rest) rest) (le-leb 1 (taken_of range at p.count) (omega (arith, some)))

  out_of_it : (at : ℕ) (p : Piece) (ps : List Piece) (b : List ℕ) (bs : List (List ℕ)) → taken_of range at p.count ≡ 0
      → parts_cut size range at (p ∷ ps) (b ∷ bs) ≡ parts_cut size range (at + p.count) ps bs
  out_of_it at p ps b bs misses =
      let rest = parts_cut size range (at + p.count) ps bs in
      ap (λ (t : Bool). cond t (cut_block size (part_in range at p) b ∷ rest) rest) (lt-leb 1 (taken_of range at p.count) (omega (arith, misses)))

  -- a block before the range
  before : (at n : ℕ) (b more : List ℕ) → length b ≡ size * n → at + n ≤ max at range.start → part (at + n) more ≡ part at (b ++ more)
  before at n b more long early =
      let k = size * (range.start - (at + n)) in
      let there : range.start - at ≡ n + (range.start - (at + n)) = omega (arith, early) in
      let all : length b + k ≡ size * (range.start - at) = omega (arith, long, ap (λ (m : ℕ). size * m) there) in
      let most : range.stop - max (at + n) range.start ≡ range.stop - max at range.start = omega (arith, early) in
      ap (λ (m : ℕ). take (size * m) (drop k more)) most
      ∙ ap (λ (t : List ℕ). take (size * (range.stop - max at range.start)) t) (sym (drop-append-add b more k) ∙ ap (λ (m : ℕ). drop m (b ++ more)) all)

  -- a block that meets it
  module _ (at n : ℕ) (b more : List ℕ) (long : length b ≡ size * n) (meets : 0 < taken_of range at n) where
    kept : List ℕ
    kept = drop (size * (range.start - at)) b

    fits : size * (range.start - at) ≤ length b
    fits = let le : range.start - at ≤ n = omega (arith, meets) in omega (arith, long, mul-le-mul_left size le)

    kept_long : length kept ≡ size * (n - (range.start - at))
    unfolding kept
    kept_long =
        let split : n ≡ (range.start - at) + (n - (range.start - at)) = omega (arith, meets) in
        omega (arith, length-drop (size * (range.start - at)) b, long, ap (λ (m : ℕ). size * m) split)

    whole : part at (b ++ more) ≡ take (size * (range.stop - max at range.start)) (kept ++ more)
    unfolding kept
    whole = ap (λ (t : List ℕ). take (size * (range.stop - max at range.start)) t) (drop-append-le (size * (range.start - at)) b more fits)

    rest_is : part (at + n) more ≡ take (size * (range.stop - (at + n))) more
    rest_is =
        let no_skip : size * (range.start - (at + n)) ≡ 0 = ap (λ (m : ℕ). size * m) (let z : range.start - (at + n) ≡ 0 = omega (arith, meets) in z) ∙ omega arith in
        let most : range.stop - max (at + n) range.start ≡ range.stop - (at + n) = omega (arith, meets) in
        ap (λ (m : ℕ). take (size * (range.stop - max (at + n) range.start)) (drop m more)) no_skip ∙ ap (λ (m : ℕ). take (size * m) more) most

    pub joins : take (size * taken_of range at n) (drop (size * (range.start - at)) b) ++ part (at + n) more ≡ part at (b ++ more)
    unfolding kept
    joins = elim (cases_lt range.stop (at + n)) [
      | inl ends ↦
          let taken : taken_of range at n ≡ range.stop - max at range.start = omega (arith, ends, meets) in
          let few : range.stop - max at range.start ≤ n - (range.start - at) = omega (arith, ends, meets) in
          let short : size * (range.stop - max at range.start) ≤ length kept = omega (arith, kept_long, mul-le-mul_left size few) in
          let no_more : size * (range.stop - (at + n)) ≡ 0 = ap (λ (m : ℕ). size * m) (let z : range.stop - (at + n) ≡ 0 = omega (arith, ends) in z) ∙ omega arith in
          ap (λ (t : List ℕ). take (size * taken_of range at n) kept ++ t) (rest_is ∙ ap (λ (m : ℕ). take m more) no_more)
          ∙ append-nil (take (size * taken_of range at n) kept) ∙ ap (λ (m : ℕ). take (size * m) kept) taken
          ∙ sym (take-append-le (size * (range.stop - max at range.start)) kept more short) ∙ sym whole
      | inr goes_on ↦
          let taken : taken_of range at n ≡ n - (range.start - at) = omega (arith, goes_on, meets) in
          let split : range.stop - max at range.start ≡ (n - (range.start - at)) + (range.stop - (at + n)) = omega (arith, goes_on, meets) in
          let all : length kept + size * (range.stop - (at + n)) ≡ size * (range.stop - max at range.start) = omega (arith, kept_long, ap (λ (m : ℕ). size * m) split) in
          ap (λ (t : List ℕ). t ++ part (at + n) more) (ap (λ (m : ℕ). take (size * m) kept) taken ∙ take_all (size * (n - (range.start - at))) kept (omega (arith, kept_long)))
          ∙ ap (λ (t : List ℕ). kept ++ t) rest_is ∙ sym (take-append-add kept more (size * (range.stop - (at + n)))) ∙ ap (λ (m : ℕ). take m (kept ++ more)) all ∙ sym whole
    ]

  nothing : (at : ℕ) → part at [] ≡ []
  nothing at =
      let m = size * (range.stop - max at range.start) in
      let k = size * (range.start - at) in
      let l : List ℕ = [] in
      nil_from_length (take m (drop k l)) (omega (arith, length-take m (drop k l), length-drop k l))

  pub slice_from : (at : ℕ) (pieces : List Piece) (blocks : List (List ℕ)) → AreWhole size pieces blocks → range.start ≤ range.stop → concat (parts_cut size range at pieces blocks) ≡ part at (concat blocks)
  slice_from at [] [] whole order = sym (nothing at)
  slice_from at [] (b ∷ blocks) whole order = absurd whole
  slice_from at (p ∷ pieces) [] whole order = absurd whole
  slice_from at (p ∷ pieces) (b ∷ blocks) whole order = elim (cases_lt 0 (taken_of range at p.count)) [
    | inl some ↦
        ap concat (in_it at p pieces b blocks some)
        ∙ ap (λ (t : List ℕ). cut_block size (part_in range at p) b ++ t) (slice_from (at + p.count) pieces blocks whole.1 order)
        ∙ joins at p.count b (concat blocks) whole.0 some
    | inr misses ↦
        let zero : taken_of range at p.count ≡ 0 = omega (arith, misses) in
        ap concat (out_of_it at p pieces b blocks zero) ∙ slice_from (at + p.count) pieces blocks whole.1 order
        ∙ elim (cases_lt (max at range.start) (at + p.count)) [
          | inl past ↦
              none (at + p.count) (concat blocks) (omega (arith, past, zero, order)) ∙ sym (none at (b ++ concat blocks) (omega (arith, past, zero, order)))
          | inr early ↦ before at p.count b (concat blocks) whole.0 (omega (arith, early))
        ]
  ]

-- the records of a range are that slice of all records
pub slice : (size : ℕ) (range : Range) (pieces : List Piece) (blocks : List (List ℕ)) → AreWhole size pieces blocks → range.start ≤ range.stop
    → concat (parts_cut size range 0 pieces blocks) ≡ take (size * (range.stop - range.start)) (drop (size * range.start) (concat blocks))
slice size range pieces blocks whole order =
    let start : max 0 range.start ≡ range.start = omega arith in
    slice_from size range 0 pieces blocks whole order
    ∙ ap (λ (m : ℕ). take (size * (range.stop - m)) (drop (size * (range.start - 0)) (concat blocks))) start
    ∙ ap (λ (m : ℕ). take (size * (range.stop - range.start)) (drop (size * m) (concat blocks))) (omega arith)
