-- What converting gives is the only thing that it can give.
use Rattle.std.proofs.Common.{◌≡◌, inl, inr, ℕ, zero, suc, ◌%◌, ◌<◌, ◌≤◌, Bool, true, false, cond, not, ◌||◌, List, [], ◌∷◌, ◌++◌, length, take, Option, Some, None, is_some, refl, sym, ◌∙◌, ap, subst, append_assoc, arith}
use Rattle.std.specs.Prelude.{All}
use Rattle.std.specs.List.{concat}
use Rattle.std.proofs.lemmas.Bool.{cases_lt}
use Rattle.std.proofs.lemmas.List.{append-nil}
use Rattle.las_header.specs.Fields.{head_of, record_length_of}
use Rattle.las_header.specs.Plain.{cut_all}
use Rattle.las_header.proofs.Public.{cut_none}
use Rattle.las_filter.specs.Kept.{Kept, kept_and}
use Rattle.laz_forms.specs.Pieces.{Piece}
use Rattle.laz_forms.specs.Records.{HoldBlocks, HoldOnly}
use Rattle.laz_forms.proofs.Public.{concat-append, even_all}
use Rattle.laz_reader.proofs.Public.{fewer_first, more_first}
use Rattle.laz_writer.proofs.Public.{cut-append}
use Rattle.las_convert.specs.Adding.{Adds, Keeping}
use Rattle.las_convert.specs.Converting.{kept_in}
use Rattle.las_convert.proofs.Adding.{IsKeeping, adds_all, stays_all}

-- ---- records in blocks, and in more blocks

pub even_front : (size : ℕ) (ys more : List (List ℕ)) → All (λ block. length block % size ≡ 0) (ys ++ more) → All (λ block. length block % size ≡ 0) ys
even_front size [] more all k d lt = absurd (omega arith)
even_front size (y ∷ ys) more all zero d lt = all 0 d (omega (arith, lt))
even_front size (y ∷ ys) more all (suc k) d lt = even_front size ys more (λ j e below. all (suc j) e (omega (arith, below))) k d (omega (arith, lt))

-- the records of blocks and of more blocks
pub cut_both : (size : ℕ) (xs more : List (List ℕ)) → 0 < size → All (λ block. length block % size ≡ 0) xs → cut_all size (concat (xs ++ more)) ≡ cut_all size (concat xs) ++ cut_all size (concat more)
cut_both size xs more some even = ap (cut_all size) (concat-append xs more) ∙ cut-append size (concat xs) (concat more) some (even_all size xs even)

-- ---- what is kept of more records begins with what is kept of fewer

next_kept : (keeping : Keeping) → IsKeeping keeping → (xs : List (List ℕ)) (y : List ℕ) → (more : List (List ℕ)) × ((keeping (xs ++ y ∷ [])).records ≡ (keeping xs).records ++ more)
next_kept keeping keeps xs y =
    let k = keeping xs in
    let g = keeps.grows xs y in
    let p = by (is_some k.raw_range || not g.0) g.1 in
    (p.0, ap (λ (x : Kept). x.records) g.2 ∙ p.1)
  where
    by : (b : Bool) (o : Option (List ℕ)) → (more : List (List ℕ)) × ((cond b (keeping xs) (kept_and (keeping xs) o)).records ≡ (keeping xs).records ++ more)
    by true o = ([], sym (append-nil (keeping xs).records))
    by false None = ([], sym (append-nil (keeping xs).records))
    by false (Some point) = (point ∷ [], refl)

pub kept_begins : (keeping : Keeping) → IsKeeping keeping → (xs ys : List (List ℕ)) → (more : List (List ℕ)) × ((keeping (xs ++ ys)).records ≡ (keeping xs).records ++ more) × (ys ≡ [] → more ≡ [])
kept_begins keeping keeps xs [] = ([], ap (λ (t : List (List ℕ)). (keeping t).records) (append-nil xs) ∙ sym (append-nil (keeping xs).records), λ e. refl)
kept_begins keeping keeps xs (y ∷ ys) =
    let one = next_kept keeping keeps xs y in
    let rest = kept_begins keeping keeps (xs ++ y ∷ []) ys in (
      one.0 ++ rest.0,
      ap (λ (t : List (List ℕ)). (keeping t).records) (sym (append_assoc xs (y ∷ []) ys)) ∙ rest.1 ∙ ap (λ (t : List (List ℕ)). t ++ rest.0) one.1 ∙ append_assoc (keeping xs).records one.0 rest.0,
      λ e. absurd (let clash : y ∷ ys ≡ [] = e in cc),
    )

-- ---- what is kept in the blocks that were read, and in any others

-- records of the file have bytes
pub record HasRecords (file : List ℕ) : Type 0 where
  pub some : 0 < record_length_of (head_of file)

pub raw_clash : (k : ℕ) (r : Option ℕ) → r ≡ Some k → r ≡ None → ⊥
raw_clash k r one two = let clash : Some k ≡ None = sym one ∙ two in cc

module _ (keeping : Keeping) (keeps : IsKeeping keeping) (file : List ℕ) (s : HasRecords file) where
  abbrev size : ℕ
  size = record_length_of (head_of file)

  -- what is kept in more blocks, if a record is refused
  pub stays_in : (xs more : List (List ℕ)) (k : ℕ) → All (λ block. length block % record_length_of (head_of file) ≡ 0) xs → (kept_in keeping file xs).raw_range ≡ Some k → kept_in keeping file (xs ++ more) ≡ kept_in keeping file xs
  stays_in xs more k even is =
      ap keeping (cut_both size xs more s.some even) ∙ stays_all keeping keeps (cut_all size (concat xs)) (cut_all size (concat more)) k is

  -- a refused record is the same one in all blocks that can be read
  pub same_refused : (pieces : List Piece) (n m : ℕ) (xs ys : List (List ℕ)) (k j : ℕ) → HoldOnly file (take n pieces) xs → All (λ block. length block % record_length_of (head_of file) ≡ 0) xs → HoldBlocks file (take m pieces) ys
      → (kept_in keeping file xs).raw_range ≡ Some k → (kept_in keeping file ys).raw_range ≡ Some j → kept_in keeping file ys ≡ kept_in keeping file xs
  same_refused pieces n m xs ys k j only even hold mine theirs = elim (cases_lt m n) [
    | inl less ↦
        let p = fewer_first file pieces n m xs ys only hold (omega (arith, less)) in
        let whole = subst (λ (bs : List (List ℕ)). All (λ block. length block % record_length_of (head_of file) ≡ 0) bs) p.1 even in
        sym (ap (kept_in keeping file) p.1 ∙ stays_in ys p.0 j (even_front size ys p.0 whole) theirs)
    | inr more ↦
        let p = more_first file pieces n m xs ys only hold more in
        ap (kept_in keeping file) p.1 ∙ stays_in xs p.0 k even mine
  ]

  -- a record is refused in the blocks that were read, if one is in others that end before them
  pub early_refused : (pieces : List Piece) (n m : ℕ) (xs ys : List (List ℕ)) (j : ℕ) → HoldOnly file (take n pieces) xs → All (λ block. length block % record_length_of (head_of file) ≡ 0) xs → HoldBlocks file (take m pieces) ys → m ≤ n
      → (kept_in keeping file ys).raw_range ≡ Some j → (kept_in keeping file xs).raw_range ≡ Some j
  early_refused pieces n m xs ys j only even hold less theirs =
      let p = fewer_first file pieces n m xs ys only hold less in
      let whole = subst (λ (bs : List (List ℕ)). All (λ block. length block % record_length_of (head_of file) ≡ 0) bs) p.1 even in
      ap (λ (x : Kept). x.raw_range) (ap (kept_in keeping file) p.1 ∙ stays_in ys p.0 j (even_front size ys p.0 whole) theirs) ∙ theirs

  -- what is kept of the first of the records, and what is kept in others
  pub first_kept : (xs zs : List (List ℕ)) (first rest ones : List (List ℕ)) (refused : Bool) → All (λ block. length block % record_length_of (head_of file) ≡ 0) xs → cut_all (record_length_of (head_of file)) (concat xs) ≡ first ++ rest → Adds keeping [] first ones refused
      → (more : List (List ℕ)) × ((kept_in keeping file (xs ++ zs)).records ≡ ones ++ more) × (zs ≡ [] → rest ≡ [] → more ≡ [])
  first_kept xs zs first rest ones refused even split adds =
      let all : cut_all size (concat (xs ++ zs)) ≡ first ++ (rest ++ cut_all size (concat zs)) = cut_both size xs zs s.some even ∙ ap (λ (t : List (List ℕ)). t ++ cut_all size (concat zs)) split ∙ append_assoc first rest (cut_all size (concat zs)) in
      let b = kept_begins keeping keeps first (rest ++ cut_all size (concat zs)) in
      let is = ap (λ (x : Kept). x.records) (adds_all keeping keeps first ones refused adds) in (
        b.0,
        ap (λ (t : List (List ℕ)). (keeping t).records) all ∙ b.1 ∙ ap (λ (t : List (List ℕ)). t ++ b.0) is,
        λ none empty. b.2 (ap (λ (t : List (List ℕ)). rest ++ cut_all size (concat t)) none ∙ ap (λ (t : List (List ℕ)). t ++ cut_all size []) empty ∙ cut_none size s.some),
      )
