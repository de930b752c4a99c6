-- A row of bytes, walked one byte at a time.
use Rattle.std.proofs.Common.{◌≡◌, ℕ, zero, suc, ◌+◌, ◌<◌, replicate, Bool, false, List, [], ◌∷◌, ◌++◌, length, get_or, refl, sym, ap, subst, ◌∙◌, arith}
use Rattle.std.proofs.lemmas.List.{get_or-append-add, get_or-replicate, length-append, length-replicate}
use Rattle.laz_range.specs.Cut.{Cut}
use Rattle.laz_range.specs.Coding.{Coding, Codes}
use Rattle.laz_range.specs.Choice.{all_cuts, state_after}
use Rattle.laz_range.proofs.Public.{all_cuts-push, state_after-push, Codes-append}
use Rattle.laz_models.specs.Counting.{Counting}
use Rattle.laz_models.specs.Dist.{alphabet_size}
use Rattle.laz_models.specs.Bank.{model_at, alphabet_sizes}
use Rattle.laz_models.proofs.Public.{size-at}
use Rattle.laz_integer.specs.Fields.{byte_cuts, byte_next}
use Rattle.laz_rgb.specs.Rows.{AreRowModels, Row, first_mark, more_marks, next_cuts, next_row}

first-at : (marks : List Bool) → first_mark marks ≡ get_or marks 0 false
first-at [] = refl
first-at (t ∷ marks) = refl

more-at : (marks : List Bool) (n : ℕ) → get_or (more_marks marks) n false ≡ get_or marks (suc n) false
more-at [] n = refl
more-at (t ∷ marks) n = refl

-- where a row is after some symbols
pub model-after : (row : Row) (xs : List ℕ) → (state_after next_row row xs).model ≡ row.model + length xs
model-after row [] = omega arith
model-after row (x ∷ xs) = omega (arith, model-after (next_row row x) xs)

pub mark-after : (row : Row) (xs : List ℕ) → first_mark (state_after next_row row xs).marks ≡ get_or row.marks (length xs) false
mark-after row [] = first-at row.marks
mark-after row (x ∷ xs) = mark-after (next_row row x) xs ∙ more-at row.marks (length xs)

-- the parts of the next byte, and the models after it, in the words of a call on one byte
pub next-is : (row : Row) (xs : List ℕ) (i s : ℕ) (bank : List Counting) → length xs ≡ i → bank ≡ (state_after next_row row xs).bank
    → (next_cuts (state_after next_row row xs) s ≡ byte_cuts (get_or row.marks i false) bank (row.model + i) s) × ((next_row (state_after next_row row xs) s).bank ≡ byte_next (get_or row.marks i false) bank (row.model + i) s)
next-is row xs i s bank n e =
    let m = model-after row xs ∙ ap (λ k. row.model + k) n in
    let t = mark-after row xs ∙ ap (λ k. get_or row.marks k false) n in
    rw (m, t, e) (refl, refl)

-- one byte more was coded
pub put-step : (row : Row) (xs : List ℕ) (i s : ℕ) (bank new : List Counting) (a b c : Coding) → length xs ≡ i → bank ≡ (state_after next_row row xs).bank
    → Codes a b (all_cuts next_row next_cuts row xs) → Codes b c (byte_cuts (get_or row.marks i false) bank (row.model + i) s) → new ≡ byte_next (get_or row.marks i false) bank (row.model + i) s
    → Codes a c (all_cuts next_row next_cuts row (xs ++ s ∷ [])) × (new ≡ (state_after next_row row (xs ++ s ∷ [])).bank)
put-step row xs i s bank new a b c n e f g is =
    let next = next-is row xs i s bank n e in
    let last : Codes b c (next_cuts (state_after next_row row xs) s) = subst (λ (cs : List Cut). Codes b c cs) (sym next.0) g in
    let both = Codes-append a b c (all_cuts next_row next_cuts row xs) (next_cuts (state_after next_row row xs) s) f last in (
      subst (λ (cs : List Cut). Codes a c cs) (sym (all_cuts-push next_row next_cuts row xs s)) both,
      is ∙ (sym next.1 ∙ ap (λ (r : Row). r.bank) (sym (state_after-push next_row row xs s))),
    )

-- models of the same sizes
pub row-models : (n m : ℕ) (bank new : List Counting) → alphabet_sizes new ≡ alphabet_sizes bank → AreRowModels n m bank → AreRowModels n m new
row-models n m bank new e h j lt =
    let here = h j lt in
    at new (alphabet_sizes bank) e (m + j) (size-of-list bank (m + j) here.0) ((sized bank (m + j) here.0) ∙ here.1)
  where
    size-of-list : (bank : List Counting) (k : ℕ) → k < length bank → k < length (alphabet_sizes bank)
    size-of-list [] k h = absurd (omega arith)
    size-of-list (x ∷ xs) zero h = omega arith
    size-of-list (x ∷ xs) (suc k) h = omega (arith, size-of-list xs k (omega (arith, h)))

    sized : (bank : List Counting) (k : ℕ) (h : k < length bank) → get_or (alphabet_sizes bank) k 0 ≡ alphabet_size (model_at bank k)
    sized bank k h = sym (size-at bank k (size-of-list bank k h)).1

    at : (new : List Counting) (sizes : List ℕ) → alphabet_sizes new ≡ sizes → (k : ℕ) → k < length sizes → get_or sizes k 0 ≡ 256 → (k < length new) × (alphabet_size (model_at new k) ≡ 256)
    at new sizes e k lt is =
        let found = size-at new k (subst (λ (l : List ℕ). k < length l) (sym e) lt) in (found.0, found.1 ∙ (ap (λ l. get_or l k 0) e ∙ is))

-- ---- the models of colours, and of extra bytes
pub sized-rows : (n m : ℕ) (bank : List Counting) (front : List ℕ) → alphabet_sizes bank ≡ front ++ replicate n 256 → length front ≡ m → AreRowModels n m bank
sized-rows n m bank front e len j lt =
    let there : get_or (front ++ replicate n 256) (m + j) 0 ≡ 256 =
    rw (← len) (get_or-append-add front (replicate n 256) j 0 ∙ get_or-replicate n j 256 0 lt) in
    let long : m + j < length (alphabet_sizes bank) = rw (e, length-append front (replicate n 256), length-replicate {A = ℕ} n 256) (omega (arith, len, lt)) in
    let found = size-at bank (m + j) long in (found.0, found.1 ∙ (ap (λ l. get_or l (m + j) 0) e ∙ there))
