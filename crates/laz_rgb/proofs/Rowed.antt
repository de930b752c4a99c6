-- A row of bytes as events: which parts they cut out, that they are lawful, and that the models stay sound.
use Rattle.std.proofs.Common.{◌≡◌, ℕ, suc, ◌+◌, ◌<◌, ◌≤◌, Bool, true, false, List, [], ◌∷◌, length, refl, sym, subst, ◌∙◌, arith}
use Rattle.std.proofs.lemmas.List.{length-append}
use Rattle.laz_range.specs.Choice.{all_cuts, state_after}
use Rattle.laz_models.specs.Counting.{Counting}
use Rattle.laz_models.specs.Dist.{alphabet_size}
use Rattle.laz_models.specs.Bank.{model_at, alphabet_sizes}
use Rattle.laz_models.proofs.Public.{sizes-set}
use Rattle.laz_integer.specs.Events.{Name}
use Rattle.laz_integer.specs.Uses.{own_name}
use Rattle.laz_integer.specs.Ranged.{AreRanged}
use Rattle.laz_integer.specs.Fields.{BankStands, IsByte, byte_cuts, byte_events, byte_next, if_marked}
use Rattle.laz_integer.proofs.Public.{Piece, Piece-byte, Piece-none, Piece-then, frame-bank, AreRanged-append}
use Rattle.laz_rgb.specs.Rows.{AreRowModels, IsRow, next_cuts, next_row, row_at, row_events}
use Rattle.laz_rgb.proofs.Walks.{row-models}

-- ---- one byte
pub byte-sizes : (t : Bool) (bank : List Counting) (m s : ℕ) → m < length bank → alphabet_sizes (byte_next t bank m s) ≡ alphabet_sizes bank
byte-sizes true bank m s within = sizes-set bank m s within
byte-sizes false bank m s within = refl

more-models : (n m : ℕ) (bank : List Counting) → AreRowModels (suc n) m bank → AreRowModels n (m + 1) bank
more-models n m bank h j lt =
    let here = h (suc j) (omega (arith, lt)) in
    let same : m + suc j ≡ m + 1 + j = omega arith in
    subst (λ (k : ℕ). (k < length bank) × (alphabet_size (model_at bank k) ≡ 256)) same here

first-model : (n m : ℕ) (bank : List Counting) → AreRowModels (suc n) m bank → (m < length bank) × (alphabet_size (model_at bank m) ≡ 256)
first-model n m bank h = let same : m + 0 ≡ m = omega arith in subst (λ (k : ℕ). (k < length bank) × (alphabet_size (model_at bank k) ≡ 256)) same (h 0 (omega arith))

-- ---- a row
module _ (kind : List ℕ) where
  pub row-piece : (marks : List Bool) (m : ℕ) (bank : List Counting) (xs : List ℕ) → AreRowModels (length xs) m bank → IsRow marks xs
      → Piece (kind ∷ []) (row_events kind marks m xs) (all_cuts next_row next_cuts (row_at marks m bank) xs) (λ l. BankStands kind l bank) (λ l. BankStands kind l (state_after next_row (row_at marks m bank) xs).bank)
  row-piece [] m bank [] h asked = Piece-none (kind ∷ []) (λ l. BankStands kind l bank) (frame-bank kind bank)
  row-piece [] m bank (s ∷ xs) h asked = absurd asked
  row-piece (t ∷ marks) m bank [] h asked = absurd asked
  row-piece (t ∷ marks) m bank (s ∷ xs) h asked =
      let here = first-model (length xs) m bank h in
      let next = byte_next t bank m s in
      let models = row-models (length xs) (m + 1) bank next (byte-sizes t bank m s here.0) (more-models (length xs) m bank h) in
      Piece-then (kind ∷ []) (if_marked t (byte_events kind m s)) (row_events kind marks (m + 1) xs) (byte_cuts t bank m s) (all_cuts next_row next_cuts (row_at marks (m + 1) next) xs)
      (λ l. BankStands kind l bank) (λ l. BankStands kind l next) (λ l. BankStands kind l (state_after next_row (row_at marks (m + 1) next) xs).bank)
      (Piece-byte t kind bank m 0 s here.0 here.1 asked.0) (row-piece marks (m + 1) next xs models asked.1)

-- the models keep their sizes
pub row-sizes : (marks : List Bool) (m : ℕ) (bank : List Counting) (xs : List ℕ) → AreRowModels (length xs) m bank → IsRow marks xs → alphabet_sizes (state_after next_row (row_at marks m bank) xs).bank ≡ alphabet_sizes bank
row-sizes [] m bank [] h asked = refl
row-sizes [] m bank (s ∷ xs) h asked = absurd asked
row-sizes (t ∷ marks) m bank [] h asked = absurd asked
row-sizes (t ∷ marks) m bank (s ∷ xs) h asked =
    let here = first-model (length xs) m bank h in
    let next = byte_next t bank m s in
    let sizes = byte-sizes t bank m s here.0 in
    let models = row-models (length xs) (m + 1) bank next sizes (more-models (length xs) m bank h) in
    row-sizes marks (m + 1) next xs models asked.1 ∙ sizes

-- ---- for the chunk: which events they are
-- the models of a row's use have 256 symbols
abbrev pub RowSizes : (Name → ℕ) → List ℕ → ℕ → ℕ → Type 0
RowSizes sizes kind m n = (j : ℕ) → j < n → sizes (own_name kind (m + j)) ≡ 256

byte-ranged_row : (sizes : Name → ℕ) (kind : List ℕ) (t : Bool) (m s : ℕ) → sizes (own_name kind m) ≡ 256 → IsByte t 0 s → AreRanged sizes (if_marked t (byte_events kind m s))
byte-ranged_row sizes kind true m s size asked = ((sym size, omega arith, omega arith, asked), tt)
byte-ranged_row sizes kind false m s size asked = tt

pub row-ranged : (sizes : Name → ℕ) (kind : List ℕ) (marks : List Bool) (m : ℕ) (xs : List ℕ) → RowSizes sizes kind m (length xs) → IsRow marks xs → AreRanged sizes (row_events kind marks m xs)
row-ranged sizes kind [] m [] h asked = tt
row-ranged sizes kind [] m (s ∷ xs) h asked = absurd asked
row-ranged sizes kind (t ∷ marks) m [] h asked = absurd asked
row-ranged sizes kind (t ∷ marks) m (s ∷ xs) h asked =
    let zero_on : m + 0 ≡ m = omega arith in
    let here : sizes (own_name kind m) ≡ 256 = subst (λ (k : ℕ). sizes (own_name kind k) ≡ 256) zero_on (h 0 (omega arith)) in
    let more : RowSizes sizes kind (m + 1) (length xs) = λ j lt.
    let same : m + suc j ≡ m + 1 + j = omega arith in subst (λ (k : ℕ). sizes (own_name kind k) ≡ 256) same (h (suc j) (omega (arith, lt))) in
    AreRanged-append sizes (if_marked t (byte_events kind m s)) (row_events kind marks (m + 1) xs) (byte-ranged_row sizes kind t m s here asked.0) (row-ranged sizes kind marks (m + 1) xs more asked.1)

byte-few_row : (kind : List ℕ) (t : Bool) (m s : ℕ) → length (if_marked t (byte_events kind m s)) ≤ 1
byte-few_row kind true m s = omega arith
byte-few_row kind false m s = omega arith

pub row-few : (kind : List ℕ) (marks : List Bool) (m : ℕ) (xs : List ℕ) → length (row_events kind marks m xs) ≤ length xs
row-few kind [] m xs = omega arith
row-few kind (t ∷ marks) m [] = omega arith
row-few kind (t ∷ marks) m (s ∷ xs) =
    omega (arith, length-append (if_marked t (byte_events kind m s)) (row_events kind marks (m + 1) xs), byte-few_row kind t m s, row-few kind marks (m + 1) xs)
