-- The models of a bank by their numbers of symbols. Meant for the crates of items.
use Rattle.std.proofs.Common.{◌≡◌, ℕ, ◌<◌, replicate, List, [], ◌∷◌, length, get_or, ap, ◌∙◌, subst, arith}
use Rattle.std.proofs.lemmas.List.{get_or-replicate, length-map, length-replicate}
use Rattle.laz_range.specs.Decoding.{Decoding, TakesNone}
use Rattle.laz_models.specs.Counting.{Counting}
use Rattle.laz_models.specs.Dist.{StandsFor, alphabet_size}
use Rattle.laz_models.specs.Bank.{model_at, alphabet_sizes}
use Rattle.laz_models.proofs.Public.{size-at}
use Rattle.laz_integer.specs.Bytes.{AreByteModels, byte_difference, byte_plus}
use Rattle.laz_integer.specs.Integer.{symbol_cut}

-- a model of a bank whose sizes are known
pub model-sized : (bank : List Counting) (sizes : List ℕ) (m n : ℕ) → alphabet_sizes bank ≡ sizes → m < length sizes → get_or sizes m 0 ≡ n → (m < length bank) × (alphabet_size (model_at bank m) ≡ n)
model-sized bank sizes m n e within is =
    let found = size-at bank m (rw e within) in (found.0, found.1 ∙ (ap (λ l. get_or l m 0) e ∙ is))

pub byte-model : (n m : ℕ) (bank : List Counting) → AreByteModels n bank → m < n → (m < length bank) × (alphabet_size (model_at bank m) ≡ 256)
byte-model n m bank e within = model-sized bank (replicate n 256) m 256 e (rw (length-replicate {A = ℕ} n 256) within) (get_or-replicate n m 256 0 within)

pub first-model : (bank : List Counting) (n : ℕ) (sizes : List ℕ) → alphabet_sizes bank ≡ n ∷ sizes → (0 < length bank) × (alphabet_size (model_at bank 0) ≡ n)
first-model bank n sizes e =
    let found = size-at bank 0 (rw e (omega arith)) in (found.0, found.1 ∙ ap (λ l. get_or l 0 0) e)

-- new models, and models that were reset, stand for no event
pub new-stands : (sizes : List ℕ) (bank : List Counting) → alphabet_sizes bank ≡ sizes → ((m : ℕ) → m < length sizes → StandsFor [] (model_at bank m)) → (kind : List ℕ) (m : ℕ) → m < length bank → StandsFor [] (model_at bank m)
new-stands sizes bank e h kind m within = h m (omega (arith, within, ap length e, length-map bank alphabet_size))

pub reset-stands : (old new : List Counting) → alphabet_sizes new ≡ alphabet_sizes old → ((m : ℕ) → m < length old → StandsFor [] (model_at new m)) → (m : ℕ) → m < length new → StandsFor [] (model_at new m)
reset-stands old new sizes h m within = h m (omega (arith, ap length sizes, length-map old alphabet_size, length-map new alphabet_size, within))

-- no symbol of a model of n symbols was read
pub sized-none : (m : Counting) (n : ℕ) (a b : Decoding) → alphabet_size m ≡ n → TakesNone (λ y. y < alphabet_size m) (λ y. symbol_cut m y ∷ []) a b → TakesNone (λ y. y < n) (λ y. symbol_cut m y ∷ []) a b
sized-none m n a b e f = subst (λ (k : ℕ). TakesNone {X = ℕ} (λ y. y < k) (λ y. symbol_cut m y ∷ []) a b) e f

-- a byte and its difference to another one
pub difference-back : (from byte : ℕ) → from < 256 → byte < 256 → byte_plus from (byte_difference from byte) ≡ byte
difference-back from byte f b = omega arith
