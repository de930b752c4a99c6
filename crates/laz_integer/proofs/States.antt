use Rattle.std.proofs.Common.{◌≡◌, ℕ, ◌+◌, ◌-◌, ◌^◌, ◌<◌, ◌≤◌, min, List, [], ◌∷◌, ◌++◌, All, length, map, replicate, get_or, refl, sym, ap, ◌∙◌, arith, lit≤, append_assoc, length-append}
use Rattle.std.specs.List.{range_with_len}
use Rattle.std.proofs.lemmas.List.{get_or-map, get_or_append_left, get_or-append-add, get_or-replicate, length-map, length-replicate}
use Rattle.std.proofs.lemmas.List.FromFn.{get_or-map-range_with_len, length-map-range_with_len, map-range_with_len_more}
use Rattle.std.proofs.lemmas.List.Elements.{All-append, All-replicate, All-from_get_or}
use Rattle.std.proofs.Math.Nat.{pow-le-pow_right}
use Rattle.laz_models.specs.Counting.{Counting, new_model}
use Rattle.laz_models.specs.Bank.{model_at, alphabet_sizes}
use Rattle.laz_models.specs.Dist.{alphabet_size}
use Rattle.laz_integer.specs.Integer.{IntState, IsIntState, int_sizes, high_at}

-- ---- the models of an integer and their sizes
pub length-sizes : (bits contexts : ℕ) → length (int_sizes bits contexts) ≡ contexts + bits
unfolding int_sizes
length-sizes bits contexts =
    length-append (replicate contexts (bits + 1)) (map (λ k. 2 ^ min k 8) (range_with_len 1 bits))
    ∙ omega (arith, length-replicate {A = ℕ} contexts (bits + 1), length-map-range_with_len (λ k. 2 ^ min k 8) 1 bits)

pub models-count : (st : IntState) → IsIntState st → length st.bank ≡ st.contexts + st.bits
models-count st h = sym (length-map st.bank alphabet_size) ∙ (ap length h.sizes ∙ length-sizes st.bits st.contexts)

size-at : (st : IntState) (i : ℕ) → IsIntState st → i < length st.bank → alphabet_size (model_at st.bank i) ≡ get_or (int_sizes st.bits st.contexts) i 0
size-at st i h within = sym (get_or-map alphabet_size st.bank i (new_model 2) 0 within) ∙ ap (λ l. get_or l i 0) h.sizes

pub width-size : (st : IntState) (ctx : ℕ) → IsIntState st → ctx < st.contexts → alphabet_size (model_at st.bank ctx) ≡ st.bits + 1
unfolding int_sizes
width-size st ctx h within =
    let ones = replicate st.contexts (st.bits + 1) in
    let inside : ctx < length ones = omega (arith, within, length-replicate {A = ℕ} st.contexts (st.bits + 1)) in
    size-at st ctx h (omega (arith, models-count st h, within))
    ∙ (get_or_append_left ones (map (λ k. 2 ^ min k 8) (range_with_len 1 st.bits)) 0 ctx inside ∙ get_or-replicate st.contexts ctx (st.bits + 1) 0 within)

high-place : (bits contexts j : ℕ) → j < bits → get_or (int_sizes bits contexts) (contexts + j) 0 ≡ 2 ^ min (j + 1) 8
unfolding int_sizes
high-place bits contexts j within =
    let ones = replicate contexts (bits + 1) in
    let many : length ones + j ≡ contexts + j = omega (arith, length-replicate {A = ℕ} contexts (bits + 1)) in
    let next : 1 + j ≡ j + 1 = omega arith in
    ap (λ i. get_or (int_sizes bits contexts) i 0) (sym many)
    ∙ (get_or-append-add ones (map (λ k. 2 ^ min k 8) (range_with_len 1 bits)) j 0 ∙ get_or-map-range_with_len (λ k. 2 ^ min k 8) 1 bits j (j + 1) 0 within next)

pub high-size-at : (st : IntState) (j : ℕ) → IsIntState st → j < st.bits → alphabet_size (model_at st.bank (st.contexts + j)) ≡ 2 ^ min (j + 1) 8
high-size-at st j h within = size-at st (st.contexts + j) h (omega (arith, models-count st h, within)) ∙ high-place st.bits st.contexts j within

pub high-size : (st : IntState) (k : ℕ) → IsIntState st → 0 < k → k ≤ st.bits → alphabet_size (high_at st k) ≡ 2 ^ min k 8
high-size st k h some within =
    let e : k - 1 + 1 ≡ k = omega arith in
    high-size-at st (k - 1) h (omega arith) ∙ ap (λ n. 2 ^ min n 8) e

pub high-in : (st : IntState) (k : ℕ) → IsIntState st → 0 < k → k ≤ st.bits → st.contexts + (k - 1) < length st.bank
high-in st k h some within = omega (arith, models-count st h, some, within)

size-in : (k : ℕ) → 1 ≤ k → (2 ≤ 2 ^ min k 8) × (2 ^ min k 8 ≤ 2048)
size-in k some =
    let one : 1 ≤ min k 8 = omega arith in
    let eight : min k 8 ≤ 8 = omega arith in
    let low : 2 ^ 1 ≤ 2 ^ min k 8 = pow-le-pow_right (lit≤ tt) one in
    let high : 2 ^ min k 8 ≤ 2 ^ 8 = pow-le-pow_right (lit≤ tt) eight in
    (low, omega (arith, high))

-- each model has 2 to 2,048 symbols
pub sizes-range : (bits contexts : ℕ) → 1 ≤ bits → bits ≤ 32 → All (λ n. (2 ≤ n) × (n ≤ 2048)) (int_sizes bits contexts)
unfolding int_sizes
sizes-range bits contexts some few =
    let highs = map (λ k. 2 ^ min k 8) (range_with_len 1 bits) in
    All-append (λ n. (2 ≤ n) × (n ≤ 2048)) (replicate contexts (bits + 1)) highs
    (All-replicate (λ n. (2 ≤ n) × (n ≤ 2048)) contexts (bits + 1) (omega arith, omega arith))
    (All-from_get_or (λ n. (2 ≤ n) × (n ≤ 2048)) highs 0
    (λ j within.
    let inside : j < bits = omega (arith, within, length-map-range_with_len (λ k. 2 ^ min k 8) 1 bits) in
    let next : 1 + j ≡ j + 1 = omega arith in
    rw (get_or-map-range_with_len (λ k. 2 ^ min k 8) 1 bits j (j + 1) 0 inside next) (size-in (j + 1) (omega arith))))

-- one more of the high digits
pub sizes-more : (ones old : List ℕ) (k n : ℕ) → 1 ≤ k → n ≡ 2 ^ min k 8 → old ≡ ones ++ map (λ k. 2 ^ min k 8) (range_with_len 1 (k - 1)) → old ++ n ∷ [] ≡ ones ++ map (λ k. 2 ^ min k 8) (range_with_len 1 (k + 1 - 1))
sizes-more ones old k n some is e =
    let place : k + 1 - 1 ≡ k - 1 + 1 = omega arith in
    let last : 1 + (k - 1) ≡ k = omega arith in
    rw (e, is, place, map-range_with_len_more (λ k. 2 ^ min k 8) 1 (k - 1) k last) (append_assoc ones (map (λ k. 2 ^ min k 8) (range_with_len 1 (k - 1))) (2 ^ min k 8 ∷ []))

-- new models
pub new_model-sizes : (bank : List Counting) → map (λ m. new_model (alphabet_size m)) bank ≡ map new_model (alphabet_sizes bank)
new_model-sizes [] = refl
new_model-sizes (m ∷ bank) = ap (λ l. new_model (alphabet_size m) ∷ l) (new_model-sizes bank)

pub sizes-two : (bits contexts i : ℕ) → 1 ≤ bits → bits ≤ 32 → i < length (int_sizes bits contexts) → 2 ≤ get_or (int_sizes bits contexts) i 0
sizes-two bits contexts i some few within = (sizes-range bits contexts some few i 0 within).0
