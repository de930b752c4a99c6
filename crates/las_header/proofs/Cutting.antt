-- Bytes that are cut into records of one size, one after another.
use Rattle.std.proofs.Common.{◌≡◌, ℕ, zero, suc, ◌+◌, ◌-◌, ◌*◌, ◌/◌, ◌%◌, ◌<◌, ◌≤◌, List, [], ◌∷◌, length, take, drop, get_or, refl, ◌∙◌, ap, arith, length-append}
use Rattle.std.proofs.lemmas.List.{length-drop, length-take-le}
use Rattle.std.proofs.Math.Nat.{div-add-mod, zero-div}
use Rattle.std.specs.List.{concat}
use Rattle.std.specs.Prelude.{All}
use Rattle.las_header.specs.Plain.{cut_all, cut_records}

-- how many bytes are left
pub left_first : (size : ℕ) (records : List ℕ) → length records % size ≡ 0 → length records ≡ size * (length records / size - 0)
left_first size records whole =
    let all : length records / size ≡ length records / size - 0 = omega arith in
    let divided : length records ≡ size * (length records / size) = omega (arith, div-add-mod (length records) size, whole) in
    divided ∙ ap (λ (n : ℕ). size * n) all

pub left_next : (size n t : ℕ) (rest further : List ℕ) → t < n → further ≡ drop size rest → length rest ≡ size * (n - t) → length further ≡ size * (n - (t + 1))
left_next size n t rest further more is left =
    let k = n - (t + 1) in
    let next : n - t ≡ suc k = omega arith in
    let all : length rest ≡ size * suc k = left ∙ ap (λ (m : ℕ). size * m) next in
    let one : size * suc k ≡ size + size * k = omega arith in
    omega (arith, ap (λ (x : List ℕ). length x) is, length-drop size rest, all, one)

-- whole records, one after another
pub cut_length : (size n : ℕ) (bytes : List ℕ) → length (cut_records size n bytes) ≡ n
cut_length size zero bytes = refl
cut_length size (suc n) bytes = ap suc (cut_length size n (drop size bytes))

pub cut_none : (size : ℕ) → 0 < size → cut_all size [] ≡ []
cut_none size some = ap (λ (n : ℕ). cut_records size n []) (zero-div size)

pub cut_whole : (size n : ℕ) (bytes : List ℕ) → size * n ≤ length bytes → All (λ r. length r ≡ size) (cut_records size n bytes)
cut_whole size zero bytes fits = λ k d lt. absurd (omega (arith, lt))
cut_whole size (suc n) bytes fits =
    let far : size * suc n ≡ size + size * n = omega arith in
    by (omega (arith, fits, far)) (cut_whole size n (drop size bytes) (omega (arith, fits, far, length-drop size bytes)))
  where
    by : size ≤ length bytes → All (λ r. length r ≡ size) (cut_records size n (drop size bytes))
        → (k : ℕ) (d : List ℕ) → k < length (cut_records size (suc n) bytes) → length (get_or (cut_records size (suc n) bytes) k d) ≡ size
    by long rest zero d lt = length-take-le size bytes long
    by long rest (suc k) d lt = rest k d (omega (arith, lt))

-- records of one size, joined
pub length_whole : (size : ℕ) (records : List (List ℕ)) → All (λ r. length r ≡ size) records → length (concat records) ≡ size * length records
length_whole size [] each = omega arith
length_whole size (r ∷ rs) each =
    let rest = length_whole size rs (λ k d lt. each (suc k) d (omega (arith, lt))) in
    let first : length r ≡ size = each 0 [] (omega arith) in
    let more : size * suc (length rs) ≡ size + size * length rs = omega arith in
    omega (arith, length-append r (concat rs), rest, first, more)
