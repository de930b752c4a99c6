-- How long records are, and how many whole records there are.
use Rattle.std.proofs.Common.{◌≡◌, ℕ, zero, suc, ◌+◌, ◌*◌, ◌/◌, ◌%◌, ◌≤◌, List, refl, ◌∙◌, ap, arith}
use Rattle.std.proofs.Math.Nat.{div-add-mod, mul-mod_right, mul-le-mul_left}
use Rattle.std.proofs.Common.{[], ◌∷◌, ◌<◌, length-append, length, drop}
use Rattle.std.specs.Prelude.{All}
use Rattle.std.specs.List.{concat}
use Rattle.std.proofs.lemmas.List.{drop-drop}
use Rattle.las_header.specs.Fields.{format_of, has_colours, has_time, record_length_of}
use Rattle.las_header.specs.Heads.{IsHead}
use Rattle.laz_chunk.specs.Layouts.{Layout, colour_length, layout, record_length, time_length}
use Rattle.laz_forms.specs.Packing.{format_in}

-- a record of a format has the bytes of its items
parts_of : (f : ℕ) → f ≤ 3 → time_length (has_time f) + colour_length (has_colours f) ≡ 8 * (f % 2) + 6 * (f / 2)
parts_of zero h = refl
parts_of (suc zero) h = refl
parts_of (suc (suc zero)) h = refl
parts_of (suc (suc (suc zero))) h = refl
parts_of (suc (suc (suc (suc f)))) h = absurd (omega (arith, h))

-- a record that follows a head is as long as the head says
pub record_is : (head : List ℕ) → IsHead head → record_length (layout (format_in head)) ≡ record_length_of head
record_is head is =
    let l : Layout = layout (format_in head) in
    omega (arith, parts_of (format_of head) is.format, is.record_length)

-- whole records after whole records
pub whole_both : (size m n : ℕ) → m % size ≡ 0 → n % size ≡ 0 → (m + n) % size ≡ 0
whole_both size m n one two =
    let all : m + n ≡ size * (m / size + n / size) = omega (arith, div-add-mod m size, div-add-mod n size, one, two) in
    ap (λ (k : ℕ). k % size) all ∙ mul-mod_right size (m / size + n / size)

-- whole records of several blocks
pub even_all : (size : ℕ) (blocks : List (List ℕ)) → All (λ block. length block % size ≡ 0) blocks → length (concat blocks) % size ≡ 0
even_all size [] all = ap (λ (n : ℕ). n % size) (let e : 0 ≡ size * 0 = omega arith in e) ∙ mul-mod_right size 0
even_all size (b ∷ blocks) all =
    ap (λ (n : ℕ). n % size) (length-append b (concat blocks))
    ∙ whole_both size (length b) (length (concat blocks)) (all 0 [] (omega arith))
    (even_all size blocks (λ k d lt. all (suc k) d (omega (arith, lt))))

-- the records so far, and one more, lie in the block
pub block_fits : (size t : ℕ) (block : List ℕ) → length block % size ≡ 0 → t < length block / size → size * t + size ≤ length block
block_fits size t block whole more =
    let all : size * (length block / size) ≡ length block = omega (arith, div-add-mod (length block) size, whole) in
    let next : t + 1 ≤ length block / size = omega (arith, more) in
    omega (arith, all, mul-le-mul_left size next)

-- what is left after one record more
pub rest_next : (size t : ℕ) (block rest further : List ℕ) → rest ≡ drop (size * t) block → further ≡ drop size rest → further ≡ drop (size * (t + 1)) block
rest_next size t block rest further left back =
    let far : size * t + size ≡ size * (t + 1) = omega arith in
    back ∙ ap (drop size) left ∙ drop-drop size (size * t) block ∙ ap (λ (k : ℕ). drop k block) far

-- a record has at least 20 bytes
pub record_least : (head : List ℕ) → IsHead head → 20 ≤ record_length_of head
record_least head is = omega (arith, is.record_length)
