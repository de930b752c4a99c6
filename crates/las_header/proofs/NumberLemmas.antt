-- Numbers by their place: what leaves them as they are, and that bytes read and written again are the same.
use Rattle.std.proofs.Common.{inl, inr, subst, length-take, ◌≡◌, ℕ, zero, suc, ◌+◌, ◌*◌, ◌-◌, ◌/◌, ◌%◌, ◌^◌, ◌<◌, ◌≤◌, List, [], ◌∷◌, ◌++◌, length, take, drop, get_or, slice_index, refl, sym, ap, ◌∙◌, arith, length-append, length-drop, append_assoc}
use Rattle.std.proofs.lemmas.List.{get_or-drop, get_or_past, take_at, drop_at, drop-drop, length-take-le, get_or-take}
use Rattle.std.proofs.lemmas.Bool.{cases_lt}
use borrow.Rule.Slice.PartMut.{put_mid}
use Rattle.std.proofs.Math.Nat.{add-mul-mod_self_left, div-div-eq-div-mul, mod-eq_of_lt, pow-succ'}
use Rattle.std.specs.Int.{byte_at, bytes_low_first}
use Rattle.std.specs.List.{splice}
use Rattle.byteorder.specs.Endian.{little_bytes, little_from, little_number}
use Rattle.byteorder.specs.Numbers.{little_from-cons, little_from-take, little_number-reads_back}
use Rattle.las_header.specs.Numbers.{number_at, with_number_at}

-- a number reads no byte past its end
pub number_at-take : (width at n : ℕ) (xs : List ℕ) → at + width ≤ n → number_at width at (take n xs) ≡ number_at width at xs
unfolding number_at
number_at-take width at n xs h = little_from-take at width n xs h

-- bytes in front move the places on
little_from-append_front : (front : List ℕ) (n : ℕ) (bytes : List ℕ) → little_from (length front) n (front ++ bytes) ≡ little_from 0 n bytes
little_from-append_front [] n bytes = refl
little_from-append_front (x ∷ front) n bytes = little_from-cons (length front) n x (front ++ bytes) ∙ little_from-append_front front n bytes

-- a number that was written is read back
pub number_at-with_number_at : (width at x : ℕ) (xs : List ℕ) → at ≤ length xs → x < 256 ^ width
    → number_at width at (with_number_at width at x xs) ≡ x
unfolding number_at
number_at-with_number_at width at x xs within fits =
    let front = take at xs in
    let rest = drop (at + width) xs in
    let place : at ≡ length front = sym (length-take-le at xs within) in
    ap (λ (i : ℕ). little_from i width (front ++ (little_bytes width x ++ rest))) place
    ∙ little_from-append_front front width (little_bytes width x ++ rest)
    ∙ little_number-reads_back width x rest fits

-- what stands before a replaced part stays
pub take-splice : (xs : List ℕ) (i j : ℕ) (ys : List ℕ) → i ≤ length xs → take i (splice xs i j ys) ≡ take i xs
take-splice xs i j ys h = take_at (take i xs) (ys ++ drop j xs) i (length-take-le i xs h)

pub number_at-splice : (width at i j : ℕ) (xs ys : List ℕ) → at + width ≤ i → i ≤ length xs
    → number_at width at (splice xs i j ys) ≡ number_at width at xs
number_at-splice width at i j xs ys before within =
    sym (number_at-take width at i (splice xs i j ys) before)
    ∙ ap (number_at width at) (take-splice xs i j ys within)
    ∙ number_at-take width at i xs before

pub slice_index-splice : (k i j : ℕ) (xs ys : List ℕ) → k < i → i ≤ length xs
    → slice_index (splice xs i j ys) k ≡ slice_index xs k
slice_index-splice k i j xs ys before within =
    sym (get_or-take i (splice xs i j ys) k 0 before)
    ∙ ap (λ zs. get_or zs k 0) (take-splice xs i j ys within)
    ∙ get_or-take i xs k 0 before

-- a write to a part of a slice, as a replaced part
pub put_mid-splice : (xs ys : List ℕ) (a k j : ℕ) → a + k ≡ j → put_mid a k xs ys ≡ splice xs a j ys
put_mid-splice xs ys a k j ends =
    ap (λ (rest : List ℕ). take a xs ++ (ys ++ rest)) (drop-drop k a xs ∙ ap (λ (n : ℕ). drop n xs) ends)

pub length_part : (xs : List ℕ) (a k : ℕ) → a + k ≤ length xs → length (take k (drop a xs)) ≡ k
length_part xs a k within = length-take-le k (drop a xs) (omega (arith, length-drop a xs))

-- a part that is replaced by one of its length leaves the length
pub length-splice : (xs : List ℕ) (i j : ℕ) (ys : List ℕ) → i + length ys ≡ j → j ≤ length xs
    → length (splice xs i j ys) ≡ length xs
length-splice xs i j ys fits within =
    omega (arith, length-append (take i xs) (ys ++ drop j xs), length-append ys (drop j xs), length-drop j xs, length-take-le i xs (omega arith))

-- the bytes of a number from the second on are those of its quotient by 256
byte_at-suc : (i n : ℕ) → byte_at (suc i) n ≡ byte_at i (n / 256)
byte_at-suc zero n = refl
byte_at-suc (suc i) n =
    ap (λ (m : ℕ). m % 256) (ap (λ (p : ℕ). n / p) (pow-succ' 256 (suc i)) ∙ sym (div-div-eq-div-mul n 256 (256 ^ suc i)))

bytes_low_first-suc : (i k n : ℕ) → bytes_low_first (suc i) k n ≡ bytes_low_first i k (n / 256)
bytes_low_first-suc i zero n = refl
bytes_low_first-suc i (suc k) n = rw (byte_at-suc i n, bytes_low_first-suc (suc i) k n) refl

-- the first byte and the rest of the bytes of a number that is put together from them
bytes_of_cons : (k x v : ℕ) → x < 256 → bytes_low_first 0 (suc k) (x + 256 * v) ≡ x ∷ bytes_low_first 0 k v
bytes_of_cons k x v h =
    let low : (x + 256 * v) % 256 ≡ x = add-mul-mod_self_left x 256 v ∙ mod-eq_of_lt h in
    let high : (x + 256 * v) / 256 ≡ v = omega arith in
    rw (low, bytes_low_first-suc 0 k (x + 256 * v), high) refl

-- bytes that are read as one number and written again are the same bytes
pub little_bytes-little_number : (xs : List ℕ) → ((k : ℕ) → slice_index xs k < 256)
    → little_bytes (length xs) (little_number (length xs) xs) ≡ xs
little_bytes-little_number [] bytes = refl
little_bytes-little_number (x ∷ xs) bytes =
    let first : x < 256 = bytes 0 in
    let rest = little_bytes-little_number xs (λ k. bytes (suc k)) in
    let moved = little_from-cons 0 (length xs) x xs in
    rw (moved, bytes_of_cons (length xs) x (little_from 0 (length xs) xs) first, rest) refl

-- a number depends on its own bytes alone
little_from-nil : (at n : ℕ) → little_from at n [] ≡ 0
little_from-nil at zero = refl
little_from-nil at (suc n) = let rest = little_from-nil (suc at) n in rw rest refl

little_from-drop : (at n : ℕ) (xs : List ℕ) → little_from at n xs ≡ little_from 0 n (drop at xs)
little_from-drop zero n xs = refl
little_from-drop (suc at) n [] = little_from-nil (suc at) n ∙ sym (little_from-nil 0 n)
little_from-drop (suc at) n (x ∷ xs) = little_from-cons at n x xs ∙ little_from-drop at n xs

pub number_at-drop : (width at : ℕ) (xs : List ℕ) → number_at width at xs ≡ number_at width 0 (drop at xs)
unfolding number_at
number_at-drop width at xs = little_from-drop at width xs

pub number_at-part : (width at : ℕ) (xs : List ℕ) → number_at width at xs ≡ number_at width 0 (take width (drop at xs))
number_at-part width at xs = number_at-drop width at xs ∙ sym (number_at-take width 0 width (drop at xs) (omega arith))

-- what stands after a part that is replaced by one of its length stays
pub drop-splice : (xs : List ℕ) (i j n : ℕ) (ys : List ℕ) → i + length ys ≡ j → j ≤ length xs → j ≤ n → drop n (splice xs i j ys) ≡ drop n xs
drop-splice xs i j n ys fits within after =
    let joined : splice xs i j ys ≡ (take i xs ++ ys) ++ drop j xs = sym (append_assoc (take i xs) ys (drop j xs)) in
    let long : length (take i xs ++ ys) ≡ j = omega (arith, length-append (take i xs) ys, length-take-le i xs (omega arith)) in
    let at_end : drop j (splice xs i j ys) ≡ drop j xs = ap (λ (zs : List ℕ). drop j zs) joined ∙ drop_at (take i xs ++ ys) (drop j xs) j long in
    let reach : j + (n - j) ≡ n = omega arith in
    ap (λ (m : ℕ). drop m (splice xs i j ys)) (sym reach) ∙ sym (drop-drop (n - j) j (splice xs i j ys)) ∙ ap (λ (zs : List ℕ). drop (n - j) zs) at_end
    ∙ drop-drop (n - j) j xs ∙ ap (λ (m : ℕ). drop m xs) reach

pub number_at-splice_after : (width at i j : ℕ) (xs ys : List ℕ) → i + length ys ≡ j → j ≤ length xs → j ≤ at
    → number_at width at (splice xs i j ys) ≡ number_at width at xs
number_at-splice_after width at i j xs ys fits within after =
    number_at-drop width at (splice xs i j ys) ∙ ap (number_at width 0) (drop-splice xs i j at ys fits within after) ∙ sym (number_at-drop width at xs)

pub reads_back : (width x : ℕ) (rest : List ℕ) → x < 256 ^ width → number_at width 0 (little_bytes width x ++ rest) ≡ x
unfolding number_at
reads_back width x rest fits = little_number-reads_back width x rest fits

-- a number that a replaced part begins with is read back
pub number_at-splice_first : (width at j x : ℕ) (xs rest : List ℕ) → at ≤ length xs → x < 256 ^ width
    → number_at width at (splice xs at j (little_bytes width x ++ rest)) ≡ x
number_at-splice_first width at j x xs rest within fits =
    let front = take at xs in
    number_at-drop width at (splice xs at j (little_bytes width x ++ rest))
    ∙ ap (number_at width 0) (drop_at front ((little_bytes width x ++ rest) ++ drop j xs) at (length-take-le at xs within) ∙ append_assoc (little_bytes width x) rest (drop j xs))
    ∙ reads_back width x (rest ++ drop j xs) fits

part_byte : (n at k : ℕ) (xs : List ℕ) → ((k : ℕ) → slice_index xs k < 256) → slice_index (take n (drop at xs)) k < 256
part_byte n at k xs bytes = elim (cases_lt k n) [
  | inl inside ↦ rw (get_or-take n (drop at xs) k 0 inside, get_or-drop at xs k 0) (bytes (at + k))
  | inr past ↦ rw (get_or_past (take n (drop at xs)) k 0 (omega (arith, length-take n (drop at xs)))) (omega arith)
]

-- the bytes of a number that stands in a list are those bytes
pub little_number_at : (width at : ℕ) (xs : List ℕ) → at + width ≤ length xs → ((k : ℕ) → slice_index xs k < 256) → little_bytes width (number_at width at xs) ≡ take width (drop at xs)
unfolding number_at
little_number_at width at xs within bytes =
    let part = take width (drop at xs) in
    let long : length part ≡ width = length_part xs at width within in
    let small : (k : ℕ) → slice_index part k < 256 = λ k. part_byte width at k xs bytes in
    let again = little_bytes-little_number part small in
    ap (λ (n : ℕ). little_bytes width n) (number_at-part width at xs) ∙ subst (λ (w : ℕ). little_bytes w (little_number w part) ≡ part) long again
