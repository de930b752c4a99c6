-- Bytes have one list of full blocks, and one rest.
use Rattle.std.proofs.Common.{◌≡◌, ℕ, zero, suc, ◌+◌, ◌-◌, ◌*◌, ◌/◌, ◌%◌, ◌<◌, ◌≤◌, List, [], ◌∷◌, ◌++◌, length, take, drop, sym, ◌∙◌, ap, append_assoc, length-append, arith}
use Rattle.std.specs.List.{concat}
use Rattle.std.proofs.lemmas.List.{append-nil, take_at, drop_at, drop-drop, length-take-le, take_all, take-append-drop, length-drop}
use Rattle.std.proofs.lemmas.Nat.{div-mul-add, div-add-mod'}
use Rattle.std.proofs.Math.Nat.{mul_comm}
use Rattle.las_header.specs.Plain.{cut_records}
use Rattle.laz_table.specs.VlrCauses.{chunk_count}
use Rattle.laz_forms.specs.Packing.{blocks_of}
use Rattle.laz_writer.specs.Writing.{AreFull, full_blocks}
use Rattle.laz_forms.proofs.Public.{concat-append}

-- full blocks are cut off one by one
cut_more : (size n : ℕ) (bs : List (List ℕ)) (rest : List ℕ) → AreFull size bs → cut_records size (length bs + n) (concat bs ++ rest) ≡ bs ++ cut_records size n rest
cut_more size n [] rest f = let none : 0 + n ≡ n = omega arith in ap (λ (k : ℕ). cut_records size k rest) none
cut_more size n (b ∷ bs) rest f =
    let whole : (b ++ concat bs) ++ rest ≡ b ++ (concat bs ++ rest) = append_assoc b (concat bs) rest in
    let first : take size ((b ++ concat bs) ++ rest) ≡ b = ap (take size) whole ∙ take_at b (concat bs ++ rest) size f.0 in
    let left : drop size ((b ++ concat bs) ++ rest) ≡ concat bs ++ rest = ap (drop size) whole ∙ drop_at b (concat bs ++ rest) size f.0 in
    let more : length (b ∷ bs) + n ≡ suc (length bs + n) = omega arith in
    ap (λ (k : ℕ). cut_records size k ((b ++ concat bs) ++ rest)) more
    ∙ ap (λ (t : List ℕ). t ∷ cut_records size (length bs + n) (drop size ((b ++ concat bs) ++ rest))) first
    ∙ ap (λ (t : List ℕ). b ∷ cut_records size (length bs + n) t) left
    ∙ ap (λ (t : List (List ℕ)). b ∷ t) (cut_more size n bs rest f.1)

pub length_full : (size : ℕ) (bs : List (List ℕ)) → AreFull size bs → length (concat bs) ≡ length bs * size
length_full size [] f = omega arith
length_full size (b ∷ bs) f = omega (arith, length-append b (concat bs), f.0, length_full size bs f.1)

pub AreFull-append : (size : ℕ) (xs ys : List (List ℕ)) → AreFull size xs → AreFull size ys → AreFull size (xs ++ ys)
AreFull-append size [] ys f g = g
AreFull-append size (x ∷ xs) ys f g = (f.0, AreFull-append size xs ys f.1 g)

pub AreFull-back : (size : ℕ) (xs ys : List (List ℕ)) → AreFull size (xs ++ ys) → AreFull size ys
AreFull-back size [] ys f = f
AreFull-back size (x ∷ xs) ys f = AreFull-back size xs ys f.1

-- these are the full blocks of the bytes, and the rest
pub record Splits (size : ℕ) (bytes : List ℕ) (blocks : List (List ℕ)) (rest : List ℕ) : Type 0 where
  pub whole : bytes ≡ concat blocks ++ rest
  pub full : AreFull size blocks
  pub short : length rest < size

module _ (size : ℕ) (bytes : List ℕ) (bs : List (List ℕ)) (rest : List ℕ) (s : Splits size bytes bs rest) where
  size_is : length bytes ≡ length bs * size + length rest
  size_is = ap (λ (t : List ℕ). length t) s.whole ∙ length-append (concat bs) rest ∙ ap (λ (n : ℕ). n + length rest) (length_full size bs s.full)

  pub full_blocks_are : full_blocks size bytes ≡ bs
  full_blocks_are =
      let count : length bytes / size ≡ length bs + 0 = ap (λ (n : ℕ). n / size) size_is ∙ div-mul-add (length bs) size (length rest) s.short ∙ omega arith in
      ap (λ (n : ℕ). cut_records size n bytes) count ∙ ap (cut_records size (length bs + 0)) s.whole ∙ cut_more size 0 bs rest s.full ∙ append-nil bs

  -- the blocks are the full ones and that of the rest
  pub blocks_are : blocks_of size bytes ≡ bs ++ blocks_of size rest
  blocks_are =
      let q = chunk_count (length rest) size in
      let r = (length rest + size - 1) % size in
      let divided : q * size + r ≡ length rest + size - 1 = div-add-mod' (length rest + size - 1) size in
      let less : r < size = omega (arith, s.short) in
      let both : (length bs + q) * size ≡ length bs * size + q * size = omega arith in
      let all : length bytes + size - 1 ≡ (length bs + q) * size + r = omega (arith, size_is, divided, both, s.short) in
      let count : chunk_count (length bytes) size ≡ length bs + q = ap (λ (n : ℕ). n / size) all ∙ div-mul-add (length bs + q) size r less in
      ap (λ (n : ℕ). cut_records size n bytes) count ∙ ap (cut_records size (length bs + q)) s.whole ∙ cut_more size q bs rest s.full

-- nothing makes no block, and bytes that fill no block make one
pub no_block : (size : ℕ) → 0 < size → blocks_of size [] ≡ []
no_block size some =
    let same : 0 + size - 1 ≡ 0 * size + (size - 1) = omega arith in
    ap (λ (n : ℕ). cut_records size n []) (ap (λ (n : ℕ). n / size) same ∙ div-mul-add 0 size (size - 1) (omega arith))

pub one_block : (size : ℕ) (rest : List ℕ) → 0 < length rest → length rest < size → blocks_of size rest ≡ rest ∷ []
one_block size rest some short =
    let same : length rest + size - 1 ≡ 1 * size + (length rest - 1) = omega arith in
    let count : chunk_count (length rest) size ≡ 1 = ap (λ (n : ℕ). n / size) same ∙ div-mul-add 1 size (length rest - 1) (omega arith) in
    ap (λ (n : ℕ). cut_records size n rest) count ∙ ap (λ (t : List ℕ). t ∷ []) (take_all size rest (omega arith))

-- bytes are their full blocks and their rest
cut_whole : (size n : ℕ) (bytes : List ℕ) → n * size ≤ length bytes → AreFull size (cut_records size n bytes) × (concat (cut_records size n bytes) ++ drop (size * n) bytes ≡ bytes)
cut_whole size zero bytes h =
    let none : size * 0 ≡ 0 = omega arith in
    (tt, ap (λ (k : ℕ). drop k bytes) none)
cut_whole size (suc n) bytes h =
    let more : n * size ≤ length (drop size bytes) = omega (arith, length-drop size bytes, h) in
    let rest = cut_whole size n (drop size bytes) more in
    let long : size ≤ length bytes = omega (arith, h) in
    let far : size + size * n ≡ size * suc n = omega arith in
    let left : drop (size * suc n) bytes ≡ drop (size * n) (drop size bytes) = ap (λ (k : ℕ). drop k bytes) (sym far) ∙ sym (drop-drop (size * n) size bytes) in (
      (length-take-le size bytes long, rest.0),
      append_assoc (take size bytes) (concat (cut_records size n (drop size bytes))) (drop (size * suc n) bytes)
          ∙ ap (λ (t : List ℕ). take size bytes ++ (concat (cut_records size n (drop size bytes)) ++ t)) left
          ∙ ap (λ (t : List ℕ). take size bytes ++ t) rest.1
          ∙ take-append-drop size bytes,
    )

-- what is left after the full blocks
abbrev pub rest_of : ℕ → List ℕ → List ℕ
rest_of size bytes = drop (size * (length bytes / size)) bytes

pub splits : (size : ℕ) (bytes : List ℕ) → 0 < size → Splits size bytes (full_blocks size bytes) (rest_of size bytes)
splits size bytes some =
    let count = length bytes / size in
    let divided : count * size + length bytes % size ≡ length bytes = div-add-mod' (length bytes) size in
    let less : length bytes % size < size = omega arith in
    let enough : count * size ≤ length bytes = omega (arith, divided) in
    let both = cut_whole size count bytes enough in
    let turned : size * count ≡ count * size = mul_comm size count in
    record {
      whole = sym both.1;
      full = both.0;
      short = omega (arith, length-drop (size * count) bytes, divided, less, turned);
    }

-- more bytes leave the full blocks where they are
pub full_blocks_more : (size : ℕ) (xs ys : List ℕ) → 0 < size → full_blocks size (xs ++ ys) ≡ full_blocks size xs ++ full_blocks size (rest_of size xs ++ ys)
full_blocks_more size xs ys some =
    let first = splits size xs some in
    let second = splits size (rest_of size xs ++ ys) some in
    let fs = full_blocks size xs in
    let gs = full_blocks size (rest_of size xs ++ ys) in
    let rest = rest_of size (rest_of size xs ++ ys) in
    full_blocks_are size (xs ++ ys) (fs ++ gs) rest (record {
      whole = ap (λ (t : List ℕ). t ++ ys) first.whole ∙ append_assoc (concat fs) (rest_of size xs) ys ∙ ap (λ (t : List ℕ). concat fs ++ t) second.whole
          ∙ sym (append_assoc (concat fs) (concat gs) rest) ∙ ap (λ (t : List ℕ). t ++ rest) (sym (concat-append fs gs));
      full = AreFull-append size fs gs first.full second.full;
      short = second.short;
    })
