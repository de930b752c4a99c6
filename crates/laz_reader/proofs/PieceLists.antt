-- Pieces one after another, and where they lie.
use Rattle.std.proofs.Common.{◌≡◌, ℕ, zero, suc, ◌+◌, ◌-◌, ◌*◌, ◌<◌, ◌≤◌, min, List, [], ◌∷◌, length, map, take, true, false, Option, Some, None, refl, sym, ◌∙◌, ap, arith}
use Rattle.std.specs.Prelude.{sum, All}
use Rattle.std.specs.List.{range_with_len}
use Rattle.std.proofs.lemmas.List.Elements.{All-nil, All-cons}
use Rattle.std.proofs.lemmas.List.{length-map, length-take, take_all}
use Rattle.std.proofs.Math.Nat.{mul-le-mul}
use Rattle.laz_table.specs.Chunks.{fixed_sizes}
use Rattle.laz_table.specs.VlrCauses.{chunk_count}
use Rattle.laz_forms.specs.Pieces.{Piece, pieces_from, plain_from, whole_piece}
use Rattle.laz_forms.specs.Ranges.{whole_range}
use Rattle.laz_reader.proofs.Kept.{left_whole}
use Rattle.laz_forms.proofs.Public.{sum-sizes, sum-times}
use Rattle.laz_reader.specs.Reading.{AgreesWithHead, IsInPlace, LiesIn, Position, chunk_of, chunks_in, pieces_left, pieces_listed, records_in}
use Rattle.las_header.specs.Fields.{is_packed, points_of, record_length_of}
use Rattle.las_header.specs.Heads.{HeadView}
use Rattle.las_header.specs.Vlrs.{laszip_vlrs_of}
use Rattle.laz_models.proofs.Public.{sum-cons}

-- pieces lie in a file that goes on to their end
pub pieces_lie : (file : List ℕ) (at : ℕ) (counts sizes : List ℕ) → at + sum sizes ≤ length file → All (LiesIn file) (pieces_from at counts sizes)
pieces_lie file at [] sizes h = All-nil (LiesIn file)
pieces_lie file at (n ∷ counts) [] h = All-nil (LiesIn file)
pieces_lie file at (n ∷ counts) (s ∷ sizes) h =
    let first = sum-cons s sizes in
    All-cons (LiesIn file) (whole_piece at s n) (pieces_from (at + s) counts sizes) (omega arith) (pieces_lie file (at + s) counts sizes (omega arith))

-- one piece for each count and size
pub length-pieces : (at : ℕ) (counts sizes : List ℕ) → length counts ≡ length sizes → length (pieces_from at counts sizes) ≡ length counts
length-pieces at [] sizes e = refl
length-pieces at (n ∷ counts) [] e = absurd (omega arith)
length-pieces at (n ∷ counts) (s ∷ sizes) e = ap suc (length-pieces (at + s) counts sizes (omega arith))

-- what is left after the first piece of all
shift : (f g : ℕ → ℕ) (a k : ℕ) → ((i : ℕ) → f (i + 1) ≡ g i) → map f (range_with_len (a + 1) k) ≡ map g (range_with_len a k)
shift f g a zero h = refl
shift f g a (suc k) h = λ i. h a i ∷ shift f g (a + 1) k h i

pub counts_first : (n : ℕ) → 0 < n → fixed_sizes 50000 n ≡ min 50000 n ∷ fixed_sizes 50000 (n - 50000)
counts_first n some =
    let k = chunk_count (n - 50000) 50000 in
    let more : chunk_count n 50000 ≡ suc k = omega arith in
    let whole : n - 0 ≡ n = omega arith in
    ap (λ (m : ℕ). map (λ i. min 50000 (n - 50000 * i)) (range_with_len 0 m)) more
    ∙ ap (λ (t : List ℕ). min 50000 (n - 0) ∷ t) (shift (λ i. min 50000 (n - 50000 * i)) (λ i. min 50000 (n - 50000 - 50000 * i)) 0 k (λ i. omega arith))
    ∙ ap (λ (m : ℕ). min 50000 m ∷ fixed_sizes 50000 (n - 50000)) whole

-- they add up
pub summed : (size n : ℕ) → sum (map (λ m. size * m) (fixed_sizes 50000 n)) ≡ size * n
summed size n = sum-times size (fixed_sizes 50000 n) ∙ ap (λ (m : ℕ). size * m) (sum-sizes 50000 n (omega arith))

pub plain_lie : (file : List ℕ) (size at n : ℕ) → at + size * n ≤ length file → All (LiesIn file) (plain_from size at n)
plain_lie file size at n h = let all = summed size n in pieces_lie file at (fixed_sizes 50000 n) (map (λ m. size * m) (fixed_sizes 50000 n)) (omega (arith, h, all))

sum_none : (xs : List ℕ) → length xs ≡ 0 → sum xs ≡ 0
sum_none [] e = refl
sum_none (x ∷ xs) e = absurd (omega arith)

-- the numbers of a new reader
abbrev pub start_of : (at records last : ℕ) → Position
start_of at records last = record { at = at; blocks = 0; records = records; ends = record { first = 0; last = last; skip = 0; tail = 0 }; next = 0; batch = 0; bad = false }

pub placed_plain : (size points offset : ℕ) (counts sizes : List ℕ) → length counts ≡ length sizes → counts ≡ [] → size ≤ 226 → points < 4294967296 → offset < 4294967296 → IsInPlace size (start_of offset points (length counts)) counts sizes
placed_plain size points offset counts sizes same none small few near =
    let no_counts : length counts ≡ 0 = ap (λ (l : List ℕ). length l) none in
    let no_sizes : sum (take (length counts - 0) sizes) ≡ 0 = sum_none (take (length counts - 0) sizes) (omega (arith, length-take (length counts - 0) sizes, no_counts)) in
    let most : size * points ≤ 226 * 4294967296 = mul-le-mul {n₁ = size} {m₁ = points} {n₂ = 226} {m₂ = 4294967296} small (omega arith) in
    record { first = omega arith; batch = omega arith; next = omega arith; last = omega arith; front = omega arith; near = omega (arith, no_sizes, most, near); number = omega (arith, no_counts); bad = λ is. absurd (cc) }

pub placed_packed : (size place : ℕ) (counts sizes : List ℕ) → length counts ≡ length sizes → length counts ≤ 16777216 → place + sum sizes < 18446744073709551616 → IsInPlace size (start_of place 0 (length counts)) counts sizes
placed_packed size place counts sizes same few near =
    let all : sum (take (length counts - 0) sizes) ≡ sum sizes = ap sum (take_all (length counts - 0) sizes (omega (arith, same))) in
    record { first = omega arith; batch = omega arith; next = omega arith; last = omega arith; front = omega arith; near = omega (arith, near, all); number = omega (arith, few); bad = λ is. absurd (cc) }

-- what is left for it
pub left_first : (chunk : Option ℕ) (head counts sizes : List ℕ) (at records : ℕ) → length counts ≡ length sizes → (chunk ≡ None → (at ≡ length head) × (records ≡ points_of head)) → ((size : ℕ) → chunk ≡ Some size → at ≡ length head + 8)
    → pieces_left chunk (record_length_of head) (start_of at records (length counts)) counts sizes ≡ pieces_listed chunk head counts sizes
left_first None head counts sizes at records same plain packed =
    let is = plain refl in
    ap (λ (n : ℕ). plain_from (record_length_of head) n records) is.0 ∙ ap (plain_from (record_length_of head) (length head)) is.1
left_first (Some c) head counts sizes at records same plain packed =
    left_whole (record { first = 0; last = length counts; skip = 0; tail = 0 }) refl refl at counts sizes same refl
    ∙ ap (λ (n : ℕ). pieces_from n counts sizes) (packed c refl)

pub chunks_are : (chunk : Option ℕ) (head counts sizes : List ℕ) → (chunk ≡ None → counts ≡ []) → pieces_from (length head + 8) counts sizes ≡ chunks_in chunk (pieces_listed chunk head counts sizes)
chunks_are None head counts sizes none = ap (λ (l : List ℕ). pieces_from (length head + 8) l sizes) (none refl)
chunks_are (Some chunk) head counts sizes none = refl

-- the pieces have the records that are counted
pub piece_counts : (at : ℕ) (counts sizes : List ℕ) → length counts ≡ length sizes → map (λ (p : Piece). p.count) (pieces_from at counts sizes) ≡ counts
piece_counts at [] sizes e = refl
piece_counts at (n ∷ counts) [] e = absurd (omega arith)
piece_counts at (n ∷ counts) (s ∷ sizes) e = ap (λ (l : List ℕ). n ∷ l) (piece_counts (at + s) counts sizes (omega arith))

pub piece_taken : (at : ℕ) (counts sizes : List ℕ) → length counts ≡ length sizes → map (λ (p : Piece). p.taken) (pieces_from at counts sizes) ≡ counts
piece_taken at [] sizes e = refl
piece_taken at (n ∷ counts) [] e = absurd (omega arith)
piece_taken at (n ∷ counts) (s ∷ sizes) e = ap (λ (l : List ℕ). n ∷ l) (piece_taken (at + s) counts sizes (omega arith))

pub piece_sizes : (at : ℕ) (counts sizes : List ℕ) → length counts ≡ length sizes → map (λ (p : Piece). p.size) (pieces_from at counts sizes) ≡ sizes
piece_sizes at [] [] e = refl
piece_sizes at [] (s ∷ sizes) e = absurd (omega arith)
piece_sizes at (n ∷ counts) [] e = absurd (omega arith)
piece_sizes at (n ∷ counts) (s ∷ sizes) e = ap (λ (l : List ℕ). s ∷ l) (piece_sizes (at + s) counts sizes (omega arith))

all_listed : (chunk : Option ℕ) (head counts sizes : List ℕ) → length counts ≡ length sizes → ((size : ℕ) → chunk ≡ Some size → sum counts ≡ points_of head) → records_in (pieces_listed chunk head counts sizes) ≡ points_of head
all_listed None head counts sizes same points =
    let blocks = fixed_sizes 50000 (points_of head) in
    ap sum (piece_taken (length head) blocks _ (sym (length-map blocks _))) ∙ sum-sizes 50000 (points_of head) (omega arith)
all_listed (Some chunk) head counts sizes same points = ap sum (piece_taken (length head + 8) counts sizes same) ∙ points chunk refl

-- a new reader agrees with its head
pub new_agrees : (name : List ℕ) (head : HeadView) (chunk : Option ℕ) (counts sizes : List ℕ) → chunk ≡ chunk_of head.bytes → (is_packed head.bytes ≡ true → length (laszip_vlrs_of head.bytes) ≡ 1) → (is_packed head.bytes ≡ false → laszip_vlrs_of head.bytes ≡ [])
    → length counts ≡ length sizes → ((size : ℕ) → chunk ≡ Some size → sum counts ≡ points_of head.bytes)
    → AgreesWithHead (record { name = name; head = head; chunk = chunk; pieces = pieces_from (length head.bytes + 8) counts sizes; range = whole_range head.bytes; first = 0; next = 0; left = pieces_listed chunk head.bytes counts sizes; bad = false; failed = false; buffers = 0; cuts = []; lent = [] })
new_agrees name head chunk counts sizes chunk_is one none same points = record {
  chunk = chunk_is;
  one = one;
  none = none;
  order = omega arith;
  within = omega arith;
  records = all_listed chunk head.bytes counts sizes same points ∙ (let all : points_of head.bytes ≡ points_of head.bytes - 0 = omega arith in all);
}
