-- A copied file of heads with the right counts unpacks to what merging gives.
use Rattle.std.proofs.Common.{◌≡◌, ℕ, ◌+◌, ◌*◌, ◌/◌, ◌%◌, ◌<◌, ◌≤◌, ◌==◌, min, sum, Bool, true, false, cond, List, [], ◌∷◌, ◌++◌, length, take, replicate, slice_index, None, map, lit<, refl, sym, ap, subst, ◌∙◌, arith, length-append}
use Rattle.std.proofs.lemmas.List.Sums.{count_by-le-length, sum_by-append, sum_by-cons}
use Rattle.std.proofs.Math.Nat.{min-eq_left, mul-div_cancel_left, mul-mod_right}
use Rattle.std.specs.Prelude.{sum_by}
use Rattle.std.specs.List.{AllByRecursion, concat, splice}
use Rattle.las_header.specs.Counting.{long_bytes, long_returns, short_bytes, with_count_bytes, with_counts, with_sums}
use Rattle.las_header.specs.Fields.{format_of, has_long_counts, head_of, is_packed, long_returns_of, points_of, record_length_of, returns_of}
use Rattle.las_header.specs.Heads.{IsHead, IsPlainOf}
use Rattle.laz_range.specs.Span.{IsBytes}
use Rattle.las_header.specs.Plain.{cut_records, plain_of}
use Rattle.las_header.proofs.Public.{cut_length}
use Rattle.las_points.specs.Record.{return_number_of}
use Rattle.las_points.specs.Tally.{count_of_return, counted_file, counts_of}
use Rattle.laz_chunk.specs.Layouts.{Layout, record_length}
use Rattle.laz_forms.specs.Outputs.{records_after}
use Rattle.laz_forms.specs.Packing.{record_layout}
use Rattle.laz_forms.specs.Records.{AreRecordsOf, Unpacks}
use Rattle.laz_forms.specs.Refusing.{IsAcceptedFile}
use Rattle.laz_forms.proofs.Public.{cut-joined, layout-length, concat-append}
use Rattle.laz_writer.proofs.Public.{cut-append}
use Rattle.laz_table.specs.VlrCauses.{extra_of}
use Rattle.laz_copied.specs.Copied.{AreChunks, Chunk, HaveChunks, all_of, chunk_at, copied_file, copied_head, chunk_counts, first_head, long_returns_in, points_of_files, returns_in, returns_to_15}
use Rattle.laz_copied.specs.Laws.{AreRight, CanBeCopied, CanCopy, HasRightCounts, HaveBlocks, HaveBothSets, UnpacksToMerged}
use Rattle.laz_copied.proofs.Chunks.{ChunksHold, hold_of_pieces}
use Rattle.laz_copied.proofs.Copies.{copied_plain, copied_records, good_of_file, hold_one, layout_of_file}
use Rattle.laz_copied.proofs.Heads.{plain_known}
use Rattle.laz_copied.proofs.PackedFiles.{IsPackedFile, packed_file_known}
use Rattle.laz_models.proofs.Public.{sum-cons}
use Rattle.laz_table.proofs.Public.{IsBytes-append}

-- ---- the records of a file are as many as it counts
hold-length : (l : Layout) (chunks : List Chunk) (blocks : List (List ℕ)) → ChunksHold l chunks blocks → length (concat blocks) ≡ record_length l * sum (chunk_counts chunks)
hold-length l [] [] h = omega arith
hold-length l [] (b ∷ blocks) h = absurd h
hold-length l (c ∷ chunks) [] h = absurd h
hold-length l (c ∷ chunks) (b ∷ blocks) h =
    omega (arith, length-append b (concat blocks), h.0.0.length, hold-length l chunks blocks h.1, ap (λ (n : ℕ). record_length l * n) (sum-cons c.count (chunk_counts chunks)))

-- ---- numbers of files that add up as those of their records
module _ (size : ℕ) (some : 0 < size) where
  abbrev pub cut : List ℕ → List (List ℕ)
  cut bytes = cut_records size (length bytes / size) bytes

  abbrev pub Agree : (value : List ℕ → ℕ) → (g : List (List ℕ) → ℕ) → (files : List (List ℕ)) → (blocks : List (List (List ℕ))) → Type 0
  Agree value g [] [] = Unit {0}
  Agree value g [] (b ∷ blocks) = ⊥
  Agree value g (file ∷ files) [] = ⊥
  Agree value g (file ∷ files) (b ∷ blocks) = (value file ≡ g (cut (concat b))) × (length (concat b) % size ≡ 0) × Agree value g files blocks

  pub total : (value : List ℕ → ℕ) (g : List (List ℕ) → ℕ) → g [] ≡ 0 → ((xs ys : List (List ℕ)) → g (xs ++ ys) ≡ g xs + g ys)
      → (files : List (List ℕ)) (blocks : List (List (List ℕ))) → Agree value g files blocks → sum_by value files ≡ g (cut (concat (all_of blocks)))
  total value g none more [] [] a =
      let zero : 0 ≡ size * 0 = omega arith in
      sym (ap (λ (n : ℕ). g (cut_records size n [])) (ap (λ (n : ℕ). n / size) zero ∙ mul-div_cancel_left 0 some) ∙ none)
  total value g none more [] (b ∷ blocks) a = absurd a
  total value g none more (file ∷ files) [] a = absurd a
  total value g none more (file ∷ files) (b ∷ blocks) a =
      let joined : cut (concat (all_of (b ∷ blocks))) ≡ cut (concat b) ++ cut (concat (all_of blocks)) =
      ap (λ (t : List ℕ). cut t) (concat-append b (all_of blocks)) ∙ cut-append size (concat b) (concat (all_of blocks)) some a.1 in
      omega (arith, sum_by-cons value file files, a.0, total value g none more files blocks a.2, ap g joined, more (cut (concat b)) (cut (concat (all_of blocks))))

-- a number by return is additive, and at most the number of records
count-append : (number : ℕ) (xs ys : List (List ℕ)) → count_of_return (xs ++ ys) number ≡ count_of_return xs number + count_of_return ys number
count-append number xs ys = sum_by-append (λ point. cond (return_number_of point == number) 1 0) xs ys

bounded : (n most : ℕ) → n ≤ most → min n most ≡ n
bounded n most h = min-eq_left h

-- ---- one file
pub record FitsFile (size : ℕ) (file : List ℕ) (block : List (List ℕ)) : Type 0 where
  pub long : length (concat block) ≡ size * points_of (head_of file)
  pub same : record_length_of (head_of file) ≡ size

fits_one : (first file : List ℕ) (part : List Chunk) (b : List (List ℕ)) → CanBeCopied first file → AreChunks file part → AreRecordsOf file b None → FitsFile (record_length_of first) file b
fits_one first file part b can are records =
    let p = packed_file_known file can.accepted can.packed can.bytes in
    let head = head_of file in
    let good = good_of_file file p.front can.packed part are in
    let hold = subst (λ (l : Layout). ChunksHold l part b) (sym (layout_of_file first file can)) (hold_one first file part b can are records) in
    let size : record_length (record_layout head) ≡ record_length_of first =
    omega (arith, layout-length (format_of head) (extra_of head) p.head.format, p.head.record_length, can.record_length) in
    record {
      long = hold-length (record_layout head) part b hold ∙ ap (λ (n : ℕ). n * sum (chunk_counts part)) size ∙ ap (λ (n : ℕ). record_length_of first * n) good.points;
      same = can.record_length;
    }

-- ---- all files
abbrev FitAll : (size : ℕ) → (files : List (List ℕ)) → (blocks : List (List (List ℕ))) → Type 0
FitAll size [] [] = Unit {0}
FitAll size [] (b ∷ blocks) = ⊥
FitAll size (file ∷ files) [] = ⊥
FitAll size (file ∷ files) (b ∷ blocks) = FitsFile size file b × FitAll size files blocks

fit_all : (first : List ℕ) (files : List (List ℕ)) (parts : List (List Chunk)) (blocks : List (List (List ℕ))) → AllByRecursion (CanBeCopied first) files → HaveChunks files parts → HaveBlocks files blocks → FitAll (record_length_of first) files blocks
fit_all first [] [] [] each have hold = tt
fit_all first [] [] (b ∷ blocks) each have hold = absurd hold
fit_all first [] (part ∷ parts) blocks each have hold = absurd have
fit_all first (file ∷ files) [] blocks each have hold = absurd have
fit_all first (file ∷ files) (part ∷ parts) [] each have hold = absurd hold
fit_all first (file ∷ files) (part ∷ parts) (b ∷ blocks) each have hold = (fits_one first file part b each.0 have.0 hold.0, fit_all first files parts blocks each.1 have.1 hold.1)

whole_all : (size : ℕ) (files : List (List ℕ)) (blocks : List (List (List ℕ))) → FitAll size files blocks → length (concat (all_of blocks)) ≡ size * points_of_files files
whole_all size [] [] fit = omega arith
whole_all size [] (b ∷ blocks) fit = absurd fit
whole_all size (file ∷ files) [] fit = absurd fit
whole_all size (file ∷ files) (b ∷ blocks) fit =
    omega (
      arith,
      ap length (concat-append b (all_of blocks)),
      length-append (concat b) (concat (all_of blocks)),
      fit.0.long,
      whole_all size files blocks fit.1,
      ap (λ (n : ℕ). size * n) (sum_by-cons (λ f. points_of (head_of f)) file files),
    )

module _ (size : ℕ) (some : 0 < size) (Q : List ℕ → Type 0) where
  agree : (value : List ℕ → ℕ) (g : List (List ℕ) → ℕ) → ((file : List ℕ) (b : List (List ℕ)) → Q file → FitsFile size file b → HasRightCounts (head_of file) (concat b) → value file ≡ g (cut size some (concat b)))
      → (files : List (List ℕ)) (blocks : List (List (List ℕ))) → AllByRecursion Q files → FitAll size files blocks → AreRight files blocks → Agree size some value g files blocks
  agree value g per [] [] q fit right = tt
  agree value g per [] (b ∷ blocks) q fit right = absurd fit
  agree value g per (file ∷ files) [] q fit right = absurd fit
  agree value g per (file ∷ files) (b ∷ blocks) q fit right = (
    per file b q.0 fit.0 right.0,
    ap (λ (n : ℕ). n % size) fit.0.long ∙ mul-mod_right size (points_of (head_of file)),
    agree value g per files blocks q.1 fit.1 right.1,
  )

-- the records of a file, cut by the length that all have
cut_same : (size : ℕ) (some : 0 < size) (head bytes : List ℕ) → record_length_of head ≡ size → records_after head bytes ≡ cut size some bytes
cut_same size some head bytes same = ap (λ (n : ℕ). cut_records n (length bytes / n) bytes) same

any_file : (files : List (List ℕ)) → AllByRecursion (λ (file : List ℕ). Unit {0}) files
any_file [] = tt
any_file (file ∷ files) = (tt, any_file files)

module _ (files : List (List ℕ)) (blocks : List (List (List ℕ))) (size : ℕ) (some : 0 < size) (fit : FitAll size files blocks) (right : AreRight files blocks) (few : points_of_files files < 4294967296) where
  abbrev bytes : List ℕ
  bytes = concat (all_of blocks)

  abbrev all : List (List ℕ)
  all = cut_records size (length (concat (all_of blocks)) / size) (concat (all_of blocks))

  many : length all ≡ points_of_files files
  many = cut_length size (length bytes / size) bytes ∙ ap (λ (n : ℕ). n / size) (whole_all size files blocks fit) ∙ mul-div_cancel_left (points_of_files files) some

  joined : concat all ≡ bytes
  joined =
      let count : length bytes / size ≡ points_of_files files = ap (λ (n : ℕ). n / size) (whole_all size files blocks fit) ∙ mul-div_cancel_left (points_of_files files) some in
      cut-joined size (length bytes / size) bytes (omega (arith, whole_all size files blocks fit, ap (λ (n : ℕ). size * n) count))

  -- the sum of a number by return
  by_return : (value : List ℕ → ℕ) (Q : List ℕ → Type 0) (number most : ℕ) → 4294967295 ≤ most → AllByRecursion Q files
      → ((file : List ℕ) (b : List (List ℕ)) → Q file → FitsFile size file b → HasRightCounts (head_of file) (concat b) → value file ≡ count_of_return (cut size some (concat b)) number)
      → min (sum_by value files) most ≡ count_of_return all number
  by_return value Q number most enough q per =
      let sum_is = total size some value (λ rs. count_of_return rs number) refl (count-append number) files blocks (agree size some Q value (λ rs. count_of_return rs number) per files blocks q fit right) in
      bounded (sum_by value files) most (omega (arith, sum_is, count_by-le-length (λ point. return_number_of point == number) all, many, few, enough)) ∙ sum_is

  by_none : (value : List ℕ → ℕ) (Q : List ℕ → Type 0) (most : ℕ) → AllByRecursion Q files
      → ((file : List ℕ) (b : List (List ℕ)) → Q file → FitsFile size file b → HasRightCounts (head_of file) (concat b) → value file ≡ 0)
      → min (sum_by value files) most ≡ 0
  by_none value Q most q per =
      let sum_is = total size some value (λ rs. 0) refl (λ xs ys. omega arith) files blocks (agree size some Q value (λ rs. 0) per files blocks q fit right) in
      omega (arith, sum_is)

  short_at : (i number : ℕ) → ((rs : List (List ℕ)) → slice_index (take 5 (counts_of rs).returns) i ≡ count_of_return rs number)
      → min (sum_by (λ file. slice_index (returns_of (head_of file)) i) files) 4294967295 ≡ count_of_return all number
  short_at i number at =
      by_return (λ file. slice_index (returns_of (head_of file)) i) (λ file. Unit {0}) number 4294967295 (omega arith) (any_file files)
      (λ file b q f r.
      ap (λ (l : List ℕ). slice_index l i) r.0 ∙ at (records_after (head_of file) (concat b))
      ∙ ap (λ (rs : List (List ℕ)). count_of_return rs number) (cut_same size some (head_of file) (concat b) f.same))

  pub short_is : returns_in files ≡ take 5 (counts_of all).returns
  short_is =
      let a = short_at 0 1 (λ rs. refl) in
      let b = short_at 1 2 (λ rs. refl) in
      let c = short_at 2 3 (λ rs. refl) in
      let d = short_at 3 4 (λ rs. refl) in
      let e = short_at 4 5 (λ rs. refl) in
      λ i. a i ∷ b i ∷ c i ∷ d i ∷ e i ∷ []

  -- and of the second sets
  module _ (both : AllByRecursion (λ (file : List ℕ). has_long_counts (head_of file) ≡ true) files) where
    abbrev HasBoth : List ℕ → Type 0
    HasBoth file = has_long_counts (head_of file) ≡ true

    row : (file : List ℕ) (b : List (List ℕ)) → has_long_counts (head_of file) ≡ true → FitsFile size file b → HasRightCounts (head_of file) (concat b) → returns_to_15 (head_of file) ≡ long_returns (counts_of (cut size some (concat b)))
    row file b long f r =
        ap (λ (t : Bool). cond t (long_returns_of (head_of file)) (returns_of (head_of file) ++ replicate 10 0)) long ∙ r.1 long
        ∙ ap (λ (rs : List (List ℕ)). long_returns (counts_of rs)) (cut_same size some (head_of file) (concat b) f.same)

    long_at : (i number : ℕ) → ((rs : List (List ℕ)) → slice_index (long_returns (counts_of rs)) i ≡ count_of_return rs number)
        → min (sum_by (λ file. slice_index (returns_to_15 (head_of file)) i) files) 18446744073709551615 ≡ count_of_return all number
    long_at i number at =
        by_return (λ file. slice_index (returns_to_15 (head_of file)) i) HasBoth number 18446744073709551615 (omega arith) both
        (λ file b q f r. ap (λ (l : List ℕ). slice_index l i) (row file b q f r) ∙ at (cut size some (concat b)))

    none_at : (i : ℕ) → ((rs : List (List ℕ)) → slice_index (long_returns (counts_of rs)) i ≡ 0)
        → min (sum_by (λ file. slice_index (returns_to_15 (head_of file)) i) files) 18446744073709551615 ≡ 0
    none_at i at =
        by_none (λ file. slice_index (returns_to_15 (head_of file)) i) HasBoth 18446744073709551615 both
        (λ file b q f r. ap (λ (l : List ℕ). slice_index l i) (row file b q f r) ∙ at (cut size some (concat b)))

    pub long_is : long_returns_in files ≡ long_returns (counts_of all)
    long_is =
        let a = long_at 0 1 (λ rs. refl) in
        let b = long_at 1 2 (λ rs. refl) in
        let c = long_at 2 3 (λ rs. refl) in
        let d = long_at 3 4 (λ rs. refl) in
        let e = long_at 4 5 (λ rs. refl) in
        let f = long_at 5 6 (λ rs. refl) in
        let g = long_at 6 7 (λ rs. refl) in
        let h = none_at 7 (λ rs. refl) in
        let j = none_at 8 (λ rs. refl) in
        let k = none_at 9 (λ rs. refl) in
        let l = none_at 10 (λ rs. refl) in
        let m = none_at 11 (λ rs. refl) in
        let n = none_at 12 (λ rs. refl) in
        let o = none_at 13 (λ rs. refl) in
        let p = none_at 14 (λ rs. refl) in
        λ i. a i ∷ b i ∷ c i ∷ d i ∷ e i ∷ f i ∷ g i ∷ h i ∷ j i ∷ k i ∷ l i ∷ m i ∷ n i ∷ o i ∷ p i ∷ []

-- ---- heads
by_sets : (b : Bool) (plain short long other : List ℕ) → has_long_counts plain ≡ b → (b ≡ true → long ≡ other) → with_count_bytes short long plain ≡ with_count_bytes short other plain
by_sets true plain short long other e same = ap (λ (l : List ℕ). with_count_bytes short l plain) (same refl)
by_sets false plain short long other e same =
    let first = splice plain 107 131 short in
    ap (λ (x : Bool). cond x (splice first 247 375 long) first) e ∙ sym (ap (λ (x : Bool). cond x (splice first 247 375 other) first) e)

-- ---- the law
module _ (file : List ℕ) (files : List (List ℕ)) (parts : List (List Chunk)) (blocks : List (List (List ℕ))) (can : CanCopy (file ∷ files) parts) (have : HaveBlocks (file ∷ files) blocks) (right : AreRight (file ∷ files) blocks) (sets : HaveBothSets (file ∷ files)) where
  abbrev plain : List ℕ
  plain = plain_of (head_of file)

  abbrev size : ℕ
  size = record_length_of (head_of file)

  p : IsPackedFile file
  p = packed_file_known file can.each.0.accepted can.each.0.packed can.each.0.bytes

  some : 0 < record_length_of (head_of file)
  some = omega (arith, p.head.record_length)

  fit : FitAll (record_length_of (head_of file)) (file ∷ files) blocks
  fit = fit_all (head_of file) (file ∷ files) parts blocks can.each can.have have

  abbrev records : List (List ℕ)
  records = cut_records (record_length_of (head_of file)) (length (concat (all_of blocks)) / record_length_of (head_of file)) (concat (all_of blocks))

  head_is : copied_head (file ∷ files) ≡ with_counts (counts_of records) plain
  head_is =
      let k = plain_known file p can.each.0.packed in
      let long : has_long_counts plain ≡ has_long_counts (head_of file) = ap (λ (m : ℕ). m == 4) k.1.minor in
      let returns = short_is (file ∷ files) blocks size some fit right can.few in
      let points : points_of_files (file ∷ files) ≡ length records = sym (many (file ∷ files) blocks size some fit right can.few) in
      ap (λ (n : ℕ). with_sums n (returns_in (file ∷ files)) (long_returns_in (file ∷ files)) plain) points
      ∙ ap (λ (rs : List ℕ). with_sums (length records) rs (long_returns_in (file ∷ files)) plain) returns
      ∙ by_sets (has_long_counts plain) plain (short_bytes (length records) (take 5 (counts_of records).returns)) (long_bytes (length records) (long_returns_in (file ∷ files))) (long_bytes (length records) (long_returns (counts_of records))) refl
      (λ four. ap (λ (ls : List ℕ). long_bytes (length records) ls) (long_is (file ∷ files) blocks size some fit right can.few (sets (sym long ∙ four))))

  pub copied_unpacks : Unpacks (copied_file (file ∷ files) (all_of parts)) (counted_file plain (records_after plain (concat (all_of blocks))))
  copied_unpacks =
      let k = plain_known file p can.each.0.packed in
      let cut_is : records_after plain (concat (all_of blocks)) ≡ records = cut_same size some plain (concat (all_of blocks)) k.1.plain_is.records.record_length in (
        all_of blocks,
        copied_records file files parts can blocks have,
        ap (λ (rs : List (List ℕ)). counted_file plain rs) cut_is
            ∙ ap (λ (t : List ℕ). with_counts (counts_of records) plain ++ t) (joined (file ∷ files) blocks size some fit right can.few)
            ∙ ap (λ (h : List ℕ). h ++ concat (all_of blocks)) (sym (copied_plain file files parts can ∙ head_is)),
      )

pub merged : UnpacksToMerged
merged [] parts blocks can have right sets = absurd (let some : 1 ≤ 0 = can.some in omega (arith, some))
merged (file ∷ files) parts blocks can have right sets = copied_unpacks file files parts blocks can have right sets

-- ---- the plain head of the first file, and how many records there are
pub plain_head_is : (files : List (List ℕ)) (parts : List (List Chunk)) → CanCopy files parts → IsHead (plain_of (first_head files))
plain_head_is [] parts can = absurd (let some : 1 ≤ 0 = can.some in omega (arith, some))
plain_head_is (file ∷ files) parts can =
    let one = can.each.0 in
    (plain_known file (packed_file_known file one.accepted one.packed one.bytes) one.packed).1.plain_is.is_head

pub records_whole : (files : List (List ℕ)) (parts : List (List Chunk)) (blocks : List (List (List ℕ))) → CanCopy files parts → HaveBlocks files blocks → length (concat (all_of blocks)) ≡ record_length_of (plain_of (first_head files)) * points_of_files files
records_whole [] parts blocks can have = absurd (let some : 1 ≤ 0 = can.some in omega (arith, some))
records_whole (file ∷ files) parts blocks can have =
    let one = can.each.0 in
    let plain = plain_known file (packed_file_known file one.accepted one.packed one.bytes) one.packed in
    whole_all (record_length_of (head_of file)) (file ∷ files) blocks (fit_all (head_of file) (file ∷ files) parts blocks can.each can.have have)
    ∙ ap (λ (n : ℕ). n * points_of_files (file ∷ files)) (sym plain.1.plain_is.records.record_length)

-- ---- the records of one file

bytes_held : (l : Layout) (chunks : List Chunk) (blocks : List (List ℕ)) → ChunksHold l chunks blocks → IsBytes (concat blocks)
bytes_held l [] [] h = λ i. lit< tt
bytes_held l [] (b ∷ blocks) h = absurd h
bytes_held l (c ∷ chunks) [] h = absurd h
bytes_held l (c ∷ chunks) (b ∷ blocks) h = IsBytes-append b (concat blocks) h.0.0.bytes (bytes_held l chunks blocks h.1)

-- those of an accepted packed file whose chunks all hold records are as many as its head counts, and are bytes
pub record AreAllThere (file : List ℕ) (blocks : List (List ℕ)) : Type 0 where
  pub head : IsPlainOf (head_of file) (plain_of (head_of file))
  pub head_bytes : IsBytes (plain_of (head_of file))
  pub long : length (concat blocks) ≡ record_length_of (head_of file) * points_of (head_of file)
  pub bytes : IsBytes (concat blocks)

pub all_there : (file : List ℕ) → IsAcceptedFile file → is_packed (head_of file) ≡ true → IsBytes file → (blocks : List (List ℕ)) → AreRecordsOf file blocks None → AreAllThere file blocks
all_there file accepted packed bytes blocks records =
    let p = packed_file_known file accepted packed bytes in
    let head = head_of file in
    let part = map (chunk_at file) records.0 in
    let are : AreChunks file part = (records.0, records.1, refl) in
    let good = good_of_file file p.front packed part are in
    let hold = hold_of_pieces file records.0 blocks packed records.1 records.2 in
    let size : record_length (record_layout head) ≡ record_length_of head = omega (arith, layout-length (format_of head) (extra_of head) p.head.format, p.head.record_length) in
    let plain = plain_known file p packed in
    record {
      head = plain.1.plain_is;
      head_bytes = plain.1.bytes;
      long = hold-length (record_layout head) part blocks hold ∙ ap (λ (n : ℕ). n * sum (chunk_counts part)) size ∙ ap (λ (n : ℕ). record_length_of head * n) good.points;
      bytes = bytes_held (record_layout head) part blocks hold;
    }
