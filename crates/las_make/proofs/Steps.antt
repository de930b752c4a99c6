-- The records, one after another.
use Rattle.std.proofs.Common.{◌≡◌, ℕ, ◌+◌, ◌*◌, ◌-◌, ◌%◌, ◌<◌, ◌≤◌, List, [], ◌∷◌, ◌++◌, length, take, slice_set, cond, refl, sym, ◌∙◌, ap, arith}
use Rattle.std.specs.Prelude.{◌==◌}
use Rattle.std.specs.List.{concat}
use Rattle.std.proofs.lemmas.List.{append-nil, get_or-set_same, length_push}
use Rattle.std.proofs.lemmas.List.Folds.{concat-append}
use Rattle.std.proofs.lemmas.List.FromFn.{length-map-range_with_len, map-range_with_len_more}
use Rattle.std.proofs.lemmas.List.Sums.{sum_by_push}
use Rattle.std.proofs.lemmas.Slice.{take-put_mid}
use Rattle.std.proofs.Math.Nat.{mul-le-mul_left}
use borrow.Rule.Slice.PartMut.{put_mid}
use Rattle.las_header.specs.declared.counts.Counts.{Counts}
use Rattle.las_header.specs.Fields.{format_size}
use Rattle.las_points.specs.Record.{return_number_of}
use Rattle.las_points.specs.Tally.{count_of_return, counts_of}
use Rattle.las_make.specs.declared.drawing.Draws.{Draws}
use Rattle.las_make.specs.declared.settings.Settings.{Settings}
use Rattle.las_make.specs.Drawing.{draws_at, draws_each, state_drawn}
use Rattle.las_make.specs.Records.{base_fields, flags_made, record_bytes}
use Rattle.las_make.specs.Made.{IsBefore, made_length, made_record, records_from}

-- the numbers that are drawn for a record
abbrev pub drawn_for : Settings → (k : ℕ) → Draws
drawn_for settings k = draws_at settings.format settings.seed (draws_each settings.format * k)

pub state_next : (s : Settings) (k j state new : ℕ) → IsBefore s k state → ((seed n : ℕ) → state ≡ state_drawn seed n → new ≡ state_drawn seed (n + draws_each s.format)) → k + 1 ≡ j → IsBefore s j new
state_next s k j state new is draws next =
    let more : draws_each s.format * k + draws_each s.format ≡ draws_each s.format * (k + 1) = omega arith in
    draws s.seed (draws_each s.format * k) is ∙ ap (λ (n : ℕ). state_drawn s.seed n) (more ∙ ap (λ (n : ℕ). draws_each s.format * n) next)

one_more : (s : Settings) (from i k : ℕ) → from + i ≡ k → records_from s from (i + 1) ≡ records_from s from i ++ made_record s k ∷ []
one_more s from i k is = map-range_with_len_more (made_record s) from i k is

pub room_for : (size i count long whole : ℕ) → size ≡ long → whole ≡ long * count → i < count → size * i + size ≤ whole
room_for size i count long whole size_is is more =
    let next : i + 1 ≤ count = omega arith in
    let enough : long * (i + 1) ≤ long * count = mul-le-mul_left long next in
    let same : size * i ≡ long * i = ap (λ (n : ℕ). n * i) size_is in
    omega (arith, enough, same, size_is, is)

pub filled_next : (s : Settings) (from i size k part : ℕ) (place new : List ℕ) (d : Draws) → size ≡ made_length s → part ≡ size → length new ≡ part → size * i ≤ length place → take (size * i) place ≡ concat (records_from s from i)
    → new ≡ record_bytes s.format (part - format_size s.format) (from + i) d → d ≡ drawn_for s (from + i) → take (size * (i + 1)) (put_mid (size * i) k place new) ≡ concat (records_from s from (i + 1))
unfolding made_record
filled_next s from i size k part place new d size_is part_is long within done is drawn =
    let extra : part - format_size s.format ≡ s.extra = omega arith in
    let one : new ≡ made_record s (from + i) = is ∙ ap (λ (n : ℕ). record_bytes s.format n (from + i) d) extra ∙ ap (λ (d : Draws). record_bytes s.format s.extra (from + i) d) drawn in
    let end : size * (i + 1) ≡ size * i + length new = omega arith in
    take-put_mid (size * i) k place new (size * (i + 1)) end within ∙ ap (λ (xs : List ℕ). xs ++ new) done ∙ ap (λ (xs : List ℕ). concat (records_from s from i) ++ xs) (one ∙ sym (append-nil (made_record s (from + i))))
    ∙ sym (concat-append (records_from s from i) (made_record s (from + i) ∷ [])) ∙ sym (ap concat (one_more s from i (from + i) refl))

-- ---- counts

count_same : (xs : List (List ℕ)) (p q : List ℕ) → return_number_of p ≡ return_number_of q → (n : ℕ) → count_of_return (xs ++ p ∷ []) n ≡ count_of_return (xs ++ q ∷ []) n
count_same xs p q same n =
    let one = λ (point : List ℕ). cond (return_number_of point == n) 1 0 in
    sum_by_push one xs p ∙ ap (λ (r : ℕ). count_of_return xs n + cond (r == n) 1 0) same ∙ sym (sum_by_push one xs q)

counts_same : (xs : List (List ℕ)) (p q : List ℕ) → return_number_of p ≡ return_number_of q → counts_of (xs ++ p ∷ []) ≡ counts_of (xs ++ q ∷ [])
counts_same xs p q same =
    let long : length (xs ++ p ∷ []) ≡ length (xs ++ q ∷ []) = length_push xs p ∙ sym (length_push xs q) in
    let one = count_same xs p q same 1 in
    let two = count_same xs p q same 2 in
    let three = count_same xs p q same 3 in
    let four = count_same xs p q same 4 in
    let five = count_same xs p q same 5 in
    let six = count_same xs p q same 6 in
    let seven = count_same xs p q same 7 in
    cc

number_made : (s : Settings) (k : ℕ) → return_number_of (made_record s k) ≡ flags_made k (drawn_for s k) % 8
unfolding made_record record_bytes base_fields
number_made s k = refl

pub counted_next : (s : Settings) (k flags : ℕ) (point : List ℕ) (counts : Counts) (d : Draws) → length point ≡ 20 → flags ≡ flags_made k d → d ≡ drawn_for s k → ((records : List (List ℕ)) → counts_of (records_from s 0 k) ≡ counts_of records → counts ≡ counts_of (records ++ slice_set point 14 flags ∷ []))
    → counts ≡ counts_of (records_from s 0 (k + 1))
counted_next s k flags point counts d long flags_are drawn list =
    let within : 14 < length point = omega arith in
    let number : return_number_of (slice_set point 14 flags) ≡ return_number_of (made_record s k) =
    ap (λ (b : ℕ). b % 8) (get_or-set_same point 14 flags 0 within ∙ flags_are ∙ ap (λ (d : Draws). flags_made k d) drawn) ∙ sym (number_made s k) in
    list (records_from s 0 k) refl ∙ counts_same (records_from s 0 k) (slice_set point 14 flags) (made_record s k) number ∙ ap counts_of (sym (one_more s 0 k k (omega arith)))

pub points_counted : (s : Settings) (k : ℕ) (counts : Counts) → counts ≡ counts_of (records_from s 0 k) → counts.points ≡ k
points_counted s k counts is = ap (λ (c : Counts). c.points) is ∙ length-map-range_with_len (made_record s) 0 k
