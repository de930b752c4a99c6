-- Files of parts under one plain head are merged to all of their records.
use Rattle.std.proofs.Common.{◌≡◌, inl, inr, ℕ, suc, ◌+◌, ◌*◌, ◌/◌, ◌==◌, ◌^◌, ◌<◌, ◌≤◌, Bool, true, false, cond, List, [], ◌∷◌, ◌++◌, length, take, drop, Option, Some, None, refl, sym, ◌∙◌, ap, subst, length-append, arith}
use Rattle.std.specs.Prelude.{All}
use Rattle.std.specs.List.{concat, splice}
use Rattle.std.proofs.lemmas.List.{drop-take, get_or-map, length-map, take-take}
use Rattle.std.proofs.lemmas.Bool.{cases_lt}
use Rattle.std.proofs.lemmas.Bool.Decides.{Decides-eqb}
use Rattle.std.proofs.lemmas.List.Elements.{All-cons, All-nil}
use Rattle.std.proofs.lemmas.List.Sums.{sum_by-cons}
use Rattle.std.proofs.lemmas.Slice.Eq.{bytes_eq-Decides}
use Rattle.std.proofs.Math.Nat.{mul-le-mul_left}
use Rattle.las_header.specs.declared.limits.TheConstants.{MAX_PLAIN_OFFSET}
use Rattle.las_header.specs.Counting.{counts_bytes, long_counts_bytes, with_counts}
use Rattle.las_header.specs.Fields.{format_of, has_long_counts, head_of, is_packed, points_of, record_length_of}
use Rattle.las_header.specs.Heads.{IsHead}
use Rattle.las_header.specs.Plain.{cut_records, plain_of}
use Rattle.las_header.specs.Vlrs.{laszip_vlrs_of}
use Rattle.las_header.proofs.Public.{drop-splice, length-splice, slice_index-splice, take-splice}
use Rattle.las_outside.specs.Files.{FileMap}
use Rattle.las_points.specs.Tally.{counts_of}
use Rattle.laz_range.specs.Span.{IsBytes}
use Rattle.laz_table.proofs.Public.{IsBytes-append}
use Rattle.laz_forms.specs.Laws.{AreHeadAndRecords, file_of}
use Rattle.laz_forms.specs.Outputs.{finished, records_after}
use Rattle.laz_forms.specs.Refusing.{IsAcceptedFile}
use Rattle.laz_forms.proofs.Public.{counted_format, counted_lengths, are_counted, finished_is, long-size, short-size, accepted_plain, head-is, plain-kept, records-is, splice-again, splice-splice, is_plain_form, reads_plain}
use Rattle.laz_forms.proofs.Public.{plain_itself}
use Rattle.las_merge.specs.Copying.{output_with}
use Rattle.las_merge.specs.declared.field.Field.{Field}
use Rattle.las_merge.specs.declared.field.Field.TheVariants.{Format, Length, Scales, Offsets, Bounds}
use Rattle.las_merge.specs.Fields.{field_bytes, first_difference, first_differing, is_same}
use Rattle.laz_copied.specs.Copied.{first_head, points_of_files}
use Rattle.las_merge.specs.Inputs.{CanMerge}
use Rattle.las_merge.specs.Merging.{HasRecords, HaveRecords, merged_output}
use Rattle.las_merge.specs.Parts.{IsPart, PartsMerge, StandUnder, part_file, part_packed_files}

-- ---- a head that is counted

-- bytes between the counts stay
between-once : (head short : List ℕ) (place size : ℕ) → 131 ≤ length head → length short ≡ 24 → 131 ≤ place → field_bytes place size (splice head 107 131 short) ≡ field_bytes place size head
between-once head short place size enough s after = ap (λ (t : List ℕ). take size t) (drop-splice head 107 131 place short (omega (arith, s)) enough after)

between-by : (both : Bool) (head short long : List ℕ) (place size : ℕ) → 131 ≤ length head → (both ≡ true → 375 ≤ length head) → length short ≡ 24 → length long ≡ 128 → 131 ≤ place → place + size ≤ 227
    → field_bytes place size (cond both (splice (splice head 107 131 short) 247 375 long) (splice head 107 131 short)) ≡ field_bytes place size head
between-by false head short long place size enough far s l after before = between-once head short place size enough s after
between-by true head short long place size enough far s l after before =
    let once = splice head 107 131 short in
    let twice = splice once 247 375 long in
    let room : 247 ≤ length once = omega (arith, length-splice head 107 131 short (omega (arith, s)) enough, far refl) in
    let front : take (place + size) twice ≡ take (place + size) once =
    sym (take-take (place + size) 247 twice (omega (arith, before))) ∙ ap (λ (t : List ℕ). take (place + size) t) (take-splice once 247 375 long room) ∙ take-take (place + size) 247 once (omega (arith, before)) in
    sym (drop-take place size twice) ∙ ap (λ (t : List ℕ). drop place t) front ∙ drop-take place size once ∙ between-once head short place size enough s after

-- of counts that are set twice, the second stand
twice-by : (both : Bool) (head s t l m : List ℕ) → 131 ≤ length head → (both ≡ true → 375 ≤ length head) → length s ≡ 24 → length t ≡ 24 → length l ≡ 128
    → cond both (splice (splice (cond both (splice (splice head 107 131 s) 247 375 l) (splice head 107 131 s)) 107 131 t) 247 375 m) (splice (cond both (splice (splice head 107 131 s) 247 375 l) (splice head 107 131 s)) 107 131 t)
    ≡ cond both (splice (splice head 107 131 t) 247 375 m) (splice head 107 131 t)
twice-by false head s t l m enough far a b c = splice-again head s t 107 131 (omega (arith, a)) enough
twice-by true head s t l m enough far a b c =
    let once = splice head 107 131 s in
    let size = length-splice head 107 131 s (omega (arith, a)) enough in
    let other = splice once 107 131 t in
    let other_size = length-splice once 107 131 t (omega (arith, b)) (omega (arith, size, enough)) in
    ap (λ (x : List ℕ). splice x 247 375 m) (sym (splice-splice once t l 107 131 247 375 (omega (arith, b)) (omega arith) (omega arith) (omega (arith, size, far refl))))
    ∙ splice-again other l m 247 375 (omega (arith, c)) (omega (arith, other_size, size, far refl))
    ∙ ap (λ (x : List ℕ). splice x 247 375 m) (splice-again head s t 107 131 (omega (arith, a)) enough)

long-once : (head short : List ℕ) → 131 ≤ length head → has_long_counts (splice head 107 131 short) ≡ has_long_counts head
long-once head short enough = ap (λ (m : ℕ). m == 4) (slice_index-splice 25 107 131 head short (omega arith) (omega (arith, enough)))

long-by : (both : Bool) (head short long : List ℕ) → 131 ≤ length head → (both ≡ true → 375 ≤ length head) → length short ≡ 24 → has_long_counts (cond both (splice (splice head 107 131 short) 247 375 long) (splice head 107 131 short)) ≡ has_long_counts head
long-by false head short long enough far s = long-once head short enough
long-by true head short long enough far s =
    ap (λ (m : ℕ). m == 4) (slice_index-splice 25 247 375 (splice head 107 131 short) long (omega arith) (omega (arith, length-splice head 107 131 short (omega (arith, s)) enough, far refl)))
    ∙ long-once head short enough

module _ (head : List ℕ) (is : IsHead head) where
  abbrev counted : (records : List ℕ) → List ℕ
  counted records = with_counts (counts_of (records_after head records)) head

  enough : 131 ≤ length head
  enough = omega (arith, is.block)

  same_between : (records : List ℕ) (place size : ℕ) → 131 ≤ place → place + size ≤ 227 → field_bytes place size (counted records) ≡ field_bytes place size head
  same_between records place size after before =
      let all = records_after head records in
      between-by (has_long_counts head) head (counts_bytes (counts_of all)) (long_counts_bytes (counts_of all)) place size enough is.long_block (short-size all) (long-size all) after before

  same_format : (records : List ℕ) → format_of (counted records) ≡ format_of head
  same_format records = let all = records_after head records in counted_format head (counts_bytes (counts_of all)) (long_counts_bytes (counts_of all)) is (short-size all) (long-size all)

  same_length : (records : List ℕ) → record_length_of (counted records) ≡ record_length_of head
  same_length records = let all = records_after head records in counted_lengths head (counts_bytes (counts_of all)) (long_counts_bytes (counts_of all)) is (short-size all) (long-size all)

  fields_same : (one other : List ℕ) (field : Field) → is_same field (counted one) (counted other) ≡ true
  fields_same one other Format = (Decides-eqb (format_of (counted one)) (format_of (counted other))).1 (same_format one ∙ sym (same_format other))
  fields_same one other Length = (Decides-eqb (record_length_of (counted one)) (record_length_of (counted other))).1 (same_length one ∙ sym (same_length other))
  fields_same one other Scales = (bytes_eq-Decides (field_bytes 131 24 (counted one)) (field_bytes 131 24 (counted other))).1 (same_between one 131 24 (omega arith) (omega arith) ∙ sym (same_between other 131 24 (omega arith) (omega arith)))
  fields_same one other Offsets = (bytes_eq-Decides (field_bytes 155 24 (counted one)) (field_bytes 155 24 (counted other))).1 (same_between one 155 24 (omega arith) (omega arith) ∙ sym (same_between other 155 24 (omega arith) (omega arith)))
  fields_same one other Bounds = (bytes_eq-Decides (field_bytes 179 48 (counted one)) (field_bytes 179 48 (counted other))).1 (same_between one 179 48 (omega arith) (omega arith) ∙ sym (same_between other 179 48 (omega arith) (omega arith)))

  none_differ : (one other : List ℕ) (fields : List Field) → first_differing fields (counted one) (counted other) ≡ None
  none_differ one other [] = refl
  none_differ one other (field ∷ fields) =
      ap (λ (b : Bool). cond b (first_differing fields (counted one) (counted other)) (Some field)) (fields_same one other field) ∙ none_differ one other fields

  -- counted for other records, it is as if it was counted once
  counted_twice : (one other : List ℕ) → with_counts (counts_of (records_after (counted one) other)) (counted one) ≡ counted other
  counted_twice one other =
      let first = records_after head one in
      let all = records_after head other in
      let same : records_after (counted one) other ≡ all = ap (λ (n : ℕ). cut_records n (length other / n) other) (same_length one) in
      let long : has_long_counts (counted one) ≡ has_long_counts head = long-by (has_long_counts head) head (counts_bytes (counts_of first)) (long_counts_bytes (counts_of first)) enough is.long_block (short-size first) in
      ap (λ (rs : List (List ℕ)). with_counts (counts_of rs) (counted one)) same
      ∙ ap (λ (b : Bool). cond b (splice (splice (counted one) 107 131 (counts_bytes (counts_of all))) 247 375 (long_counts_bytes (counts_of all))) (splice (counted one) 107 131 (counts_bytes (counts_of all)))) long
      ∙ twice-by (has_long_counts head) head (counts_bytes (counts_of first)) (counts_bytes (counts_of all)) (long_counts_bytes (counts_of first)) (long_counts_bytes (counts_of all)) enough is.long_block (short-size first) (short-size all) (long-size first)

  -- ---- parts of its records

  file_is : (part : List ℕ) → part_file head part ≡ counted part ++ part
  file_is part = finished_is (output_with [] head None) part is

  few_records : (count : ℕ) (part : List ℕ) → length part ≡ record_length_of head * count → length part < record_length_of head * 2 ^ 32 → count < 2 ^ 32
  few_records count part whole few = elim (cases_lt count (2 ^ 32)) [
    | inl less ↦ less
    | inr more ↦ absurd (omega (arith, whole, few, mul-le-mul_left (record_length_of head) more))
  ]

  module _ (plain : is_packed head ≡ false) (none : laszip_vlrs_of head ≡ []) (near : length head ≤ MAX_PLAIN_OFFSET) (head_bytes : IsBytes head) where
    whole_part : (part : List ℕ) → IsPart head part → length part < record_length_of head * 2 ^ 32 → AreHeadAndRecords (counted part) part
    whole_part part p few = are_counted head part p.count is plain none near head_bytes p.bytes p.whole (few_records p.count part p.whole few)

    head_part : (part : List ℕ) → IsPart head part → length part < record_length_of head * 2 ^ 32 → head_of (part_file head part) ≡ counted part
    head_part part p few = ap head_of (file_is part) ∙ head-is (counted part) part (whole_part part p few)

    accepted_part : (part : List ℕ) → IsPart head part → length part < record_length_of head * 2 ^ 32 → IsAcceptedFile (part_file head part)
    accepted_part part p few = subst IsAcceptedFile (sym (file_is part)) (accepted_plain (counted part) part (whole_part part p few))

    records_part : (part : List ℕ) → IsPart head part → length part < record_length_of head * 2 ^ 32 → HasRecords (part_file head part) part
    records_part part p few =
        let file = counted part ++ part in
        let a = whole_part part p few in
        let accepted = accepted_plain (counted part) part a in
        let kept = plain-kept (counted part) part a in
        let bytes = IsBytes-append (counted part) part a.head_bytes a.record_bytes in
        let u = is_plain_form file accepted kept bytes in
        subst (λ (f : List ℕ). HasRecords f part) (sym (file_is part)) (u.0, u.1, sym (reads_plain file accepted kept bytes u.1.0 u.0 u.1.1 u.1.2 ∙ records-is (counted part) part a))

    points_part : (part : List ℕ) (p : IsPart head part) → length part < record_length_of head * 2 ^ 32 → record_length_of head * points_of (head_of (part_file head part)) ≡ length part
    points_part part p few =
        ap (λ (h : List ℕ). record_length_of head * points_of h) (head_part part p few)
        ∙ ap (λ (n : ℕ). n * points_of (counted part)) (sym (same_length part))
        ∙ sym (whole_part part p few).whole

    rest_few : (part : List ℕ) (parts : List (List ℕ)) → length (concat (part ∷ parts)) < record_length_of head * 2 ^ 32 → (length part < record_length_of head * 2 ^ 32) × (length (concat parts) < record_length_of head * 2 ^ 32)
    rest_few part parts few = (omega (arith, few, length-append part (concat parts)), omega (arith, few, length-append part (concat parts)))

    accepted_all : (parts : List (List ℕ)) → All (IsPart head) parts → length (concat parts) < record_length_of head * 2 ^ 32 → All IsAcceptedFile (part_packed_files head parts)
    accepted_all [] each few = All-nil IsAcceptedFile
    accepted_all (p ∷ ps) each few =
        let f = rest_few p ps few in
        All-cons IsAcceptedFile (part_file head p) (part_packed_files head ps) (accepted_part p (each 0 p (omega arith)) f.0) (accepted_all ps (λ k d lt. each (suc k) d (omega (arith, lt))) f.1)

    alike_all : (first : List ℕ) (parts : List (List ℕ)) → All (IsPart head) parts → length (concat parts) < record_length_of head * 2 ^ 32 → All (λ file. first_difference (counted first) (head_of file) ≡ None) (part_packed_files head parts)
    alike_all first [] each few = All-nil (λ (file : List ℕ). first_difference (counted first) (head_of file) ≡ None)
    alike_all first (p ∷ ps) each few =
        let f = rest_few p ps few in
        All-cons (λ (file : List ℕ). first_difference (counted first) (head_of file) ≡ None) (part_file head p) (part_packed_files head ps)
        (ap (λ (h : List ℕ). first_difference (counted first) h) (head_part p (each 0 p (omega arith)) f.0) ∙ none_differ first p (Format ∷ Length ∷ Scales ∷ Offsets ∷ Bounds ∷ []))
        (alike_all first ps (λ k d lt. each (suc k) d (omega (arith, lt))) f.1)

    records_all : (parts : List (List ℕ)) → All (IsPart head) parts → length (concat parts) < record_length_of head * 2 ^ 32 → HaveRecords (part_packed_files head parts) parts
    records_all [] each few = tt
    records_all (p ∷ ps) each few =
        let f = rest_few p ps few in
        (records_part p (each 0 p (omega arith)) f.0, records_all ps (λ k d lt. each (suc k) d (omega (arith, lt))) f.1)

    points_all : (parts : List (List ℕ)) → All (IsPart head) parts → length (concat parts) < record_length_of head * 2 ^ 32 → record_length_of head * points_of_files (part_packed_files head parts) ≡ length (concat parts)
    points_all [] each few = omega arith
    points_all (p ∷ ps) each few =
        let f = rest_few p ps few in
        let one = points_part p (each 0 p (omega arith)) f.0 in
        let rest = points_all ps (λ k d lt. each (suc k) d (omega (arith, lt))) f.1 in
        let sum_is = sum_by-cons (λ (file : List ℕ). points_of (head_of file)) (part_file head p) (part_packed_files head ps) in
        omega (arith, one, rest, ap (λ (n : ℕ). record_length_of head * n) sum_is, length-append p (concat ps))

    few_points : (parts : List (List ℕ)) → All (IsPart head) parts → length (concat parts) < record_length_of head * 2 ^ 32 → points_of_files (part_packed_files head parts) < 2 ^ 32
    few_points parts each few = few_records (points_of_files (part_packed_files head parts)) (concat parts) (sym (points_all parts each few)) few

    first_part : (p : List ℕ) (ps : List (List ℕ)) → All (IsPart head) (p ∷ ps) → length (concat (p ∷ ps)) < record_length_of head * 2 ^ 32 → first_head (part_packed_files head (p ∷ ps)) ≡ counted p
    first_part p ps each few = head_part p (each 0 p (omega arith)) (rest_few p ps few).0

    plain_first : (p : List ℕ) (ps : List (List ℕ)) → All (IsPart head) (p ∷ ps) → length (concat (p ∷ ps)) < record_length_of head * 2 ^ 32 → plain_of (first_head (part_packed_files head (p ∷ ps))) ≡ counted p
    plain_first p ps each few =
        let a = whole_part p (each 0 p (omega arith)) (rest_few p ps few).0 in
        ap plain_of (first_part p ps each few) ∙ sym (plain_itself (counted p) a.plain)

    finished_parts : (p : List ℕ) (ps : List (List ℕ)) → All (IsPart head) (p ∷ ps) → length (concat (p ∷ ps)) < record_length_of head * 2 ^ 32 → (name : List ℕ) (chunk : Option ℕ)
        → finished (merged_output name (part_packed_files head (p ∷ ps)) chunk) (concat (p ∷ ps)) ≡ finished (output_with name head chunk) (concat (p ∷ ps))
    finished_parts p ps each few name chunk =
        let all = concat (p ∷ ps) in
        let a = whole_part p (each 0 p (omega arith)) (rest_few p ps few).0 in
        ap (λ (h : List ℕ). finished (output_with name h chunk) all) (plain_first p ps each few)
        ∙ finished_is (output_with name (counted p) chunk) all a.head_is
        ∙ ap (λ (h : List ℕ). file_of chunk h all) (counted_twice p all)
        ∙ sym (finished_is (output_with name head chunk) all is)

    can_parts : (known : FileMap) (names : List (List ℕ)) (p : List ℕ) (ps : List (List ℕ)) → All (IsPart head) (p ∷ ps) → length (concat (p ∷ ps)) < record_length_of head * 2 ^ 32 → length (p ∷ ps) ≡ length names → StandUnder known names head (p ∷ ps) → CanMerge known names (part_packed_files head (p ∷ ps))
    can_parts known names p ps each few count stand =
        let parts = p ∷ ps in
        let long : length (part_packed_files head parts) ≡ length parts = length-map parts (part_file head) in
        record {
          first = record {
            within = omega (arith, long, count);
            held = λ k lt. stand k (omega (arith, lt, long)) ∙ ap (λ (file : List ℕ). Some file) (sym (get_or-map (part_file head) parts k [] [] (omega (arith, lt, long))));
            accepted = accepted_all parts each few;
            alike = subst (λ (h : List ℕ). All (λ file. first_difference h (head_of file) ≡ None) (part_packed_files head parts)) (sym (first_part p ps each few)) (alike_all p parts each few);
          };
          all = long ∙ count;
          few = few_points parts each few;
        }

pub parts_merge : PartsMerge
parts_merge known names head [] a some count stand = absurd (omega (arith, some))
parts_merge known names head (p ∷ ps) a some count stand = (
  can_parts head a.head_is a.plain a.none a.near a.head_bytes known names p ps a.each a.few count stand,
  (p ∷ ps, records_all head a.head_is a.plain a.none a.near a.head_bytes (p ∷ ps) a.each a.few, refl),
  λ name chunk. finished_parts head a.head_is a.plain a.none a.near a.head_bytes p ps a.each a.few name chunk,
)
