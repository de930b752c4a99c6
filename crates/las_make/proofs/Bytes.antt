-- Records are bytes, as many as a record has.
use Rattle.std.proofs.Common.{◌≡◌, ℕ, zero, suc, ◌+◌, ◌*◌, ◌/◌, ◌%◌, ◌≤◌, List, ◌∷◌, ◌++◌, length, drop, refl, ◌∙◌, ap, arith, length-append}
use Rattle.std.specs.List.{concat}
use Rattle.std.proofs.lemmas.List.{drop_at, take_at}
use Rattle.std.proofs.lemmas.List.FromFn.{length-map-range_with_len}
use Rattle.las_header.specs.Fields.{format_size}
use Rattle.las_header.specs.Plain.{cut_records}
use Rattle.las_make.specs.declared.drawing.Draws.{Draws}
use Rattle.las_make.specs.declared.settings.Settings.{Settings}
use Rattle.las_make.specs.Records.{base_fields, colour_fields, extra_bytes, record_bytes, time_field}
use Rattle.las_make.specs.Made.{IsInRange, made_length, made_record, records_from}
use Rattle.las_make.proofs.Blank.{each_format}
use Rattle.las_make.proofs.Steps.{drawn_for}

time_length : (f k : ℕ) → f ≤ 3 → length (time_field f k) ≡ 8 * (f % 2)
time_length f k few = each_format (λ f. length (time_field f k) ≡ 8 * (f % 2)) refl refl refl refl f few

colours_length : (f : ℕ) (d : Draws) → f ≤ 3 → length (colour_fields f d) ≡ 6 * (f / 2)
colours_length f d few = each_format (λ f. length (colour_fields f d) ≡ 6 * (f / 2)) refl refl refl refl f few

base_length : (k : ℕ) (d : Draws) → length (base_fields k d) ≡ 20
unfolding base_fields
base_length k d = refl

bytes_length : (f extra k : ℕ) (d : Draws) → f ≤ 3 → length (record_bytes f extra k d) ≡ format_size f + extra
unfolding record_bytes
bytes_length f extra k d few =
    let base = base_fields k d in
    let time = time_field f k in
    let colours = colour_fields f d in
    let last = length-map-range_with_len (λ j. (k + j) % 256) 0 extra in
    omega (arith, length-append (base ++ time ++ colours) (extra_bytes extra k), length-append (base ++ time) colours, length-append base time, base_length k d, time_length f k few, colours_length f d few, last)

pub record_length : (s : Settings) (k : ℕ) → IsInRange s → length (made_record s k) ≡ made_length s
unfolding made_record
record_length s k range = bytes_length s.format s.extra k (drawn_for s k) range.format

-- ---- many records

module _ (s : Settings) (range : IsInRange s) where
  pub all_length : (from n : ℕ) → length (concat (records_from s from n)) ≡ made_length s * n
  all_length from zero = omega arith
  all_length from (suc n) =
      let first = record_length s from range in
      let rest = all_length (from + 1) n in
      omega (arith, length-append (made_record s from) (concat (records_from s (from + 1) n)), first, rest)

  pub cut_again : (from n : ℕ) → cut_records (made_length s) n (concat (records_from s from n)) ≡ records_from s from n
  cut_again from zero = refl
  cut_again from (suc n) =
      let r = made_record s from in
      let rest = concat (records_from s (from + 1) n) in
      let long = record_length s from range in
      ap (λ (x : List ℕ). x ∷ cut_records (made_length s) n (drop (made_length s) (r ++ rest))) (take_at r rest (made_length s) long)
      ∙ ap (λ (x : List ℕ). r ∷ cut_records (made_length s) n x) (drop_at r rest (made_length s) long)
      ∙ ap (λ (xs : List (List ℕ)). r ∷ xs) (cut_again (from + 1) n)
