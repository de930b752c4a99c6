-- The head with counts of zero is a head.
use Rattle.std.proofs.Common.{◌≡◌, ℕ, zero, suc, ◌+◌, ◌≤◌, nat_le, false, List, [], ◌++◌, length, replicate, refl, ◌∙◌, ap, arith}
use Rattle.std.proofs.Math.Nat.{mod-eq_of_lt}
use Rattle.std.proofs.lemmas.Bool.Decides.{nat_tests}
use Rattle.las_header.specs.Fields.{format_of, format_size, is_packed, points_of, record_length_of, has_long_counts}
use Rattle.las_header.specs.Heads.{IsHead}
use Rattle.las_header.specs.Numbers.{number_at}
use Rattle.las_header.specs.Vlrs.{laszip_vlrs_of}
use Rattle.las_header.proofs.Public.{number_at-drop, reads_back}
use Rattle.las_make.specs.declared.settings.Settings.{Settings}
use Rattle.las_make.specs.Made.{IsInRange, blank_head, made_length, scale_bytes}

-- what holds of each format
pub each_format : (P : ℕ → Type 0) → P 0 → P 1 → P 2 → P 3 → (f : ℕ) → f ≤ 3 → P f
each_format P p q r s zero few = p
each_format P p q r s (suc zero) few = q
each_format P p q r s (suc (suc zero)) few = r
each_format P p q r s (suc (suc (suc zero))) few = s
each_format P p q r s (suc (suc (suc (suc f)))) few = absurd (omega (arith, few))

size_small : (f : ℕ) → f ≤ 3 → format_size f ≤ 34
size_small f few = each_format (λ f. format_size f ≤ 34) (omega arith) (omega arith) (omega arith) (omega arith) f few

not_packed : (f : ℕ) → f ≤ 3 → nat_le 128 f ≡ false
not_packed f few = grind (arith, nat_tests)

module _ (s : Settings) (range : IsInRange s) where
  pub length_small : made_length s ≤ 226
  length_small = omega (arith, size_small s.format range.format, range.extra)

  pub length_some : 20 ≤ made_length s
  length_some = omega arith

  abbrev head : List ℕ
  head = blank_head s

  pub blank-length : length head ≡ 227
  unfolding blank_head
  blank-length = refl

  pub blank-format : format_of head ≡ s.format
  unfolding blank_head
  blank-format = mod-eq_of_lt (omega (arith, range.format))

  pub blank-plain : is_packed head ≡ false
  unfolding blank_head
  blank-plain = not_packed s.format range.format

  pub blank-record_length : record_length_of head ≡ made_length s
  unfolding blank_head
  blank-record_length =
      number_at-drop 2 105 head
      ∙ reads_back 2 (made_length s) (replicate 24 0 ++ scale_bytes ++ scale_bytes ++ scale_bytes ++ replicate 72 0) (omega (arith, length_small))

  pub blank-points : points_of head ≡ 0
  unfolding blank_head number_at
  blank-points = refl

  pub blank-laszip : laszip_vlrs_of head ≡ []
  unfolding blank_head number_at
  blank-laszip = refl

  no_long : has_long_counts head ≡ false
  unfolding blank_head
  no_long = refl

  length_fits : (format_size (format_of head) ≤ record_length_of head) × (record_length_of head ≤ format_size (format_of head) + 192)
  length_fits =
      let size : format_size (format_of head) ≡ format_size s.format = ap format_size blank-format in
      (omega (arith, size, blank-record_length), omega (arith, size, blank-record_length, range.extra))

  pub blank-is_head : IsHead head
  unfolding blank_head number_at
  blank-is_head = record {
    block = omega (arith, blank-length);
    long_block = λ e. absurd (let off = no_long in cc);
    signature = refl;
    major = refl;
    minor = omega arith;
    header_size = omega arith;
    whole = refl;
    vlrs = omega arith;
    format = omega (arith, blank-format, range.format);
    record_length = length_fits.0;
    extra = length_fits.1;
    extended = λ e. absurd (let off = no_long in cc);
    counts = refl;
    points = omega (arith, blank-points);
    small = omega (arith, blank-length);
    near = omega (arith, blank-length);
  }
