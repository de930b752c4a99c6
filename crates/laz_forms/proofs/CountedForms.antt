-- A head with the counts of its records is a head that counts them.
use Rattle.std.proofs.Common.{◌≡◌, ℕ, ◌*◌, ◌/◌, ◌<◌, Bool, true, false, cond, List, [], ◌∷◌, ◌++◌, length, take, drop, sym, ap, subst, ◌∙◌, arith, lit<}
use Rattle.std.proofs.lemmas.List.Concat.{flat_map-cons}
use Rattle.std.proofs.Math.Nat.{mul-div_cancel_left}
use Rattle.std.specs.List.{flat_map, splice}
use Rattle.byteorder.specs.Endian.{little_bytes}
use Rattle.las_header.specs.declared.counts.Counts.{Counts}
use Rattle.las_header.specs.Counting.{counts_bytes, long_bytes, long_counts_bytes, long_returns, short_bytes, with_counts}
use Rattle.las_header.specs.Fields.{has_long_counts, points_of, record_length_of}
use Rattle.las_header.proofs.Public.{counted_head, cut_length}
use Rattle.las_points.specs.Tally.{counts_of}
use Rattle.laz_range.specs.Span.{IsBytes}
use Rattle.laz_range.proofs.Public.{IsBytes-drop, IsBytes-take}
use Rattle.laz_table.proofs.Public.{IsBytes-append, IsBytes-little}
use Rattle.laz_forms.specs.Laws.{AreCounted}
use Rattle.laz_forms.specs.Outputs.{records_after}
use Rattle.laz_forms.proofs.Finished.{long-size, short-size}

-- ---- bytes
pub IsBytes-flat : (width : ℕ) (xs : List ℕ) → IsBytes (flat_map (little_bytes width) xs)
IsBytes-flat width [] = λ i. lit< tt
IsBytes-flat width (x ∷ xs) =
    subst IsBytes (sym (flat_map-cons (little_bytes width) x xs))
    (IsBytes-append (little_bytes width x) (flat_map (little_bytes width) xs) (IsBytes-little width x) (IsBytes-flat width xs))

pub IsBytes-splice : (xs : List ℕ) (i j : ℕ) (ys : List ℕ) → IsBytes xs → IsBytes ys → IsBytes (splice xs i j ys)
IsBytes-splice xs i j ys h k =
    IsBytes-append (take i xs) (ys ++ drop j xs) (IsBytes-take i xs h) (IsBytes-append ys (drop j xs) k (IsBytes-drop j xs h))

pub short-are : (points : ℕ) (returns : List ℕ) → IsBytes (short_bytes points returns)
unfolding short_bytes
short-are points returns = IsBytes-flat 4 (points ∷ returns)

pub long-are : (points : ℕ) (returns : List ℕ) → IsBytes (long_bytes points returns)
unfolding long_bytes
long-are points returns = IsBytes-flat 8 (points ∷ returns)

pub set-are : (both : Bool) (head short long : List ℕ) → IsBytes head → IsBytes short → IsBytes long
    → IsBytes (cond both (splice (splice head 107 131 short) 247 375 long) (splice head 107 131 short))
set-are false head short long h k l = IsBytes-splice head 107 131 short h k
set-are true head short long h k l = IsBytes-splice (splice head 107 131 short) 247 375 long (IsBytes-splice head 107 131 short h k) l

counted-are : (head : List ℕ) (counts : Counts) → IsBytes head → IsBytes (with_counts counts head)
counted-are head counts h =
    set-are (has_long_counts head) head (counts_bytes counts) (long_counts_bytes counts) h (short-are counts.points (take 5 counts.returns)) (long-are counts.points (long_returns counts))

-- ---- the law
pub are_counted : AreCounted
are_counted head records count is plain none near head_bytes record_bytes whole few =
    let all = records_after head records in
    let counts = counts_of all in
    let some : 0 < record_length_of head = omega (arith, is.record_length) in
    let many : length all ≡ count =
    cut_length (record_length_of head) (length records / record_length_of head) records
    ∙ ap (λ (n : ℕ). n / record_length_of head) whole ∙ mul-div_cancel_left count some in
    let counted = counted_head counts.points (take 5 counts.returns) (long_returns counts) head is (omega (arith, many, few)) (short-size all) (long-size all) in
    let points : points_of (with_counts counts head) ≡ count = counted.points ∙ many in
    record {
      head_is = counted.is_head;
      plain = counted.kept.packed ∙ plain;
      none = counted.kept.laszip ∙ none;
      near = omega (arith, counted.kept.size, near);
      head_bytes = counted-are head counts head_bytes;
      whole = whole ∙ ap (λ (n : ℕ). n * count) (sym counted.kept.records.record_length) ∙ ap (λ (n : ℕ). record_length_of (with_counts counts head) * n) (sym points);
      record_bytes = record_bytes;
    }
