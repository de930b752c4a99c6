-- Records that are pushed block by block, and the plain file that they give.
use Rattle.std.proofs.Common.{◌≡◌, inr, ℕ, zero, suc, ◌+◌, ◌*◌, ◌-◌, ◌%◌, ◌≤◌, min, false, List, [], ◌∷◌, ◌++◌, length}
use Rattle.std.proofs.Common.{take, drop, sym, ◌∙◌, ap, subst, arith}
use Rattle.std.proofs.Common.{length-append, append_assoc}
use Rattle.std.specs.List.{concat}
use Rattle.std.proofs.Math.Nat.{mul-le-mul_left, mul-mod_right}
use Rattle.std.proofs.lemmas.List.{length-take-le, take_at}
use Rattle.std.proofs.lemmas.List.Folds.{concat-append}
use Rattle.las_header.specs.declared.counts.Counts.{Counts}
use Rattle.las_header.specs.Counting.{with_counts}
use Rattle.las_header.specs.Fields.{is_packed, record_length_of}
use Rattle.las_header.specs.Heads.{KeepsLayout}
use Rattle.las_header.specs.Vlrs.{laszip_vlrs_of}
use Rattle.las_outside.specs.Drafts.{IsUnfinished}
use Rattle.las_outside.specs.Outside.{Outside, with_bytes}
use Rattle.las_points.specs.Tally.{counts_of}
use Rattle.laz_forms.specs.declared.fault.Fault.{Fault}
use Rattle.laz_file.specs.Copying.{LeavesUnfinished}
use Rattle.laz_forms.specs.Outputs.{Output, draft_of, patches_of, stopped}
use Rattle.laz_writer.specs.Writing.{Stands, Stops, WriterSeen}
use Rattle.laz_file.proofs.Public.{leaves_part, held_after}
use Rattle.las_make.specs.declared.settings.Settings.{Settings}
use Rattle.las_make.specs.Made.{IsInRange, blank_head, made_head, made_length, made_record, made_records, records_from}
use Rattle.las_make.proofs.Blank.{blank-laszip, blank-plain, blank-record_length}
use Rattle.las_make.proofs.Bytes.{all_length}

-- the first records, and those after them
records_split : (s : Settings) (from n m : ℕ) → records_from s from (n + m) ≡ records_from s from n ++ records_from s
    (from + n) m
records_split s from zero m =
    let none : 0 + m ≡ m = omega arith in
    let here : from ≡ from + 0 = omega arith in
    ap (records_from s from) none ∙ ap (λ (k : ℕ). records_from s k m) here
records_split s from (suc n) m =
    let more : suc n + m ≡ suc (n + m) = omega arith in
    let there : from + 1 + n ≡ from + suc n = omega arith in
    ap (records_from s from) more ∙ ap (λ (rs : List (List ℕ)). made_record s from ∷ rs)
    (records_split s (from + 1) n m)
    ∙ ap (λ (k : ℕ). made_record s from ∷ (records_from s (from + 1) n ++ records_from s k m)) there

pub joined : (s : Settings) (from n m : ℕ) → concat (records_from s from n) ++ concat
    (records_from s (from + n) m) ≡ concat (records_from s from (n + m))
joined s from n m = sym (concat-append (records_from s from n) (records_from s (from + n) m))
    ∙ ap concat (sym (records_split s from n m))

-- a block more
pub block_joined : (s : Settings) (from count : ℕ) (block : List ℕ) → block ≡ concat (records_from s from count)
    → concat (records_from s 0 from) ++ block ≡ concat (records_from s 0 (from + count))
block_joined s from count block is =
    let first : from ≡ 0 + from = omega arith in
    ap (λ (b : List ℕ). concat (records_from s 0 from) ++ b)
    (is ∙ ap (λ (k : ℕ). concat (records_from s k count)) first) ∙ joined s 0 from count

-- ---- what is left of the output

module _ (s : Settings) (from count : ℕ) (within : from + count ≤ s.points) (before old : Outside) (w : WriterSeen)
    (out : Output) (stands : Stands before old w out (concat (records_from s 0 from))) where
  pub block_left : (new : Outside) (fault : Fault) (n : ℕ) (block : List ℕ) → block ≡ concat (records_from s from count)
      → Stops fault (with_bytes before out.name (take n (stopped out (concat (records_from s 0 from) ++ block)))) new
      → LeavesUnfinished out (concat (made_records s)) before.held new.held
  block_left new fault n block is stops =
      let done = concat (records_from s 0 from) in
      let rest = s.points - (from + count) in
      let more = concat (records_from s (from + count) rest) in
      let first : from + count ≡ 0 + (from + count) = omega arith in
      let all : from + count + rest ≡ s.points = omega arith in
      let whole : done ++ (block ++ more) ≡ concat (made_records s) =
      sym (append_assoc done block more) ∙ ap (λ (d : List ℕ). d ++ more) (block_joined s from count block is)
      ∙ ap (λ (k : ℕ). concat (records_from s 0 (from + count)) ++ concat (records_from s k rest)) first
      ∙ joined s 0 (from + count) rest
      ∙ ap (λ (k : ℕ). concat (records_from s 0 k)) all in
      subst (λ (t : List ℕ). LeavesUnfinished out t before.held new.held) whole
      (leaves_part before old w out done stands block more new.held n
      (held_after fault (with_bytes before out.name (take n (stopped out (done ++ block)))) new stops))

pub end_left : (before new : Outside) (out : Output) (records : List ℕ) (fault : Fault)
    → (left : List ℕ) × IsUnfinished (draft_of out records) (patches_of out records) left
    × Stops fault (with_bytes before out.name left) new → LeavesUnfinished out records before.held new.held
end_left before new out records fault l = inr (l.0, l.1, held_after fault (with_bytes before out.name l.0) new l.2)

-- ---- a block that can be pushed

module _ (s : Settings) (range : IsInRange s) where
  pub block_whole : (size count : ℕ) (block : List ℕ) → size ≡ made_length s → length block ≡ made_length s * count
      → length block % size ≡ 0
  block_whole size count block size_is is = ap (λ (n : ℕ). n % size) (is ∙ ap (λ (n : ℕ). n * count) (sym size_is))
      ∙ mul-mod_right size count

  pub block_fits : (from count taken size most long : ℕ) → size ≡ made_length s → most ≡ s.points
      → taken ≡ length (concat (records_from s 0 from)) → long ≡ made_length s * count → from + count ≤ s.points
      → taken + long ≤ size * most
  block_fits from count taken size most long size_is most_is taken_is long_is within =
      let L = made_length s in
      let enough : L * (from + count) ≤ L * s.points = mul-le-mul_left L within in
      let all : size * most ≡ L * s.points = ap (λ (n : ℕ). n * most) size_is ∙ ap (λ (n : ℕ). L * n) most_is in
      omega (arith, enough, all, taken_is, all_length s range 0 from, long_is)

  pub block_room : (from count room : ℕ) → room ≡ made_length s * min s.points 50000
      → count ≡ min 50000 (s.points - from) → made_length s * count ≤ room
  block_room from count room room_is is =
      let few : count ≤ min s.points 50000 = omega (arith, is) in
      let enough : made_length s * count ≤ made_length s * min s.points 50000 = mul-le-mul_left (made_length s) few in
      omega (arith, enough, room_is)

  -- ---- the part of the buffer that a block takes

  module _ (from count size : ℕ) (buffer new : List ℕ) (size_is : size ≡ made_length s)
      (count_is : count ≡ min 50000 (s.points - from)) (room : length buffer ≡ made_length s * min s.points 50000) where
    same : size * count ≡ made_length s * count
    same = ap (λ (n : ℕ). n * count) size_is

    pub end_fits : size * count ≤ length buffer
    end_fits = omega (arith, same, block_room from count (length buffer) room count_is)

    pub part_long : length (take (size * count) buffer) ≡ size * count
    part_long = length-take-le (size * count) buffer end_fits

    module _ (long : length new ≡ length (take (size * count) buffer)) where
      new_long : length new ≡ size * count
      new_long = long ∙ part_long

      pub put_fits : size * count ≤ length (new ++ drop (size * count) buffer)
      put_fits = omega (arith, length-append new (drop (size * count) buffer), new_long)

      put_is : take (size * count) (new ++ drop (size * count) buffer) ≡ new
      put_is = take_at new (drop (size * count) buffer) (size * count) new_long

      pub put_block : (block : List ℕ) → new ≡ block → take (size * count) (new ++ drop (size * count) buffer) ≡ block
      put_block block is = put_is ∙ is

      pub put_long : length (take (size * count) (new ++ drop (size * count) buffer)) ≡ size * count
      put_long = ap (λ (b : List ℕ). length b) put_is ∙ new_long

      pub put_records : length (take (size * count) (new ++ drop (size * count) buffer)) ≡ made_length s * count
      put_records = put_long ∙ same

  -- ---- the head

  module _ (blank counted : List ℕ) (counts : Counts) (is : blank ≡ blank_head s)
      (all : counts ≡ counts_of (made_records s)) (made : counted ≡ with_counts counts blank) where
    pub head_made : counted ≡ made_head s
    head_made = made ∙ ap (λ (c : Counts). with_counts c blank) all
        ∙ ap (λ (h : List ℕ). with_counts (counts_of (made_records s)) h) is

    module _ (kept : KeepsLayout blank counted) where
      pub counted_plain : is_packed counted ≡ false
      counted_plain = kept.packed ∙ ap is_packed is ∙ blank-plain s range

      pub counted_none : laszip_vlrs_of counted ≡ []
      counted_none = kept.laszip ∙ ap laszip_vlrs_of is ∙ blank-laszip s range

      pub counted_size : record_length_of counted ≡ made_length s
      counted_size = kept.records.record_length ∙ ap record_length_of is ∙ blank-record_length s range
