-- What a finished output is: its draft with its patches.
use Rattle.std.proofs.Common.{◌≡◌, ℕ, ◌+◌, ◌-◌, ◌*◌, ◌/◌, ◌<◌, ◌≤◌, Bool, true, false, cond, List, [], ◌∷◌, ◌++◌, length, map, take, drop, Option, Some, None, refl, sym, ap, ◌∙◌, arith, append_assoc, append-nil}
use Rattle.std.proofs.Math.Nat.{mul-div_cancel_left}
use Rattle.std.specs.List.{concat, splice}
use Rattle.byteorder.specs.Endian.{little_bytes}
use Rattle.las_header.specs.declared.counts.Counts.{Counts}
use Rattle.las_header.specs.Counting.{counts_bytes, long_counts_bytes, short_bytes, long_bytes, with_counts, with_count_bytes}
use Rattle.las_header.specs.Fields.{format_of, format_size, has_long_counts, record_length_of}
use Rattle.las_header.specs.Heads.{IsHead}
use Rattle.las_header.specs.Plain.{with_vlr}
use Rattle.las_header.proofs.Public.{length-splice}
use Rattle.las_points.specs.Tally.{counts_of}
use Rattle.las_outside.specs.Files.{with_patch}
use Rattle.las_outside.specs.Drafts.{Patch, with_patches}
use Rattle.laz_chunk.specs.Chunks.{chunk_bytes}
use Rattle.laz_chunk.specs.Layouts.{layout_of}
use Rattle.laz_table.specs.Payload.{laszip_payload}
use Rattle.laz_table.specs.Table.{table_bytes}
use Rattle.laz_forms.specs.Laws.{IsCountedFile, IsFinished, file_of}
use Rattle.laz_forms.specs.Outputs.{counts_patches, front_written, pointer_patches, points_written, records_after}
use Rattle.laz_forms.specs.Packing.{blocks_of, chunk_blocks, chunks_of, pack, packed_head, packed_points, table_after}
use Rattle.laz_forms.proofs.Blocks.{cut-joined}
use Rattle.laz_forms.proofs.Counted.{counted_format, counted_lengths, counted_packed, length-counted, packed_long, packed_longer}
use Rattle.laz_forms.proofs.Splices.{splice-again, splice-append, splice-middle, splice-splice}

pub with_patches-append : (draft : List ℕ) (ps qs : List Patch) → with_patches draft (ps ++ qs) ≡ with_patches (with_patches draft ps) qs
with_patches-append draft [] qs = refl
with_patches-append draft (p ∷ ps) qs = with_patches-append (with_patch draft p.0 p.1) ps qs

-- a patch is a part that is replaced
patch-is : (bytes ys : List ℕ) (i j : ℕ) → i + length ys ≡ j → with_patch bytes i ys ≡ splice bytes i j ys
patch-is bytes ys i j fits = append_assoc (take i bytes) ys (drop (i + length ys) bytes) ∙ ap (λ (n : ℕ). take i bytes ++ (ys ++ drop n bytes)) fits

-- the patches of the counts of a head, one set or both, set them
module _ (bytes none none_long short long rest : List ℕ) (enough : 131 ≤ length bytes) (none_size : length none ≡ 24) (none_long_size : length none_long ≡ 128)
    (short_size : length short ≡ 24) (long_size : length long ≡ 128) where
  first : List ℕ
  first = splice bytes 107 131 none

  first-size : length first ≡ length bytes
  unfolding first
  first-size = length-splice bytes 107 131 none (omega (arith, none_size)) enough

  set_first : splice (first ++ rest) 107 131 short ≡ splice bytes 107 131 short ++ rest
  unfolding first
  set_first =
      splice-append first rest short 107 131 (omega arith) (omega (arith, first-size, enough))
      ∙ ap (λ (t : List ℕ). t ++ rest) (splice-again bytes none short 107 131 (omega (arith, none_size)) enough)

  set_both : 375 ≤ length bytes → splice (splice (splice first 247 375 none_long ++ rest) 107 131 short) 247 375 long ≡ splice (splice bytes 107 131 short) 247 375 long ++ rest
  unfolding first
  set_both far =
      let both = splice first 247 375 none_long in
      let both_size : length both ≡ length bytes = length-splice first 247 375 none_long (omega (arith, none_long_size)) (omega (arith, first-size, far)) ∙ first-size in
      let once = splice bytes 107 131 short in
      let once_size : length once ≡ length bytes = length-splice bytes 107 131 short (omega (arith, short_size)) enough in
      let turned : splice both 107 131 short ≡ splice once 247 375 none_long =
      sym (splice-splice first short none_long 107 131 247 375 (omega (arith, short_size)) (omega arith) (omega arith) (omega (arith, first-size, far)))
      ∙ ap (λ (t : List ℕ). splice t 247 375 none_long) (splice-again bytes none short 107 131 (omega (arith, none_size)) enough) in
      let set_size : length (splice both 107 131 short) ≡ length bytes =
      length-splice both 107 131 short (omega (arith, short_size)) (omega (arith, both_size, enough)) ∙ both_size in
      ap (λ (t : List ℕ). splice t 247 375 long) (splice-append both rest short 107 131 (omega arith) (omega (arith, both_size, enough)))
      ∙ splice-append (splice both 107 131 short) rest long 247 375 (omega arith) (omega (arith, set_size, far))
      ∙ ap (λ (t : List ℕ). splice t 247 375 long ++ rest) turned
      ∙ ap (λ (t : List ℕ). t ++ rest) (splice-again once none_long long 247 375 (omega (arith, none_long_size)) (omega (arith, once_size, far)))

  pub patched : (both : Bool) → (both ≡ true → 375 ≤ length bytes)
      → with_patches (cond both (splice (splice bytes 107 131 none) 247 375 none_long) (splice bytes 107 131 none) ++ rest) ((107, short) ∷ cond both ((247, long) ∷ []) [])
      ≡ cond both (splice (splice bytes 107 131 short) 247 375 long) (splice bytes 107 131 short) ++ rest
  unfolding first
  patched false far = patch-is (first ++ rest) short 107 131 (omega (arith, short_size)) ∙ set_first
  patched true far =
      let both = splice first 247 375 none_long ++ rest in
      patch-is (with_patch both 107 short) long 247 375 (omega (arith, long_size))
      ∙ ap (λ (t : List ℕ). splice t 247 375 long) (patch-is both short 107 131 (omega (arith, short_size)))
      ∙ set_both (far refl)

-- the packed form of a head and records, by the format and the record length
abbrev packed_by : (format lengths : ℕ) → (head records : List ℕ) → (chunk : ℕ) → List ℕ
packed_by format lengths head records chunk =
    let extra = lengths - format_size format in
    let chunks = map (chunk_bytes (layout_of format extra)) (blocks_of (lengths * chunk) records) in
    let packed = with_vlr (laszip_payload format extra chunk) head in
    (packed ++ little_bytes 8 (length packed + 8 + length (concat chunks))) ++ (concat chunks ++ table_bytes [] (map length chunks))

pack-by : (format lengths : ℕ) (head records : List ℕ) (chunk : ℕ) → format_of head ≡ format → record_length_of head ≡ lengths → pack head records chunk ≡ packed_by format lengths head records chunk
pack-by format lengths head records chunk f l =
    ap (λ (n : ℕ). packed_by n (record_length_of head) head records chunk) f ∙ ap (λ (n : ℕ). packed_by format n head records chunk) l

pub head-by : (format lengths : ℕ) (head : List ℕ) (chunk : ℕ) → format_of head ≡ format → record_length_of head ≡ lengths → packed_head head chunk ≡ with_vlr (laszip_payload format (lengths - format_size format) chunk) head
head-by format lengths head chunk f l =
    ap (λ (n : ℕ). with_vlr (laszip_payload n (record_length_of head - format_size n) chunk) head) f ∙ ap (λ (n : ℕ). with_vlr (laszip_payload format (n - format_size format) chunk) head) l

pub short-size : (records : List (List ℕ)) → length (counts_bytes (counts_of records)) ≡ 24
unfolding short_bytes
short-size records = refl

pub long-size : (records : List (List ℕ)) → length (long_counts_bytes (counts_of records)) ≡ 128
unfolding long_bytes
long-size records = refl

-- the pointer is set
pointed : (front old new rest : List ℕ) (at : ℕ) → length front ≡ at → length old ≡ 8 → length new ≡ 8 → with_patch ((front ++ old) ++ rest) at new ≡ (front ++ new) ++ rest
pointed front old new rest at place old_size new_size =
    ap (λ (t : List ℕ). with_patch t at new) (append_assoc front old rest)
    ∙ patch-is (front ++ (old ++ rest)) new at (at + 8) (omega (arith, new_size))
    ∙ splice-middle front old new rest at (at + 8) place (omega (arith, old_size))
    ∙ sym (append_assoc front new rest)

module _ (head records : List ℕ) (is : IsHead head) where
  abbrev none : Counts
  none = counts_of []

  abbrev all : Counts
  all = counts_of (records_after head records)

  enough : 131 ≤ length head
  enough = omega (arith, is.block)

  plain_counted : with_patches (with_counts none head ++ records) (counts_patches head all ++ []) ≡ with_counts all head ++ records
  plain_counted =
      ap (λ (ps : List Patch). with_patches (with_counts none head ++ records) ps) (append-nil (counts_patches head all))
      ∙ patched head (counts_bytes none) (long_counts_bytes none) (counts_bytes all) (long_counts_bytes all) records enough
      (short-size []) (long-size []) (short-size (records_after head records)) (long-size (records_after head records)) (has_long_counts head) is.long_block

  packed_uncounted : (chunk : ℕ) → with_patches (front_written (Some chunk) head ++ points_written (Some chunk) head records) (pointer_patches (Some chunk) head records) ≡ pack head records chunk
  packed_uncounted chunk =
      let packed = packed_head head chunk in
      let chunks = chunks_of head (chunk_blocks head records chunk) in
      pointed packed (little_bytes 8 (length packed)) (little_bytes 8 (table_after head chunk chunks)) (packed_points chunks) (length packed) refl refl refl

  packed_counted : (chunk : ℕ) → with_patches (front_written (Some chunk) (with_counts none head) ++ points_written (Some chunk) head records) (counts_patches head all ++ pointer_patches (Some chunk) head records)
      ≡ pack (with_counts all head) records chunk
  packed_counted chunk =
      let format = format_of head in
      let lengths = record_length_of head in
      let payload = laszip_payload format (lengths - format_size format) chunk in
      let packed = packed_head head chunk in
      let chunks = chunks_of head (chunk_blocks head records chunk) in
      let points = packed_points chunks in
      let short_none = short-size [] in
      let long_none = long-size [] in
      let short_all = short-size (records_after head records) in
      let long_all = long-size (records_after head records) in
      let first = with_count_bytes (counts_bytes none) (long_counts_bytes none) packed in
      let last = with_count_bytes (counts_bytes all) (long_counts_bytes all) packed in
      let old = little_bytes 8 (length (packed_head (with_counts none head) chunk)) in
      let new = little_bytes 8 (table_after head chunk chunks) in
      let sets : has_long_counts packed ≡ has_long_counts head = packed_long payload head is in
      let longer : length head ≤ length packed = packed_longer payload head is in
      let room : 131 ≤ length packed = omega (arith, longer, enough) in
      let far : has_long_counts packed ≡ true → 375 ≤ length packed = λ four. omega (arith, longer, is.long_block (sym sets ∙ four)) in
      let first_is : packed_head (with_counts none head) chunk ≡ first =
      head-by format lengths (with_counts none head) chunk (counted_format head (counts_bytes none) (long_counts_bytes none) is short_none long_none) (counted_lengths head (counts_bytes none) (long_counts_bytes none) is short_none long_none)
      ∙ counted_packed head (counts_bytes none) (long_counts_bytes none) is short_none long_none payload in
      let last_is : with_vlr payload (with_counts all head) ≡ last = counted_packed head (counts_bytes all) (long_counts_bytes all) is short_all long_all payload in
      let last_size : length last ≡ length packed = length-counted packed (counts_bytes all) (long_counts_bytes all) room far short_all long_all in
      let set : with_patches (first ++ (old ++ points)) (counts_patches head all) ≡ last ++ (old ++ points) =
      ap (λ (b : Bool). with_patches (first ++ (old ++ points)) ((107, counts_bytes all) ∷ cond b ((247, long_counts_bytes all) ∷ []) [])) (sym sets)
      ∙ patched packed (counts_bytes none) (long_counts_bytes none) (counts_bytes all) (long_counts_bytes all) (old ++ points) room short_none long_none short_all long_all (has_long_counts packed) far in
      with_patches-append ((packed_head (with_counts none head) chunk ++ old) ++ points) (counts_patches head all) (pointer_patches (Some chunk) head records)
      ∙ ap (λ (t : List ℕ). with_patch (with_patches ((t ++ old) ++ points) (counts_patches head all)) (length packed) new) first_is
      ∙ ap (λ (t : List ℕ). with_patch (with_patches t (counts_patches head all)) (length packed) new) (append_assoc first old points)
      ∙ ap (λ (t : List ℕ). with_patch t (length packed) new) (set ∙ sym (append_assoc last old points))
      ∙ pointed last old new points (length packed) last_size refl refl
      ∙ ap (λ (n : ℕ). (last ++ little_bytes 8 (n + 8 + length (concat chunks))) ++ points) (sym last_size)
      ∙ ap (λ (t : List ℕ). (t ++ little_bytes 8 (length t + 8 + length (concat chunks))) ++ points) (sym last_is)
      ∙ sym (pack-by format lengths (with_counts all head) records chunk (counted_format head (counts_bytes all) (long_counts_bytes all) is short_all long_all) (counted_lengths head (counts_bytes all) (long_counts_bytes all) is short_all long_all))

  by_form : (chunk : Option ℕ) (counted : Bool)
      → with_patches (front_written chunk (cond counted (with_counts none head) head) ++ points_written chunk head records) (cond counted (counts_patches head all) [] ++ pointer_patches chunk head records)
      ≡ file_of chunk (cond counted (with_counts all head) head) records
  by_form None false = refl
  by_form None true = plain_counted
  by_form (Some chunk) false = packed_uncounted chunk
  by_form (Some chunk) true = packed_counted chunk

pub finished_is : IsFinished
finished_is out records is = by_form out.head records is out.chunk out.counted

-- records cut apart and joined again
pub records_joined : (head records : List ℕ) (count : ℕ) → IsHead head → length records ≡ record_length_of head * count → concat (records_after head records) ≡ records
records_joined head records count is whole =
    let size = record_length_of head in
    let some : 0 < size = omega (arith, is.record_length) in
    let many : length records / size ≡ count = ap (λ (n : ℕ). n / size) whole ∙ mul-div_cancel_left count some in
    cut-joined size (length records / size) records (omega (arith, whole, ap (λ (n : ℕ). size * n) many))

counted_by : (chunk : Option ℕ) (counted : Bool) (head records : List ℕ) → counted ≡ true → chunk ≡ None
    → file_of chunk (cond counted (with_counts (counts_of (records_after head records)) head) head) records ≡ with_counts (counts_of (records_after head records)) head ++ records
counted_by chunk counted head records is plain =
    ap (λ (c : Option ℕ). file_of c (cond counted (with_counts (counts_of (records_after head records)) head) head) records) plain
    ∙ ap (λ (b : Bool). cond b (with_counts (counts_of (records_after head records)) head) head ++ records) is

pub counted_file_is : IsCountedFile
counted_file_is out count records is counted plain whole =
    finished_is out records is
    ∙ counted_by out.chunk out.counted out.head records counted plain
    ∙ ap (λ (t : List ℕ). with_counts (counts_of (records_after out.head records)) out.head ++ t) (sym (records_joined out.head records count is whole))
