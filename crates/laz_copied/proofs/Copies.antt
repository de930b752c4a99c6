-- Files whose chunks are copied into one are accepted as one, and have their records.
use Rattle.std.proofs.Common.{◌≡◌, ℕ, ◌-◌, ◌<◌, ◌≤◌, sum, Bool, true, false, cond, List, [], ◌∷◌, length, map, None, refl, sym, ap, subst, ◌∙◌, arith}
use Rattle.std.proofs.lemmas.List.Sums.{sum_by-cons}
use Rattle.std.specs.List.{AllByRecursion}
use Rattle.las_header.specs.Fields.{format_of, format_size, head_of, is_packed, points_of, record_length_of}
use Rattle.laz_table.specs.declared.chunks.Blocks.{Blocks}
use Rattle.laz_table.specs.declared.chunks.Blocks.TheVariants.{Fixed, Counted}
use Rattle.laz_table.specs.Chunks.{IsAccepted, IsCountedSize}
use Rattle.laz_table.specs.Table.{table_bytes}
use Rattle.laz_table.specs.VlrCauses.{chunk_size_of, extra_of, is_counted}
use Rattle.laz_chunk.specs.Layouts.{Layout, layout_of}
use Rattle.laz_forms.specs.Packing.{packed_head, record_layout}
use Rattle.laz_forms.specs.Pieces.{ArePiecesIf, Piece, pieces_from}
use Rattle.las_header.specs.Plain.{plain_head}
use Rattle.laz_forms.specs.Records.{AreRecordsOf, HoldBlocks}
use Rattle.laz_forms.specs.Refusing.{IsAcceptedFile, blocks_in, chunks_place}
use Rattle.laz_forms.proofs.Public.{one_pieces, IsForm, form_accepted, form_pieces, form_after, form_head, form_packed, form_plain}
use Rattle.laz_copied.specs.Copied.{AreChunks, Chunk, HaveChunks, all_of, byte_lists_in, chunk_at, copied_file, copied_head, chunk_counts, points_of_files}
use Rattle.laz_copied.specs.Laws.{CanBeCopied, CanCopy, HasTheirRecords, HaveBlocks, IsCopiedAccepted}
use Rattle.laz_copied.proofs.Chunks.{AreGoodChunks, ChunksHold, counts_listed, good-append, hold-append, hold_in_file, hold_of_pieces, length_bytes, length_byte_lists, length_counts, no_chunks, sizes_listed, sum_counts-append}
use Rattle.laz_copied.proofs.Heads.{new_big_points, new_chunk, new_layout, new_near, new_packed, new_vlr}
use Rattle.laz_copied.proofs.PackedFiles.{IsPackedFile, IsPackedFront, listed, packed_file_known, packed_front_known}
use Rattle.laz_copied.proofs.Tables.{counted_accepted}

-- ---- the chunks of one file
pub record HasGoodChunks (file : List ℕ) (chunks : List Chunk) : Type 0 where
  pub good : AreGoodChunks chunks
  pub points : sum (chunk_counts chunks) ≡ points_of (head_of file)

good_if : (packed : Bool) (file : List ℕ) → IsPackedFront file → (pieces : List Piece) → packed ≡ true → ArePiecesIf packed file pieces → HasGoodChunks file (map (chunk_at file) pieces)
good_if false file p pieces e are = absurd (cc)
good_if true file p pieces e are =
    let l = listed file p are.0 are.1 are.2 in
    let at = chunks_place file in
    let counts = counts_listed file at are.0 are.1 l.same in
    let sizes = sizes_listed file at are.0 are.1 l.same l.lie in
    subst (λ (ps : List Piece). HasGoodChunks file (map (chunk_at file) ps)) (sym are.3)
    (record {
      good = record { words = subst (λ (ns : List ℕ). AllByRecursion (λ n. n < 4294967296) ns) (sym sizes) l.words; range = subst (λ (ns : List ℕ). AllByRecursion IsCountedSize ns) (sym counts) l.range };
      points = ap sum counts ∙ l.points;
    })

pub good_of_file : (file : List ℕ) → IsPackedFront file → is_packed (head_of file) ≡ true → (chunks : List Chunk) → AreChunks file chunks → HasGoodChunks file chunks
good_of_file file p packed chunks are = subst (HasGoodChunks file) (sym are.2) (good_if (is_packed (head_of file)) file p are.0 packed are.1)

-- ---- the chunks of all files
module _ (first : List ℕ) where
  all_good : (files : List (List ℕ)) (parts : List (List Chunk)) → AllByRecursion (CanBeCopied first) files → HaveChunks files parts → AreGoodChunks (all_of parts) × (sum (chunk_counts (all_of parts)) ≡ points_of_files files)
  all_good [] [] each have = (no_chunks, refl)
  all_good [] (part ∷ parts) each have = absurd have
  all_good (file ∷ files) [] each have = absurd have
  all_good (file ∷ files) (part ∷ parts) each have =
      let can = each.0 in
      let one = good_of_file file (packed_front_known file can.accepted can.packed) can.packed part have.0 in
      let more = all_good files parts each.1 have.1 in (
        good-append part (all_of parts) one.good more.0,
        sum_counts-append part (all_of parts) ∙ omega (arith, one.points, more.1, sum_by-cons (λ f. points_of (head_of f)) file files),
      )

  pub layout_of_file : (file : List ℕ) → CanBeCopied first file → record_layout (head_of file) ≡ record_layout first
  layout_of_file file can =
      let head = head_of file in
      let extra : extra_of head ≡ extra_of first = ap (λ (n : ℕ). n - format_size (format_of head)) can.record_length ∙ ap (λ (n : ℕ). record_length_of first - format_size n) can.format in
      ap (λ (f : ℕ). layout_of f (extra_of head)) can.format ∙ ap (layout_of (format_of first)) extra

  -- what the chunks hold that a file has
  pub hold_one : (file : List ℕ) (chunks : List Chunk) (blocks : List (List ℕ)) → CanBeCopied first file → AreChunks file chunks → AreRecordsOf file blocks None → ChunksHold (record_layout first) chunks blocks
  hold_one file chunks blocks can are records =
      let same : records.0 ≡ are.0 = one_pieces file records.0 are.0 records.1 are.1 in
      let hold = hold_of_pieces file are.0 blocks can.packed are.1 (subst (λ (ps : List Piece). HoldBlocks file ps blocks) same records.2) in
      subst (λ (l : Layout). ChunksHold l chunks blocks) (layout_of_file file can)
      (subst (λ (cs : List Chunk). ChunksHold (record_layout (head_of file)) cs blocks) (sym are.2) hold)

  all_hold : (files : List (List ℕ)) (parts : List (List Chunk)) (blocks : List (List (List ℕ))) → AllByRecursion (CanBeCopied first) files → HaveChunks files parts → HaveBlocks files blocks → ChunksHold (record_layout first) (all_of parts) (all_of blocks)
  all_hold [] [] [] each have hold = tt
  all_hold [] [] (b ∷ blocks) each have hold = absurd hold
  all_hold [] (part ∷ parts) blocks each have hold = absurd have
  all_hold (file ∷ files) [] blocks each have hold = absurd have
  all_hold (file ∷ files) (part ∷ parts) [] each have hold = absurd hold
  all_hold (file ∷ files) (part ∷ parts) (b ∷ blocks) each have hold =
      hold-append (record_layout first) part (all_of parts) b (all_of blocks) (hold_one file part b each.0 have.0 hold.0) (all_hold files parts blocks each.1 have.1 hold.1)

-- ---- the one file
counted-by : (b : Bool) (size count : ℕ) → b ≡ true → cond b (Counted count) (Fixed size count) ≡ Counted count
counted-by true size count e = refl
counted-by false size count e = absurd (cc)

module _ (file : List ℕ) (files : List (List ℕ)) (parts : List (List Chunk)) (can : CanCopy (file ∷ files) parts) where
  abbrev all : List (List ℕ)
  all = file ∷ files

  abbrev chunks : List Chunk
  chunks = all_of parts

  abbrev head : List ℕ
  head = copied_head (file ∷ files)

  abbrev big : List ℕ
  big = packed_head (copied_head (file ∷ files)) 4294967295

  p : IsPackedFile file
  p = packed_file_known file can.each.0.accepted can.each.0.packed can.each.0.bytes

  good : AreGoodChunks chunks × (sum (chunk_counts chunks) ≡ points_of_files all)
  good = all_good (head_of file) all parts can.each can.have

  blocks-are : blocks_in big ≡ Counted (points_of_files all)
  blocks-are =
      let size = new_chunk all file refl p can.each.0.packed can.few in
      counted-by (is_counted (chunk_size_of big)) (chunk_size_of big) (points_of big) (ap is_counted size)
      ∙ ap Counted (new_big_points all file refl p can.each.0.packed can.few)

  form : IsForm head 4294967295 (chunk_counts chunks) (byte_lists_in chunks) (chunk_counts chunks)
  form = record {
    packs = new_packed all file refl p can.each.0.packed can.few;
    near = new_near all file refl p can.each.0.packed can.few;
    vlr = new_vlr all file refl p can.each.0.packed can.few;
    words = good.0.words;
    few = omega (arith, can.chunks, length_byte_lists chunks);
    table =
        let sizes = map length (byte_lists_in chunks) in
        subst (λ (b : Blocks). IsAccepted (table_bytes (chunk_counts chunks) sizes) b (sum sizes) (chunk_counts chunks) sizes) (sym blocks-are)
        (counted_accepted (points_of_files all) (chunk_counts chunks) sizes (length_counts chunks ∙ sym (length_bytes chunks)) (omega (arith, can.chunks, length_bytes chunks)) good.0.words good.0.range good.1);
  }

  pub copied_accepted : IsAcceptedFile (copied_file all chunks)
  copied_accepted = form_accepted head 4294967295 (chunk_counts chunks) (byte_lists_in chunks) (chunk_counts chunks) form

  pub copied_plain : plain_head (copied_file all chunks) ≡ head
  copied_plain = form_plain head 4294967295 (chunk_counts chunks) (byte_lists_in chunks) (chunk_counts chunks) form

  pub copied_records : (blocks : List (List (List ℕ))) → HaveBlocks all blocks → AreRecordsOf (copied_file all chunks) (all_of blocks) None
  copied_records blocks have =
      let f = copied_file all chunks in
      let at = chunks_place f in
      let is = form_packed head 4294967295 (chunk_counts chunks) (byte_lists_in chunks) (chunk_counts chunks) form in
      let layout : record_layout (head_of file) ≡ record_layout (head_of f) =
      sym (ap record_layout (form_head head 4294967295 (chunk_counts chunks) (byte_lists_in chunks) (chunk_counts chunks) form) ∙ new_layout all file refl p can.each.0.packed can.few) in
      let hold = subst (λ (l : Layout). ChunksHold l chunks (all_of blocks)) layout (all_hold (head_of file) all parts blocks can.each can.have have) in (
        pieces_from at (chunk_counts chunks) (map length (byte_lists_in chunks)),
        form_pieces head 4294967295 (chunk_counts chunks) (byte_lists_in chunks) (chunk_counts chunks) form,
        hold_in_file f is at chunks (all_of blocks) (table_bytes (chunk_counts chunks) (map length (byte_lists_in chunks))) (form_after head 4294967295 (chunk_counts chunks) (byte_lists_in chunks) (chunk_counts chunks) form) hold,
      )

pub accepted : IsCopiedAccepted
accepted [] parts can = absurd (let some : 1 ≤ 0 = can.some in omega (arith, some))
accepted (file ∷ files) parts can = copied_accepted file files parts can

pub records : HasTheirRecords
records [] parts blocks can have = absurd (let some : 1 ≤ 0 = can.some in omega (arith, some))
records (file ∷ files) parts blocks can have = copied_records file files parts can blocks have
