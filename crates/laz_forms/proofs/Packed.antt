-- The packed form of an accepted plain file: it is accepted, and its chunks hold the records.
use Rattle.std.proofs.Common.{◌≡◌, ℕ, ◌*◌, ◌≤◌, sum, Bool, true, false, cond, List, [], ◌++◌, length, map, drop, refl, sym, ap, subst, ◌∙◌, arith}
use Rattle.std.proofs.lemmas.Bool.{cond-false}
use Rattle.std.proofs.lemmas.List.{length-map, take-append-drop}
use Rattle.std.proofs.Math.Nat.{mul-le-mul}
use Rattle.std.specs.List.{concat}
use Rattle.las_header.specs.Fields.{format_of, head_of, is_packed, point_offset_of, points_of, record_length_of}
use Rattle.las_header.specs.Plain.{cut_records, plain_head, plain_of, without_first}
use Rattle.las_header.specs.Vlrs.{laszip_vlrs_of}
use Rattle.las_header.proofs.Public.{cut_length}
use Rattle.laz_chunk.specs.Chunks.{chunk_bytes}
use Rattle.laz_chunk.specs.Layouts.{Layout, record_length}
use Rattle.laz_table.specs.declared.chunks.Blocks.{Blocks}
use Rattle.laz_table.specs.declared.chunks.Blocks.TheVariants.{Fixed, Counted}
use Rattle.laz_table.specs.Chunks.{IsAccepted, fixed_sizes}
use Rattle.laz_table.specs.Laws.{AreWords}
use Rattle.laz_table.specs.Table.{table_bytes}
use Rattle.laz_table.specs.VlrCauses.{chunk_count, chunk_size_of, extra_of, is_counted}
use Rattle.laz_forms.specs.Laws.{CanBePacked, HasItsChunks, ArePackedChunks, IsPackedAccepted, UnpacksAgain}
use Rattle.laz_forms.specs.Packing.{chunk_blocks, chunks_of, pack, packed_head, record_layout}
use Rattle.laz_forms.specs.Refusing.{IsAcceptedFile, blocks_in, chunks_place}
use Rattle.laz_forms.specs.Pieces.{ArePieces, Piece, piece_bytes, pieces_from}
use Rattle.laz_forms.specs.Records.{HoldBlocks, Unpacks}
use Rattle.laz_forms.proofs.Accepted.{IsPlainFile, plain_file}
use Rattle.laz_forms.proofs.Blocks.{AreBlocks, blocks-are, count-enough, cut-joined, same-count}
use Rattle.laz_forms.proofs.Chunked.{bytes_are, pieces_hold, table_accepted, words}
use Rattle.laz_forms.proofs.Fronts.{chunk_size_is, head_packed, layout-length, layout_same, vlr_fine}
use Rattle.laz_forms.proofs.Payloads.{few-chunks, fixed-size, payload-short}
use Rattle.laz_forms.proofs.Forms.{IsForm, form_accepted, form_after, form_head, form_packed, form_pieces}

module _ (file : List ℕ) (chunk : ℕ) (p : IsPlainFile file) (least : 256 ≤ chunk) (few : chunk ≤ 250000) where
  abbrev pub head : List ℕ
  head = head_of file

  abbrev pub records : List ℕ
  records = drop (point_offset_of file) file

  abbrev pub layout : Layout
  layout = record_layout (head_of file)

  abbrev pub points : ℕ
  points = points_of (head_of file)

  abbrev pub blocks : List (List ℕ)
  blocks = chunk_blocks (head_of file) (drop (point_offset_of file) file) chunk

  abbrev pub chunks : List (List ℕ)
  chunks = chunks_of (head_of file) (chunk_blocks (head_of file) (drop (point_offset_of file) file) chunk)

  abbrev pub packed : List ℕ
  packed = packed_head (head_of file) chunk

  -- ---- the blocks
  length-is : record_length layout ≡ record_length_of head
  length-is = omega (arith, layout-length (format_of head) (extra_of head) p.head.format, p.head.record_length)

  count-is : chunk_count (length records) (record_length_of head * chunk) ≡ chunk_count points chunk
  count-is =
      ap (λ (n : ℕ). chunk_count n (record_length_of head * chunk)) p.records
      ∙ same-count (record_length_of head) points chunk (omega (arith, p.head.record_length)) (omega (arith, least))

  blocks-is : cut_records (record_length layout * chunk) (chunk_count points chunk) records ≡ blocks
  blocks-is =
      ap (λ (n : ℕ). cut_records (n * chunk) (chunk_count points chunk) records) length-is
      ∙ ap (λ (n : ℕ). cut_records (record_length_of head * chunk) n records) (sym count-is)

  pub are_blocks : AreBlocks layout chunk (fixed_sizes chunk points) blocks
  are_blocks =
      subst (AreBlocks layout chunk (fixed_sizes chunk points)) blocks-is
      (blocks-are layout chunk points records (omega (arith, least)) (p.records ∙ ap (λ (n : ℕ). n * points) (sym length-is)) p.record_bytes)

  length-blocks : length blocks ≡ chunk_count points chunk
  length-blocks = cut_length (record_length_of head * chunk) (chunk_count (length records) (record_length_of head * chunk)) records ∙ count-is

  length-chunks : length chunks ≡ chunk_count points chunk
  length-chunks = length-map blocks (chunk_bytes layout) ∙ length-blocks

  chunks-few : length chunks ≤ 16777216
  chunks-few = omega (arith, length-chunks, few-chunks points chunk (omega (arith, p.head.points)) least)

  chunk-words : AreWords (map length chunks)
  chunk-words =
      let known = p.head.format in
      let extra : extra_of head ≤ 192 = omega (arith, p.head.extra) in
      words layout extra (omega (arith, length-is, p.head.extra, p.head.format)) chunk (fixed_sizes chunk points) blocks few are_blocks

  -- ---- the parts of the packed form

  abbrev pub table : List ℕ
  table = table_bytes [] (map length (chunks_of (head_of file) (chunk_blocks (head_of file) (drop (point_offset_of file) file) chunk)))

  abbrev pub form : List ℕ
  form = pack (head_of file) (drop (point_offset_of file) file) chunk

  head-long : length packed ≤ 16777216
  head-long = omega (arith, (head_packed file chunk p least few).size, payload-short (format_of head) (extra_of head) chunk, p.near)

  fixed-by : (b : Bool) (size count : ℕ) → b ≡ false → cond b (Counted count) (Fixed size count) ≡ Fixed size count
  fixed-by true size count e = absurd (cc)
  fixed-by false size count e = refl

  blocks-in-is : blocks_in packed ≡ Fixed chunk points
  blocks-in-is =
      fixed-by (is_counted (chunk_size_of packed)) (chunk_size_of packed) (points_of packed) (ap is_counted (chunk_size_is file chunk p least few) ∙ fixed-size chunk few)
      ∙ ap (λ (n : ℕ). Fixed n (points_of packed)) (chunk_size_is file chunk p least few)
      ∙ ap (λ (n : ℕ). Fixed chunk n) (head_packed file chunk p least few).points

  is_form : IsForm head chunk [] chunks (fixed_sizes chunk points)
  is_form =
      let sizes = map length chunks in
      let count : length sizes ≡ chunk_count points chunk = length-map chunks length ∙ length-chunks in
      let is = table_accepted chunk points sizes (omega (arith, length-map chunks length, chunks-few)) chunk-words count in
      record {
        packs = head_packed file chunk p least few;
        near = head-long;
        vlr = vlr_fine file chunk p least few;
        words = chunk-words;
        few = chunks-few;
        table = subst (λ (bs : Blocks). IsAccepted table bs (sum sizes) (fixed_sizes chunk points) sizes) (sym blocks-in-is) is;
      }

  pub head-is : head_of form ≡ packed
  head-is = form_head head chunk [] chunks (fixed_sizes chunk points) is_form

  pub packed-is : is_packed (head_of form) ≡ true
  packed-is = form_packed head chunk [] chunks (fixed_sizes chunk points) is_form

  pub accepted : IsAcceptedFile form
  accepted = form_accepted head chunk [] chunks (fixed_sizes chunk points) is_form

  -- ---- the pieces
  pub layout-is : record_layout (head_of form) ≡ layout
  layout-is = ap record_layout head-is ∙ layout_same file chunk p least few

  abbrev pub pieces : List Piece
  pieces = pieces_from (chunks_place form) (fixed_sizes chunk points) (map length chunks)

  pub its_pieces : ArePieces form pieces
  its_pieces = form_pieces head chunk [] chunks (fixed_sizes chunk points) is_form

  pub form_holds : HoldBlocks form pieces blocks
  form_holds =
      let at = chunks_place form in
      let counts = fixed_sizes chunk points in
      let same = layout-is in
      subst (λ (l : Layout). HoldBlocks form (pieces_from at counts (map length (map (chunk_bytes l) blocks))) blocks) same
      (pieces_hold form packed-is chunk at counts blocks table (subst (λ (l : Layout). AreBlocks l chunk counts blocks) (sym same) are_blocks)
      (subst (λ (l : Layout). drop at form ≡ concat (map (chunk_bytes l) blocks) ++ table) (sym same) (form_after head chunk [] chunks (fixed_sizes chunk points) is_form)))

  form_bytes : map (piece_bytes form) pieces ≡ chunks
  form_bytes =
      let at = chunks_place form in
      let counts = fixed_sizes chunk points in
      let same = layout-is in
      subst (λ (l : Layout). map (piece_bytes form) (pieces_from at counts (map length (map (chunk_bytes l) blocks))) ≡ map (chunk_bytes l) blocks) same
      (bytes_are form packed-is chunk at counts blocks table (subst (λ (l : Layout). AreBlocks l chunk counts blocks) (sym same) are_blocks)
      (subst (λ (l : Layout). drop at form ≡ concat (map (chunk_bytes l) blocks) ++ table) (sym same) (form_after head chunk [] chunks (fixed_sizes chunk points) is_form)))

  pub form_chunks : HasItsChunks head records chunk
  form_chunks = record { pieces_are = its_pieces; chunks_are = form_bytes; hold = form_holds }

  pub blocks_joined : concat blocks ≡ records
  blocks_joined =
      let size = record_length_of head in
      let some : 1 ≤ size * chunk = omega (arith, mul-le-mul {n₁ = 1} {m₁ = 1} {n₂ = size} {m₂ = chunk} (omega (arith, p.head.record_length)) (omega (arith, least))) in
      cut-joined (size * chunk) (chunk_count (length records) (size * chunk)) records (count-enough (length records) (size * chunk) some)

  pub form_unpacks : Unpacks form file
  form_unpacks =
      let head_back : plain_head form ≡ head = ap plain_of head-is ∙ (head_packed file chunk p least few).back in
      let whole : head ++ records ≡ file = take-append-drop (point_offset_of file) file in (
        blocks,
        (pieces, its_pieces, form_holds),
        sym (ap (λ (t : List ℕ). t ++ concat blocks) head_back ∙ ap (λ (t : List ℕ). head ++ t) blocks_joined ∙ whole),
      )

-- ---- the laws
known : (file : List ℕ) (chunk : ℕ) → CanBePacked file chunk → IsPlainFile file
known file chunk can = plain_file file can.accepted can.plain can.bytes

-- a plain head is its own plain head
pub plain_itself : (head : List ℕ) → is_packed head ≡ false → head ≡ plain_of head
plain_itself head plain = sym (cond-false (is_packed head) (without_first (laszip_vlrs_of head) head) head plain)

pub plain-is : (file : List ℕ) → is_packed (head_of file) ≡ false → head_of file ≡ plain_head file
plain-is file plain = plain_itself (head_of file) plain

pub packed_accepted : IsPackedAccepted
packed_accepted file chunk can =
    subst (λ (h : List ℕ). IsAcceptedFile (pack h (drop (point_offset_of file) file) chunk)) (plain-is file can.plain)
    (accepted file chunk (known file chunk can) can.size.0 can.size.1)

pub packed_chunks : ArePackedChunks
packed_chunks file chunk can =
    subst (λ (h : List ℕ). HasItsChunks h (drop (point_offset_of file) file) chunk) (plain-is file can.plain)
    (form_chunks file chunk (known file chunk can) can.size.0 can.size.1)

pub unpacks_again : UnpacksAgain
unpacks_again file chunk can =
    subst (λ (h : List ℕ). Unpacks (pack h (drop (point_offset_of file) file) chunk) file) (plain-is file can.plain)
    (form_unpacks file chunk (known file chunk can) can.size.0 can.size.1)
