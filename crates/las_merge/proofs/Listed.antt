-- Inputs that were listed, and their files, if these are known.
use Rattle.std.proofs.Common.{◌≡◌, ℕ, zero, suc, ◌+◌, ◌-◌, ◌^◌, ◌<◌, ◌≤◌, min, sum, Bool, true, false, cond, List, [], ◌∷◌, ◌++◌, length, map, take, drop, slice_index, Option, Some, None, refl, sym, ◌∙◌, ap, subst, append_assoc, arith, length-append}
use Rattle.std.specs.Prelude.{All, sum_by}
use Rattle.std.specs.List.{AllByRecursion, concat, range_with_len}
use Rattle.std.proofs.lemmas.List.{append-nil, length-map, map-append}
use Rattle.std.proofs.lemmas.List.Elements.{All-push}
use Rattle.std.proofs.lemmas.List.Sums.{sum_by-cons}
use Rattle.byteorder.specs.Endian.{little_bytes}
use Rattle.las_header.specs.Counting.{with_sums}
use Rattle.las_header.specs.Fields.{head_of, is_packed, returns_of}
use Rattle.las_header.specs.Heads.{HeadView}
use Rattle.las_header.specs.Plain.{plain_of}
use Rattle.las_outside.specs.Files.{FileMap, WhereKnown}
use Rattle.laz_table.specs.declared.limits.TheConstants.{MAX_CHUNKS}
use Rattle.laz_table.specs.Table.{table_bytes}
use Rattle.laz_table.specs.VlrCauses.{chunk_size_of}
use Rattle.laz_reader.specs.Asking.{asked_for_chunks}
use Rattle.laz_forms.specs.Packing.{packed_head, table_after}
use Rattle.laz_forms.specs.Pieces.{ArePieces, Piece, bytes_in}
use Rattle.laz_reader.specs.Reading.{AgreesWithHead, ReaderSeen, StandsFor, chunks_in}
use Rattle.laz_forms.specs.Refusing.{IsAcceptedFile, chunks_place}
use Rattle.laz_forms.proofs.Public.{sum-lengths, known_both, known_then, concat-append}
use Rattle.laz_copied.specs.Copied as copied
use Rattle.laz_copied.specs.Copied.{Chunk, HaveChunks, all_of, chunk_at, copied_file, copied_head, chunk_counts, first_head, points_of_files, returns_to_15}
use Rattle.laz_copied.proofs.Public.{piece_counts, IsChunked, chunked, packed_front_known}
use Rattle.las_merge.specs.Appending.{PartLiesIn, SourceSeen, part_of}
use Rattle.las_merge.specs.Listing.{AddsChunks, IsListed, IsPackedInput, ListedInput, ListsChunks, all_pieces, asked_to_list, chunks_source}
use Rattle.las_merge.specs.Opening.{InputSeen, IsItsFile, IsOpen, first_read, input_names, points_read}
use Rattle.las_merge.specs.Packed.{IsPacked, asked_to_copy}
use Rattle.las_merge.specs.Summing.{copied_text, long_returns_summed, returns_summed, summed_head}
use Rattle.las_merge.proofs.Known.{file_of, files_of, held_at, read_first, read_head, read_points}

module _ (known : FileMap) where
  -- ---- one input
  pub record IsRead (l : ListedInput) : Type 0 where
    pub accepted : IsAcceptedFile (file_of known l.input.name)
    pub head : l.input.head.bytes ≡ head_of (file_of known l.input.name)
    pub packed : is_packed (head_of (file_of known l.input.name)) ≡ true
    pub are : ArePieces (file_of known l.input.name) l.pieces

  pub read_one : (l : ListedInput) → IsOpen (Some known) l.input → IsListed (Some known) l → IsRead l
  read_one l o listed =
      let head = read_head known l.input o in
      record {
        accepted = (held_at known l.input.name (IsItsFile l.input) o.stands).1.accepted;
        head = head;
        packed = ap is_packed (sym head) ∙ listed.packed;
        are = (held_at known l.input.name (λ file. ArePieces file l.pieces) listed.stands).1;
      }

  abbrev pub chunks_by : ListedInput → List Chunk
  chunks_by l = map (chunk_at (file_of known l.input.name)) l.pieces

  chunked_by : (l : ListedInput) → IsRead l → IsChunked (file_of known l.input.name) l.pieces
  chunked_by l r = chunked (file_of known l.input.name) l.pieces r.accepted r.packed r.are

  place_by : (l : ListedInput) → IsRead l → length l.input.head.bytes + 8 ≡ chunks_place (file_of known l.input.name)
  place_by l r = ap (λ (n : ℕ). n + 8) (ap length r.head ∙ (packed_front_known (file_of known l.input.name) r.accepted r.packed).long)

  part_by : (l : ListedInput) → IsRead l → part_of (Some known) (chunks_source l) ≡ concat (copied.byte_lists_in (chunks_by l))
  part_by l r =
      ap (λ (n : ℕ). take (bytes_in l.pieces) (drop n (file_of known l.input.name))) (place_by l r) ∙ sym (chunked_by l r).joined

  -- ---- all inputs
  abbrev pub parts_of : List ListedInput → List (List Chunk)
  parts_of listed = map chunks_by listed

  abbrev pub files_in : List ListedInput → List (List ℕ)
  files_in listed = files_of known (input_names (map (λ l. l.input) listed))

  pub read_all : (listed : List ListedInput) → All (IsOpen (Some known)) (map (λ l. l.input) listed) → All (IsListed (Some known)) listed → AllByRecursion IsRead listed
  read_all [] opened each = tt
  read_all (l ∷ ls) opened each = (
    read_one l (opened 0 l.input (omega arith)) (each 0 l (omega arith)),
    read_all ls (λ k d lt. opened (suc k) d (omega (arith, lt))) (λ k d lt. each (suc k) d (omega (arith, lt))),
  )

  pub have_all : (listed : List ListedInput) → AllByRecursion IsRead listed → HaveChunks (files_in listed) (parts_of listed)
  have_all [] read = tt
  have_all (l ∷ ls) read = ((l.pieces, read.0.are, refl), have_all ls read.1)

  pub packed_all : (listed : List ListedInput) → AllByRecursion IsRead listed → All IsPacked (files_in listed)
  packed_all [] read k d lt = absurd (omega (arith, lt))
  packed_all (l ∷ ls) read zero d lt = read.0.packed
  packed_all (l ∷ ls) read (suc k) d lt = packed_all ls read.1 k d (omega (arith, lt))

  counts-append : (xs ys : List Chunk) → chunk_counts (xs ++ ys) ≡ chunk_counts xs ++ chunk_counts ys
  counts-append xs ys = map-append (λ (c : Chunk). c.count) xs ys

  bytes-append : (xs ys : List Chunk) → copied.byte_lists_in (xs ++ ys) ≡ copied.byte_lists_in xs ++ copied.byte_lists_in ys
  bytes-append xs ys = map-append (λ (c : Chunk). c.bytes) xs ys

  pub counts_all : (listed : List ListedInput) → chunk_counts (all_of (parts_of listed)) ≡ map (λ p. p.count) (all_pieces listed)
  counts_all [] = refl
  counts_all (l ∷ ls) =
      let count : Piece → ℕ = λ p. p.count in
      counts-append (chunks_by l) (all_of (parts_of ls))
      ∙ ap (λ (t : List ℕ). t ++ chunk_counts (all_of (parts_of ls))) (piece_counts (file_of known l.input.name) l.pieces)
      ∙ ap (λ (t : List ℕ). map count l.pieces ++ t) (counts_all ls) ∙ sym (map-append count l.pieces (all_pieces ls))

  pub sizes_all : (listed : List ListedInput) → AllByRecursion IsRead listed → map length (copied.byte_lists_in (all_of (parts_of listed))) ≡ map (λ p. p.size) (all_pieces listed)
  sizes_all [] read = refl
  sizes_all (l ∷ ls) read =
      let size : Piece → ℕ = λ p. p.size in
      let long : List ℕ → ℕ = length in
      ap (map long) (bytes-append (chunks_by l) (all_of (parts_of ls)))
      ∙ map-append long (copied.byte_lists_in (chunks_by l)) (copied.byte_lists_in (all_of (parts_of ls)))
      ∙ ap (λ (t : List ℕ). t ++ map long (copied.byte_lists_in (all_of (parts_of ls)))) (chunked_by l read.0).sizes
      ∙ ap (λ (t : List ℕ). map size l.pieces ++ t) (sizes_all ls read.1) ∙ sym (map-append size l.pieces (all_pieces ls))

  pub length_all : (listed : List ListedInput) → length (all_of (parts_of listed)) ≡ length (all_pieces listed)
  length_all listed =
      sym (length-map (all_of (parts_of listed)) (λ (c : Chunk). c.count)) ∙ ap length (counts_all listed) ∙ length-map (all_pieces listed) (λ (p : Piece). p.count)

  parts_all : (listed : List ListedInput) → AllByRecursion IsRead listed → concat (map (part_of (Some known)) (map chunks_source listed)) ≡ concat (copied.byte_lists_in (all_of (parts_of listed)))
  parts_all [] read = refl
  parts_all (l ∷ ls) read =
      ap (λ (t : List ℕ). t ++ concat (map (part_of (Some known)) (map chunks_source ls))) (part_by l read.0)
      ∙ ap (λ (t : List ℕ). concat (copied.byte_lists_in (chunks_by l)) ++ t) (parts_all ls read.1)
      ∙ sym (ap concat (bytes-append (chunks_by l) (all_of (parts_of ls))) ∙ concat-append (copied.byte_lists_in (chunks_by l)) (copied.byte_lists_in (all_of (parts_of ls))))

  -- how many bytes are asked for
  pub asked_all : (listed : List ListedInput) → AllByRecursion IsRead listed → asked_to_list listed + sum_by (λ s. s.size) (map chunks_source listed) ≡ asked_to_copy (files_in listed) (parts_of listed)
  asked_all [] read = refl
  asked_all (l ∷ ls) read =
      let size : SourceSeen → ℕ = λ s. s.size in
      let bytes : bytes_in l.pieces ≡ length (concat (copied.byte_lists_in (chunks_by l))) = sym (ap sum (chunked_by l read.0).sizes) ∙ sum-lengths (copied.byte_lists_in (chunks_by l)) in
      let pieces : length (chunks_by l) ≡ length l.pieces = length-map l.pieces (chunk_at (file_of known l.input.name)) in
      omega (arith, sum_by-cons size (chunks_source l) (map chunks_source ls), asked_all ls read.1, bytes, ap asked_for_chunks pieces, ap length read.0.head)

  -- ---- the head
  sum_same : (f : List ℕ → ℕ) (inputs : List InputSeen) → All (IsOpen (Some known)) inputs → sum_by (λ i. f i.head.bytes) inputs ≡ sum_by (λ file. f (head_of file)) (files_of known (input_names inputs))
  sum_same f [] all = refl
  sum_same f (i ∷ is) all =
      let tail : All (IsOpen (Some known)) is = λ k d lt. all (suc k) d (omega (arith, lt)) in
      let here : f i.head.bytes ≡ f (head_of (file_of known i.name)) = ap f (read_head known i (all 0 i (omega arith))) in
      sum_by-cons (λ (x : InputSeen). f x.head.bytes) i is
      ∙ (let e : f i.head.bytes + sum_by (λ x. f x.head.bytes) is ≡ f (head_of (file_of known i.name)) + sum_by (λ file. f (head_of file)) (files_of known (input_names is)) = omega (arith, here, sum_same f is tail) in e)
      ∙ sym (sum_by-cons (λ (file : List ℕ). f (head_of file)) (file_of known i.name) (files_of known (input_names is)))

  head_same : (inputs : List InputSeen) → All (IsOpen (Some known)) inputs → 1 ≤ length inputs → summed_head inputs ≡ copied_head (files_of known (input_names inputs))
  head_same inputs all some =
      let files = files_of known (input_names inputs) in
      let points : points_read inputs ≡ points_of_files files = sym (read_points known inputs all) in
      let short : returns_summed inputs ≡ copied.returns_in files = λ j. map (λ i. min (sum_same (λ h. slice_index (returns_of h) i) inputs all j) (2 ^ 32 - 1)) (range_with_len 0 5) in
      let long : long_returns_summed inputs ≡ copied.long_returns_in files = λ j. map (λ i. min (sum_same (λ h. slice_index (returns_to_15 h) i) inputs all j) (2 ^ 64 - 1)) (range_with_len 0 15) in
      let first : first_read inputs ≡ first_head files = read_first known inputs all some in
      λ j. with_sums (points j) (short j) (long j) (plain_of (first j))

  -- ---- what is written
  pub text_by : (listed : List ListedInput) (place : ℕ) (counts sizes : List ℕ) → AllByRecursion IsRead listed → All (IsOpen (Some known)) (map (λ l. l.input) listed) → 1 ≤ length listed
      → counts ≡ map (λ p. p.count) (all_pieces listed) → sizes ≡ map (λ p. p.size) (all_pieces listed)
      → place ≡ length (packed_head (summed_head (map (λ l. l.input) listed)) 4294967295) + 8 + sum sizes
      → copied_text (Some known) (packed_head (summed_head (map (λ l. l.input) listed)) 4294967295) place (map chunks_source listed) (table_bytes counts sizes) ≡ copied_file (files_in listed) (all_of (parts_of listed))
  text_by listed place counts sizes read opened some counts_are sizes_are place_is =
      let inputs = map (λ (l : ListedInput). l.input) listed in
      let chunks = all_of (parts_of listed) in
      let head = summed_head inputs in
      let new = copied_head (files_in listed) in
      let same : head ≡ new = head_same inputs opened (omega (arith, some, length-map listed (λ (l : ListedInput). l.input))) in
      let counts_same : counts ≡ chunk_counts chunks = counts_are ∙ sym (counts_all listed) in
      let sizes_same : sizes ≡ map length (copied.byte_lists_in chunks) = sizes_are ∙ sym (sizes_all listed read) in
      let sums : sum sizes ≡ length (concat (copied.byte_lists_in chunks)) = ap sum sizes_same ∙ sum-lengths (copied.byte_lists_in chunks) in
      let place_same : place ≡ table_after head 4294967295 (copied.byte_lists_in chunks) = omega (arith, place_is, sums) in
      let parts_same = parts_all listed read in
      (λ j. (packed_head (same j) 4294967295 ++ little_bytes 8 (place_same j)) ++ (parts_same j ++ table_bytes (counts_same j) (sizes_same j)))
      ∙ ap (λ (h : List ℕ). (packed_head new 4294967295 ++ little_bytes 8 (table_after h 4294967295 (copied.byte_lists_in chunks))) ++ (concat (copied.byte_lists_in chunks) ++ table_bytes (chunk_counts chunks) (map length (copied.byte_lists_in chunks)))) same

-- ---- one input more
module _ (held : Option FileMap) where
  -- the part of an input that is its chunks lies in its file
  pub lies_one : (l : ListedInput) → IsOpen held l.input → IsListed held l → PartLiesIn held (chunks_source l)
  lies_one l o s =
      known_both held l.input.name (IsItsFile l.input) (λ file. ArePieces file l.pieces) (λ file. length l.input.head.bytes + 8 + bytes_in l.pieces ≤ length file)
      (λ file its are.
      let head : l.input.head.bytes ≡ head_of file = ap (λ (h : HeadView). h.bytes) its.head in
      let packed : is_packed (head_of file) ≡ true = ap is_packed (sym head) ∙ s.packed in
      omega (arith, (chunked file l.pieces its.accepted packed are).lie, (packed_front_known file its.accepted packed).long, ap length head))
      o.stands s.stands

  pub lie_all : (listed : List ListedInput) → All (IsOpen held) (map (λ l. l.input) listed) → All (IsListed held) listed → All (PartLiesIn held) (map chunks_source listed)
  lie_all [] opened each k d lt = absurd (omega (arith, lt))
  lie_all (l ∷ ls) opened each zero d lt = lies_one l (opened 0 l.input (omega arith)) (each 0 l (omega arith))
  lie_all (l ∷ ls) opened each (suc k) d lt = lie_all ls (λ i e less. opened (suc i) e (omega (arith, less))) (λ i e less. each (suc i) e (omega (arith, less))) k d (omega (arith, lt))

  pub listed_by : (name : List ℕ) (reader : ReaderSeen) → AgreesWithHead reader → WhereKnown held name (StandsFor reader) → is_packed reader.head.bytes ≡ true
      → IsListed held (record { input = record { name = name; head = reader.head }; pieces = reader.pieces })
  listed_by name reader agrees stands packed =
      let chunk : reader.chunk ≡ Some (chunk_size_of reader.head.bytes) = agrees.chunk ∙ ap (λ (b : Bool). cond b (Some (chunk_size_of reader.head.bytes)) None) packed in
      record {
        packed = packed;
        stands = known_then held name (StandsFor reader) (λ file. ArePieces file reader.pieces)
            (λ file s. subst (λ (ps : List Piece). ArePieces file ps) (sym (s.chunks ∙ ap (λ (o : Option ℕ). chunks_in o s.pieces) chunk)) s.are) stands;
      }

  packed-map : (listed : List ListedInput) → All (IsListed held) listed → All IsPackedInput (map (λ l. l.input) listed)
  packed-map [] each k d lt = absurd (omega (arith, lt))
  packed-map (l ∷ ls) each zero d lt = (each 0 l (omega arith)).packed
  packed-map (l ∷ ls) each (suc k) d lt = packed-map ls (λ i e less. each (suc i) e (omega (arith, less))) k d (omega (arith, lt))

  pub list_packed : (inputs : List InputSeen) (sources : List SourceSeen) (many : Bool) (counts sizes : List ℕ) (asked : ℕ) → ListsChunks held inputs sources many counts sizes asked → All IsPackedInput inputs
  list_packed inputs sources many counts sizes asked lists = subst (λ (is : List InputSeen). All IsPackedInput is) (sym lists.inputs_are) (packed-map lists.listed lists.each)

  pieces-push : (xs : List ListedInput) (l : ListedInput) → all_pieces (xs ++ l ∷ []) ≡ all_pieces xs ++ l.pieces
  pieces-push [] l = append-nil l.pieces
  pieces-push (x ∷ xs) l = ap (λ (t : List Piece). x.pieces ++ t) (pieces-push xs l) ∙ sym (append_assoc x.pieces (all_pieces xs) l.pieces)

  asked-push : (xs : List ListedInput) (l : ListedInput) → asked_to_list (xs ++ l ∷ []) ≡ asked_to_list xs + (length l.input.head.bytes + asked_for_chunks (length l.pieces))
  asked-push [] l = omega arith
  asked-push (x ∷ xs) l = omega (arith, asked-push xs l)

  module _ (inputs : List InputSeen) (sources : List SourceSeen) (counts sizes counts_now sizes_now : List ℕ) (asked more : ℕ) (l : ListedInput) where
    abbrev count : Piece → ℕ
    count piece = piece.count

    abbrev size : Piece → ℕ
    size piece = piece.size

    more-by : (was now : Bool) (lists : ListsChunks held inputs sources was counts sizes asked) → AddsChunks was now counts counts_now sizes sizes_now (map (λ p. p.count) l.pieces) (map (λ p. p.size) l.pieces)
        → now ≡ true → MAX_CHUNKS < length (all_pieces lists.listed) + length l.pieces
    more-by true now lists adds e = omega (arith, lists.many_are refl)
    more-by false now lists adds e =
        omega (arith, adds.too_many refl e, ap length (lists.points_are refl), length-map (all_pieces lists.listed) count, length-map l.pieces count)

    was-false : (was now : Bool) → (was ≡ true → now ≡ true) → now ≡ false → was ≡ false
    was-false true now still e = absurd (let a : true ≡ false = sym (still refl) ∙ e in cc)
    was-false false now still e = refl

    pub list_more : (was now : Bool) → ListsChunks held inputs sources was counts sizes asked → IsListed held l → more ≤ length l.input.head.bytes + asked_for_chunks (length l.pieces) → AddsChunks was now counts counts_now sizes sizes_now (map (λ p. p.count) l.pieces) (map (λ p. p.size) l.pieces)
        → length counts_now ≤ MAX_CHUNKS → ListsChunks held (inputs ++ l.input ∷ []) (sources ++ chunks_source l ∷ []) now counts_now sizes_now (asked + more)
    list_more was now lists one bound adds few =
        let all = lists.listed ++ l ∷ [] in
        let pieces = pieces-push lists.listed l in
        record {
          listed = all;
          inputs_are = ap (λ (t : List InputSeen). t ++ l.input ∷ []) lists.inputs_are ∙ sym (map-append (λ (x : ListedInput). x.input) lists.listed (l ∷ []));
          sources_are = ap (λ (t : List SourceSeen). t ++ chunks_source l ∷ []) lists.sources_are ∙ sym (map-append chunks_source lists.listed (l ∷ []));
          each = All-push (IsListed held) lists.listed l lists.each one;
          few = few;
          once = omega (arith, lists.once, bound, asked-push lists.listed l);
          many_are = λ e. omega (arith, more-by was now lists adds e, ap length pieces, length-append (all_pieces lists.listed) l.pieces);
          points_are = λ e. adds.points_are e
              ∙ ap (λ (t : List ℕ). t ++ map count l.pieces) (lists.points_are (was-false was now adds.still_many e))
              ∙ sym (ap (map count) pieces ∙ map-append count (all_pieces lists.listed) l.pieces);
          bytes_are = λ e. adds.bytes_are e
              ∙ ap (λ (t : List ℕ). t ++ map size l.pieces) (lists.bytes_are (was-false was now adds.still_many e))
              ∙ sym (ap (map size) pieces ∙ map-append size (all_pieces lists.listed) l.pieces);
        }
