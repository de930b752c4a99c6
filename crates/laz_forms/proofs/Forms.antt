-- The packed form of a plain head and of chunks is accepted, and its pieces are the chunks: of chunks that were copied,
-- and of those that hold the records of a plain file.
use Rattle.std.proofs.Common.{◌≡◌, ℕ, ◌+◌, ◌-◌, ◌<◌, ◌≤◌, ◌&&◌, sum, nat_lt, Bool, true, false, cond, List, [], ◌∷◌, ◌++◌, length, map, take, drop, Option, None, refl, sym, ap, subst, ◌∙◌, arith, append_assoc, length-append, ◌*◌}
use Rattle.std.proofs.lemmas.Bool.{cond-false, ne_eqb, and_left, or_from, le-ltb}
use Rattle.std.proofs.lemmas.List.{drop_at, take-take, take_all, take_at}
use Rattle.std.specs.List.{concat}
use Rattle.byteorder.specs.Endian.{little_bytes}
use Rattle.las_header.specs.declared.refusal.Refusal.{Refusal}
use Rattle.las_header.specs.declared.refusal.Refusal.TheVariants as cause
use Rattle.las_header.specs.Conditions.{IsFirst, conditions}
use Rattle.las_header.specs.Fields.{format_of, head_of, is_packed, offset_limit, point_offset_of}
use Rattle.las_header.specs.Heads.{PacksHead}
use Rattle.las_header.specs.Numbers.{number_at}
use Rattle.las_header.specs.Plain.{plain_head, plain_of}
use Rattle.las_header.specs.Refusals.{causes_of, first_cause, front_causes, head_causes, or_else}
use Rattle.las_header.proofs.Public.{front_decides, front_is_fine, packed_is_fine, IsFirst-append_none, IsFirst-tests, number_at-drop, number_at-take, reads_back, first_of_both}
use Rattle.las_header.proofs.Public.{first_none}
use Rattle.laz_table.specs.Chunks.{IsAccepted}
use Rattle.laz_table.specs.Laws.{AreWords}
use Rattle.laz_table.specs.Payload.{laszip_payload}
use Rattle.laz_table.specs.Table.{table_bytes}
use Rattle.laz_table.specs.VlrCauses.{extra_of, vlr_causes}
use Rattle.laz_forms.specs.Packing.{packed_form, packed_head, table_after}
use Rattle.laz_forms.specs.Pieces.{ArePieces, ArePiecesIf, pieces_from}
use Rattle.laz_forms.specs.Refusing.{IsAcceptedFile, blocks_in, chunk_causes, chunks_place, has_bad_pointer, has_last_pointer, table_end, table_part, table_place, tested_causes}
use Rattle.laz_forms.proofs.Chunked.{sum-lengths}

-- some lists are not too long in all
pub words-bound : (xs : List (List ℕ)) → AreWords (map length xs) → length (concat xs) ≤ 4294967296 * length xs
words-bound [] h = omega arith
words-bound (x ∷ xs) h = omega (arith, length-append x (concat xs), h.0, words-bound xs h.1)

pub both-fine : (xs ys : List (Bool × Refusal)) → first_cause xs ≡ None → first_cause ys ≡ None → first_cause (xs ++ ys) ≡ None
both-fine xs ys e f = first_of_both xs ys ∙ ap (λ (o : Option Refusal). or_else o (first_cause ys)) e ∙ f

-- what is needed of a head, a chunk size and chunks
pub record IsForm (head : List ℕ) (chunk : ℕ) (points : List ℕ) (chunks : List (List ℕ)) (counts : List ℕ) : Type 0 where
  pub packs : PacksHead (laszip_payload (format_of head) (extra_of head) chunk) head (packed_head head chunk)
  pub near : length (packed_head head chunk) ≤ 16777216
  pub vlr : first_cause (vlr_causes (packed_head head chunk)) ≡ None
  pub words : AreWords (map length chunks)
  pub few : length chunks ≤ 16777216
  pub table : IsAccepted (table_bytes points (map length chunks)) (blocks_in (packed_head head chunk)) (sum (map length chunks)) counts (map length chunks)

module _ (head : List ℕ) (chunk : ℕ) (points : List ℕ) (chunks : List (List ℕ)) (counts : List ℕ) (f : IsForm head chunk points chunks counts) where
  abbrev packed : List ℕ
  packed = packed_head head chunk

  abbrev joined : List ℕ
  joined = concat chunks

  abbrev table : List ℕ
  table = table_bytes points (map length chunks)

  abbrev place : ℕ
  place = table_after head chunk chunks

  abbrev pub form : List ℕ
  form = packed_form head chunk points chunks

  abbrev pointer : List ℕ
  pointer = little_bytes 8 (table_after head chunk chunks)

  place-fits : place < 18446744073709551615
  place-fits = omega (arith, f.near, words-bound chunks f.words, f.few)

  length-form : length form ≡ length packed + 8 + length joined + length table
  length-form = omega (arith, length-append (packed ++ pointer) (joined ++ table), length-append packed pointer, length-append joined table)

  front : take (length packed) form ≡ packed
  front = ap (λ (t : List ℕ). take (length packed) t) (append_assoc packed pointer (joined ++ table)) ∙ take_at packed (pointer ++ (joined ++ table)) (length packed) refl

  offset : point_offset_of form ≡ length packed
  offset =
      let is = f.packs.is_head in
      sym (number_at-take 4 96 (length packed) form (omega (arith, is.block))) ∙ ap (number_at 4 96) front ∙ is.whole

  pub form_head : head_of form ≡ packed
  form_head = ap (λ (n : ℕ). take n form) offset ∙ front

  pub form_packed : is_packed (head_of form) ≡ true
  form_packed = ap is_packed form_head ∙ f.packs.packed

  pub chunks-place-is : chunks_place form ≡ length packed + 8
  chunks-place-is = ap (λ (n : ℕ). n + 8) offset

  -- the chunks and the table
  pub form_after : drop (chunks_place form) form ≡ joined ++ table
  form_after = ap (λ (n : ℕ). drop n form) chunks-place-is ∙ drop_at (packed ++ pointer) (joined ++ table) (length packed + 8) (omega (arith, length-append packed pointer))

  -- ---- the pointer
  pointer-is : number_at 8 (point_offset_of form) form ≡ place
  pointer-is =
      let there : drop (length packed) form ≡ pointer ++ (joined ++ table) =
      ap (λ (t : List ℕ). drop (length packed) t) (append_assoc packed pointer (joined ++ table)) ∙ drop_at packed (pointer ++ (joined ++ table)) (length packed) refl in
      ap (λ (n : ℕ). number_at 8 n form) offset ∙ number_at-drop 8 (length packed) form ∙ ap (number_at 8 0) there ∙ reads_back 8 place (joined ++ table) (omega (arith, place-fits))

  not-last : has_last_pointer form ≡ false
  not-last = ne_eqb (number_at 8 (point_offset_of form) form) 18446744073709551615 (λ e. absurd (omega (arith, e, pointer-is, place-fits)))

  table-place-is : table_place form ≡ place
  table-place-is = cond-false (has_last_pointer form) (number_at 8 (length form - 8) form) (number_at 8 (point_offset_of form) form) not-last ∙ pointer-is

  table-end-is : table_end form ≡ length form
  table-end-is = cond-false (has_last_pointer form) (length form - 8) (length form) not-last

  good-pointer : has_bad_pointer form ≡ false
  good-pointer =
      or_from _ (nat_lt (table_end form) (table_place form))
      (or_from _ (nat_lt (table_place form) (chunks_place form))
      (or_from (nat_lt (length form) (chunks_place form)) (has_last_pointer form && nat_lt (length form) (chunks_place form + 8))
      (le-ltb (length form) (chunks_place form) (omega (arith, length-form, chunks-place-is)))
      (and_left (has_last_pointer form) _ not-last))
      (le-ltb (table_place form) (chunks_place form) (omega (arith, table-place-is, chunks-place-is))))
      (le-ltb (table_end form) (table_place form) (omega (arith, table-end-is, table-place-is, length-form)))

  -- ---- the table
  table-part-is : table_part form ≡ table
  table-part-is =
      let before : length ((packed ++ pointer) ++ joined) ≡ place = omega (arith, length-append (packed ++ pointer) joined, length-append packed pointer) in
      ap (λ (n : ℕ). drop n (take (table_end form) form)) table-place-is
      ∙ ap (λ (n : ℕ). drop place (take n form)) table-end-is
      ∙ ap (λ (t : List ℕ). drop place t) (take_all (length form) form (omega arith) ∙ sym (append_assoc (packed ++ pointer) joined table))
      ∙ drop_at ((packed ++ pointer) ++ joined) table place before

  total-is : table_place form - chunks_place form ≡ sum (map length chunks)
  total-is = omega (arith, table-place-is, chunks-place-is, sum-lengths chunks)

  pub accepted-table : IsAccepted (table_part form) (blocks_in (head_of form)) (table_place form - chunks_place form) counts (map length chunks)
  accepted-table =
      let sizes = map length chunks in
      subst (λ (t : List ℕ). IsAccepted t (blocks_in (head_of form)) (table_place form - chunks_place form) counts sizes) (sym table-part-is)
      (subst (λ (h : List ℕ). IsAccepted table (blocks_in h) (table_place form - chunks_place form) counts sizes) (sym form_head)
      (subst (λ (n : ℕ). IsAccepted table (blocks_in packed) n counts sizes) (sym total-is) f.table))

  -- ---- the tested conditions
  near-is : length packed ≤ offset_limit packed
  near-is =
      let limit : offset_limit packed ≡ 16777216 = ap (λ (b : Bool). cond b 16777216 16777104) f.packs.packed in
      omega (arith, f.near, limit)

  front-fine : first_cause (front_causes form (length form)) ≡ None
  front-fine =
      let is = f.packs.is_head in
      let size = length form in
      let same : take 227 form ≡ take 227 packed = sym (take-take 227 (length packed) form is.block) ∙ ap (λ (t : List ℕ). take 227 t) front in
      ap first_cause (sym (front_decides form size) ∙ ap (λ (t : List ℕ). front_causes t size) same ∙ front_decides packed size)
      ∙ front_is_fine packed size is (omega (arith, length-form)) near-is

  head-fine : first_cause (head_causes (head_of form) (length form)) ≡ None
  head-fine = ap (λ (t : List ℕ). first_cause (head_causes t (length form))) form_head ∙ packed_is_fine packed (length form) f.packs.is_head f.packs.packed

  abbrev last : List (Bool × Refusal)
  last = (has_bad_pointer form, cause.TablePointer) ∷ []

  packed-fine : first_cause (vlr_causes (head_of form) ++ last) ≡ None
  packed-fine =
      both-fine (vlr_causes (head_of form)) last
      (ap (λ (t : List ℕ). first_cause (vlr_causes t)) form_head ∙ f.vlr)
      (first_none (has_bad_pointer form) cause.TablePointer [] good-pointer refl)

  tests-fine : first_cause (tested_causes form) ≡ None
  tests-fine =
      both-fine (causes_of form) (cond (is_packed (head_of form)) (vlr_causes (head_of form) ++ last) [])
      (both-fine (front_causes form (length form)) (head_causes (head_of form) (length form)) front-fine head-fine)
      (ap (λ (b : Bool). first_cause (cond b (vlr_causes (head_of form) ++ last) [])) form_packed ∙ packed-fine)

  pub form_accepted : IsAcceptedFile form
  form_accepted =
      IsFirst-append_none (conditions (tested_causes form)) (chunk_causes (is_packed (head_of form)) form) None
      (subst (λ (o : Option Refusal). IsFirst (conditions (tested_causes form)) o) tests-fine (IsFirst-tests (tested_causes form)))
      (subst (λ (b : Bool). IsFirst (chunk_causes b form) None) (sym form_packed) accepted-table.fine)

  -- ---- the pieces
  pub form_pieces : ArePieces form (pieces_from (chunks_place form) counts (map length chunks))
  form_pieces =
      subst (λ (b : Bool). ArePiecesIf b form (pieces_from (chunks_place form) counts (map length chunks))) (sym form_packed)
      (counts, map length chunks, accepted-table, refl)

  pub form_plain : plain_head form ≡ head
  form_plain = ap plain_of form_head ∙ f.packs.back
