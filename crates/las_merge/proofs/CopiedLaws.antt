-- Inputs whose chunks are copied into one file.
use Rattle.std.proofs.Common.{◌≡◌, ℕ, suc, Bool, true, false, cond, List, [], ◌∷◌, ◌++◌, Option, Some, None, refl, sym, ◌∙◌, ap, subst, arith}
use Rattle.std.specs.Prelude.{All}
use Rattle.std.specs.List.{AllByRecursion, concat}
use Rattle.std.proofs.lemmas.Bool.{eqb-true}
use Rattle.las_header.specs.Fields.{format_of, head_of}
use Rattle.las_header.specs.Plain.{plain_of}
use Rattle.las_outside.specs.Files.{FileMap}
use Rattle.las_points.specs.Tally.{counted_file}
use Rattle.laz_range.specs.Span.{IsBytes}
use Rattle.laz_forms.specs.Outputs.{finished, records_after}
use Rattle.laz_forms.specs.Records.{Unpacks}
use Rattle.laz_forms.specs.Refusing.{IsAcceptedFile}
use Rattle.laz_forms.proofs.Public.{counted_file_is, concat-append}
use Rattle.laz_copied.specs.Copied.{Chunk, all_of, copied_file, first_head, points_of_files}
use Rattle.laz_copied.specs.Laws.{AreRight, CanBeCopied, CanCopy, HaveBlocks}
use Rattle.laz_copied.proofs.Public.{accepted, records, merged, plain_head_is, records_whole}
use Rattle.las_merge.specs.declared.field.Field.{Field}
use Rattle.las_merge.specs.declared.field.Field.TheVariants.{Format, Length, Scales, Offsets, Bounds}
use Rattle.las_merge.specs.CopiedLaws.{AreAcceptedAsOne, AreCopied, HasRightHead, HaveMergedRecords, UnpackToMerged}
use Rattle.las_merge.specs.Fields.{first_difference, first_differing, is_same}
use Rattle.las_merge.specs.Merging.{HaveRecords, merged_output}
use Rattle.las_merge.specs.Packed.{IsPacked}
use Rattle.las_merge.proofs.Again.{same_length, some_none}

-- ---- such inputs can be copied
first-true : (a : Bool) (x : Option Field) (f : Field) → cond a x (Some f) ≡ None → a ≡ true
first-true true x f e = refl
first-true false x f e = absurd (some_none f e)

same_format : (head other : List ℕ) → first_difference head other ≡ None → format_of other ≡ format_of head
same_format head other e =
    sym (eqb-true (format_of head) (format_of other)
    (first-true (is_same Format head other) (first_differing (Length ∷ Scales ∷ Offsets ∷ Bounds ∷ []) head other) Format e))

each_by : (first : List ℕ) (files : List (List ℕ)) → All IsAcceptedFile files → All IsPacked files → All IsBytes files → All (λ file. first_difference first (head_of file) ≡ None) files → AllByRecursion (CanBeCopied first) files
each_by first [] accepted packed bytes alike = tt
each_by first (file ∷ files) accepted packed bytes alike = (
  record {
    accepted = accepted 0 [] (omega arith);
    packed = packed 0 [] (omega arith);
    bytes = bytes 0 [] (omega arith);
    format = same_format first (head_of file) (alike 0 [] (omega arith));
    record_length = same_length first (head_of file) (alike 0 [] (omega arith));
  },
  each_by first files (λ k d lt. accepted (suc k) d (omega (arith, lt))) (λ k d lt. packed (suc k) d (omega (arith, lt))) (λ k d lt. bytes (suc k) d (omega (arith, lt))) (λ k d lt. alike (suc k) d (omega (arith, lt))),
)

module _ (known : FileMap) (names files : List (List ℕ)) (parts : List (List Chunk)) (c : AreCopied known names files parts) where
  can_copy : CanCopy files parts
  can_copy = record {
    some = omega (arith, c.some, c.can.all);
    each = each_by (first_head files) files c.can.first.first.accepted c.can.first.packed c.bytes c.can.first.first.alike;
    few = c.can.few;
    have = c.can.have;
    chunks = c.can.chunks;
  }

-- ---- records and blocks
record HaveTheseBlocks (files recs : List (List ℕ)) : Type 0 where
  blocks : List (List (List ℕ))
  have : HaveBlocks files blocks
  same : concat (all_of blocks) ≡ concat recs

blocks_by : (files recs : List (List ℕ)) → HaveRecords files recs → HaveTheseBlocks files recs
blocks_by [] [] h = record { blocks = []; have = tt; same = refl }
blocks_by [] (r ∷ rs) h = absurd h
blocks_by (f ∷ fs) [] h = absurd h
blocks_by (f ∷ fs) (r ∷ rs) h =
    let more = blocks_by fs rs h.1 in
    record {
      blocks = h.0.0 ∷ more.blocks;
      have = (h.0.1, more.have);
      same = concat-append h.0.0 (all_of more.blocks) ∙ ap (λ (t : List ℕ). concat h.0.0 ++ t) more.same ∙ ap (λ (t : List ℕ). t ++ concat rs) (sym h.0.2);
    }

right_by : (files : List (List ℕ)) (blocks : List (List (List ℕ))) → All HasRightHead files → HaveBlocks files blocks → AreRight files blocks
right_by [] [] right have = tt
right_by [] (b ∷ bs) right have = absurd have
right_by (f ∷ fs) [] right have = absurd have
right_by (f ∷ fs) (b ∷ bs) right have = (right 0 [] (omega arith) (concat b) (b, have.0, refl), right_by fs bs (λ k d lt. right (suc k) d (omega (arith, lt))) have.1)

-- ---- the laws
pub accepted_as_one : AreAcceptedAsOne
accepted_as_one known names files parts c = accepted files parts (can_copy known names files parts c)

pub have_merged : HaveMergedRecords
have_merged known names files parts rs c m =
    let b = blocks_by files m.0 m.1 in
    (all_of b.blocks, records files parts b.blocks (can_copy known names files parts c) b.have, m.2 ∙ sym b.same)

pub unpack_to_merged : UnpackToMerged
unpack_to_merged known names files parts rs name c m right sets =
    let b = blocks_by files m.0 m.1 in
    let can = can_copy known names files parts c in
    let out = merged_output name files None in
    let whole = concat (all_of b.blocks) in
    let same : rs ≡ whole = m.2 ∙ sym b.same in
    let is : finished out whole ≡ counted_file (plain_of (first_head files)) (records_after (plain_of (first_head files)) whole) =
    counted_file_is out (points_of_files files) whole (plain_head_is files parts can) refl refl (records_whole files parts b.blocks can b.have) in
    let unpacks = merged files parts b.blocks can b.have (right_by files b.blocks right b.have) sets in
    subst (λ (t : List ℕ). Unpacks (copied_file files (all_of parts)) t) (sym is ∙ ap (finished out) (sym same)) unpacks
