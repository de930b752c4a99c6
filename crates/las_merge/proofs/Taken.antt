-- What is copied of one input, by what its reader has read.
use Rattle.std.proofs.Common.{◌≡◌, ℕ, ◌+◌, ◌*◌, ◌≤◌, List, [], length, take, Option, Some, None, Result, IfOk, refl, sym, ◌∙◌, ap, subst, arith}
use Rattle.std.specs.List.{concat}
use Rattle.std.specs.Prelude.{OnErr}
use Rattle.std.proofs.lemmas.List.{take_all}
use Rattle.std.proofs.lemmas.Result.{IfOk-weaker, IfErr-weaker}
use Rattle.las_header.specs.declared.refusal.Refusal.{Refusal}
use Rattle.las_header.specs.declared.refusal.Refusal.TheVariants.{BadChunk}
use Rattle.las_header.specs.Fields.{record_length_of}
use Rattle.las_outside.specs.Files.{FileMap, WhereKnown}
use Rattle.las_outside.specs.Outside.{Outside}
use Rattle.laz_forms.specs.declared.fault.Fault.{Fault}
use Rattle.laz_file.specs.Copying.{EndsAfter, HoldFirst, LeavesPart, Takes}
use Rattle.laz_forms.specs.Pieces.{Piece}
use Rattle.laz_reader.specs.Reading.{ReaderSeen, ReadsAll, StandsFor, records_in}
use Rattle.laz_forms.specs.Records.{AreRead, HoldOnly, IsBadPiece}
use Rattle.laz_writer.specs.Writing.{WriterSeen}
use Rattle.laz_forms.proofs.Public.{known_as, known_both, known_then, known_three, one_pieces}
use Rattle.laz_file.proofs.Public.{length_whole, read_begins, part_stands, takes_none, all_records, left_is as whole_left, records_before, stands_ready}
use Rattle.las_merge.specs.Copying.{BeginsWith, CopiesTo, OnlyRecords}

module _ (held : Option FileMap) (first : ReaderSeen) (buffers : ℕ) (new : ReadsAll first) (stands : WhereKnown held first.name (StandsFor first)) (n : ℕ) (blocks : List (List ℕ)) (hold : HoldFirst held (record first { buffers = buffers }) n blocks) where
  known_hold : WhereKnown held first.name (λ file. HoldOnly file (take n first.left) blocks)
  known_hold = hold.hold

  all_taken : n ≡ length first.left → WhereKnown held first.name (λ file. OnlyRecords file (concat blocks) None)
  all_taken all =
      known_both held first.name (StandsFor first) (λ file. HoldOnly file (take n first.left) blocks) (λ file. OnlyRecords file (concat blocks) None)
      (λ file st ho. (blocks, all_records first file st new blocks (subst (λ (k : ℕ). HoldOnly file (take k first.left) blocks) all ho), refl)) stands known_hold

  bad_taken : WhereKnown held first.name (λ file. IsBadPiece file first.left n) → WhereKnown held first.name (λ file. OnlyRecords file (concat blocks) (Some n))
  bad_taken bad =
      known_three held first.name (StandsFor first) (λ file. HoldOnly file (take n first.left) blocks) (λ file. IsBadPiece file first.left n) (λ file. OnlyRecords file (concat blocks) (Some n))
      (λ file st ho is. (blocks, records_before first file st new n blocks ho is, refl)) stands known_hold bad

  begins_at : (file : List ℕ) → StandsFor first file → HoldOnly file (take n first.left) blocks → BeginsWith file (concat blocks)
  begins_at file st ho others bad are =
      let left_is : first.left ≡ st.pieces = whole_left first file st new in
      let same : are.0 ≡ st.pieces = one_pieces file are.0 st.pieces are.1 st.are in
      let read = subst (λ (ps : List Piece). AreRead file ps others bad) same are.2 in
      let few = subst (λ (ps : List Piece). n ≤ length ps) left_is hold.within in
      let b = read_begins file st.pieces n blocks others bad few (subst (λ (ps : List Piece). HoldOnly file (take n ps) blocks) left_is ho) read in
      (b.0, b.1)

  -- the records of the input begin so
  pub begins_taken : WhereKnown held first.name (λ file. BeginsWith file (concat blocks))
  begins_taken =
      known_both held first.name (StandsFor first) (λ file. HoldOnly file (take n first.left) blocks) (λ file. BeginsWith file (concat blocks)) begins_at stands known_hold

  -- these are all of its records, or those before its first bad chunk
  pub copies_taken : (end : Option Refusal) → EndsAfter held (record first { buffers = buffers }) n end → CopiesTo held first.name (concat blocks) end
  copies_taken None all = all_taken all
  copies_taken (Some cause) ends = (n, ends.0 ∙ ap BadChunk (let e : first.next + n ≡ n = omega (arith, new.first) in e), bad_taken ends.2)

  -- and how long they are, if they are all
  pub length_taken : (end : Option Refusal) → EndsAfter held (record first { buffers = buffers }) n end → end ≡ None → length (concat blocks) ≡ record_length_of first.head.bytes * records_in first.left
  length_taken None all is =
      length_whole (record_length_of first.head.bytes) (take n first.left) blocks hold.whole
      ∙ ap (λ (ps : List Piece). record_length_of first.head.bytes * records_in ps) (take_all n first.left (omega (arith, all)))
  length_taken (Some cause) ends is = absurd (cc)

-- ---- a call that copies an input

module _ (old new : Outside) (first reader : ReaderSeen) (buffers : ℕ) (ready : reader ≡ record first { buffers = buffers }) (new_one : ReadsAll first) (stands : WhereKnown old.held first.name (StandsFor first)) (w v : WriterSeen) where
  pub reads_ready : WhereKnown old.held reader.name (StandsFor reader)
  reads_ready =
      known_as old.held first.name reader.name (StandsFor reader) (sym (ap (λ (r : ReaderSeen). r.name) ready))
      (known_then old.held first.name (StandsFor first) (StandsFor reader) (λ file st. stands_ready first reader buffers file ready st) stands)

  pub copied_input : w.size ≡ record_length_of first.head.bytes → (r : Result (Option Refusal) Fault)
      → IfOk r (λ end. (n : ℕ) × (blocks : List (List ℕ)) × HoldFirst old.held reader n blocks × EndsAfter old.held reader n end × Takes old new w v (concat blocks))
      → IfOk r (λ end. (records : List ℕ) × CopiesTo old.held first.name records end × Takes old new w v records × (end ≡ None → length records ≡ w.size * records_in first.left))
  copied_input size r copied =
      IfOk-weaker r (λ end. (n : ℕ) × (blocks : List (List ℕ)) × HoldFirst old.held reader n blocks × EndsAfter old.held reader n end × Takes old new w v (concat blocks)) (λ end. (records : List ℕ) × CopiesTo old.held first.name records end × Takes old new w v records × (end ≡ None → length records ≡ w.size * records_in first.left))
      (λ end d.
      let hold = subst (λ (x : ReaderSeen). HoldFirst old.held x d.0 d.1) ready d.2 in
      let ends = subst (λ (x : ReaderSeen). EndsAfter old.held x d.0 end) ready d.3 in (
        concat d.1,
        copies_taken old.held first buffers new_one stands d.0 d.1 hold end ends,
        d.4,
        λ none. length_taken old.held first buffers new_one stands d.0 d.1 hold end ends none ∙ ap (λ (k : ℕ). k * records_in first.left) (sym size),
      )) copied

  pub failed_input : (r : Result (Option Refusal) Fault) → OnErr r ((n : ℕ) × (blocks : List (List ℕ)) × HoldFirst old.held reader n blocks × LeavesPart old new w (concat blocks))
      → OnErr r ((records : List ℕ) × WhereKnown old.held first.name (λ file. BeginsWith file records) × LeavesPart old new w records)
  failed_input r part =
      IfErr-weaker r (λ fault. (n : ℕ) × (blocks : List (List ℕ)) × HoldFirst old.held reader n blocks × LeavesPart old new w (concat blocks)) (λ fault. (records : List ℕ) × WhereKnown old.held first.name (λ file. BeginsWith file records) × LeavesPart old new w records)
      (λ fault d.
      let hold = subst (λ (x : ReaderSeen). HoldFirst old.held x d.0 d.1) ready d.2 in
      (concat d.1, begins_taken old.held first buffers new_one stands d.0 d.1 hold, d.3)) part

-- nothing was copied yet
pub none_copied : (old : Outside) (first : ReaderSeen) (w : WriterSeen) → WhereKnown old.held first.name (StandsFor first)
    → (records : List ℕ) × WhereKnown old.held first.name (λ file. BeginsWith file records) × LeavesPart old old w records
none_copied old first w stands = (
  [],
  known_then old.held first.name (StandsFor first) (λ file. BeginsWith file []) (λ file st blocks bad are. (concat blocks, refl)) stands,
  part_stands old old old w w [] refl (takes_none old w),
)
