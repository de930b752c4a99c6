-- A whole file that was split.
use Rattle.std.proofs.Common.{◌≡◌, ◌≢◌, ℕ, ◌+◌, ◌≤◌, Bool, true, false, map, List, [], ◌∷◌, ◌++◌, length, take, Option, Some, None, Result, Ok, Err, IfErr, refl, sym, ◌∙◌, ap, subst, arith}
use Rattle.std.specs.Prelude.{OnErr}
use Rattle.std.specs.List.{concat}
use Rattle.std.proofs.lemmas.List.{append-nil}
use Rattle.las_header.specs.declared.refusal.Refusal.{Refusal}
use Rattle.las_header.specs.declared.refusal.Refusal.TheVariants.{BadChunk, TooManyParts}
use Rattle.las_header.specs.Fields.{record_length_of}
use Rattle.las_header.specs.Heads.{HeadView, IsHead}
use Rattle.las_header.specs.Plain.{plain_of, cut_all}
use Rattle.las_filter.specs.declared.rule.Rule.{Rule}
use Rattle.las_outside.specs.Files.{FileMap, WhereKnown}
use Rattle.las_outside.specs.Outside.{Outside}
use Rattle.laz_reader.specs.Asking.{ReadsAndWrites, bytes_left}
use Rattle.laz_file.specs.Copying.{HoldFirst}
use Rattle.laz_reader.specs.Reading.{ReaderSeen, ReadsAll, StandsFor}
use Rattle.laz_forms.specs.Records.{HoldOnly, IsBadPiece}
use Rattle.laz_writer.specs.Writing.{WriterSeen}
use Rattle.laz_forms.proofs.Public.{known_both, known_then}
use Rattle.las_split.specs.declared.limits.TheConstants.{MAX_PARTS}
use Rattle.las_split.specs.Files.{with_files}
use Rattle.las_split.specs.Outputs.{LeavesParts, all_stopped, outputs_under, part_files}
use Rattle.las_split.specs.Parts.{numbers_of_parts}
use Rattle.las_split.specs.Sorting.{EndsSplitting, InParts, LeavesBlock, LeavesPrefixes, TakesBlock, SplitTask, bytes_at, standing}
use Rattle.las_split.specs.Splitting.{OnlySplits, SplitsTo}
use Rattle.las_split.proofs.BatchesTaken.{head_some}
use Rattle.las_split.proofs.Leaving.{leaves_parts, stopped_texts}
use Rattle.las_split.proofs.Placing.{leaves_here}
use Rattle.las_split.proofs.Splits.{splits_all, splits_bad, splits_begin, splits_many}

-- the first of some records
first_one : (xs : List (List ℕ)) → 1 ≤ length xs → (r : List ℕ) × (rest : List (List ℕ)) × (xs ≡ r ∷ [] ++ rest)
first_one [] some = absurd (omega (arith, some))
first_one (r ∷ rest) some = (r, rest, refl)

module _ (task : SplitTask) (was : Option FileMap) (first reader : ReaderSeen) (buffers : ℕ) (ready : reader ≡ record first { buffers = buffers }) (new_one : ReadsAll first) (is : IsHead first.head.bytes) (stands : WhereKnown was first.name (StandsFor first)) where
  same_head : reader.head ≡ first.head
  same_head = ap (λ (r : ReaderSeen). r.head) ready

  hold_first : (n : ℕ) (blocks : List (List ℕ)) → HoldFirst was reader n blocks → HoldFirst was first n blocks
  hold_first n blocks hold =
      let again : ReaderSeen = record first { buffers = buffers } in
      let h = subst (λ (r : ReaderSeen). HoldFirst was r n blocks) ready hold in
      record { within = h.within; whole = h.whole; hold = h.hold }

  module _ (n : ℕ) (blocks : List (List ℕ)) (hold : HoldFirst was reader n blocks) where
    x : List (List ℕ)
    x = cut_all (record_length_of first.head.bytes) (concat blocks)

    -- what the file gives, if the records ended so
    pub splits_end : (mid : Option FileMap) (ns : List ℕ) (ws : List WriterSeen) (all : Bool) (end : Option Refusal) → TakesBlock task was mid ns ws [] (cut_all (record_length_of reader.head.bytes) (concat blocks)) all → EndsSplitting was reader n all end
        → (records : List (List ℕ)) × InParts task was mid ns ws records records × WhereKnown was first.name (λ file. OnlySplits task.rule file records end)
    splits_end mid ns ws true None takes ends =
        let h = hold_first n blocks hold in
        let i = subst (λ (v : HeadView). InParts task was mid ns ws (cut_all (record_length_of v.bytes) (concat blocks)) (cut_all (record_length_of v.bytes) (concat blocks))) same_head takes in
        let fine = subst (λ (t : List ℕ). length t ≤ MAX_PARTS) i.numbers_are i.few in
        let all : n ≡ length first.left = ends ∙ ap (λ (r : ReaderSeen). length r.left) ready in (
          cut_all (record_length_of first.head.bytes) (concat blocks),
          i,
          known_both was first.name (StandsFor first) (λ file. HoldOnly file (take n first.left) blocks) (λ file. OnlySplits task.rule file (cut_all (record_length_of first.head.bytes) (concat blocks)) None)
              (λ file st ho. splits_all task.rule first file st new_one (head_some first.head.bytes is) n blocks h.within h.whole ho fine all) stands h.hold,
        )
    splits_end mid ns ws true (Some cause) takes ends =
        let h = hold_first n blocks hold in
        let i = subst (λ (v : HeadView). InParts task was mid ns ws (cut_all (record_length_of v.bytes) (concat blocks)) (cut_all (record_length_of v.bytes) (concat blocks))) same_head takes in
        let fine = subst (λ (t : List ℕ). length t ≤ MAX_PARTS) i.numbers_are i.few in
        let bad = subst (λ (r : ReaderSeen). WhereKnown was r.name (λ file. IsBadPiece file r.left n)) ready ends.2 in
        let number : reader.next + n ≡ n = omega (arith, ap (λ (r : ReaderSeen). r.next) ready, new_one.first) in
        let both = known_both was first.name (StandsFor first) (λ file. HoldOnly file (take n first.left) blocks) (λ file. StandsFor first file × HoldOnly file (take n first.left) blocks) (λ file st ho. (st, ho)) stands h.hold in (
          cut_all (record_length_of first.head.bytes) (concat blocks),
          i,
          known_both was first.name (λ file. StandsFor first file × HoldOnly file (take n first.left) blocks) (λ file. IsBadPiece file first.left n) (λ file. OnlySplits task.rule file (cut_all (record_length_of first.head.bytes) (concat blocks)) (Some cause))
              (λ file a b. splits_bad task.rule first file a.0 new_one (head_some first.head.bytes is) n blocks h.within h.whole a.1 fine cause (ends.0 ∙ ap BadChunk number) b) both bad,
        )
    splits_end mid ns ws false None takes ends = absurd (let clash : None ≡ Some TooManyParts = ends in cc)
    splits_end mid ns ws false (Some cause) takes ends =
        let h = hold_first n blocks hold in
        let split = subst (λ (v : HeadView). cut_all (record_length_of v.bytes) (concat blocks) ≡ takes.0 ++ takes.1 ∷ takes.2) same_head takes.3 in
        let is_many : cause ≡ TooManyParts = (let e : Some cause ≡ Some TooManyParts = ends in cc) in (
          takes.0,
          takes.4,
          known_both was first.name (StandsFor first) (λ file. HoldOnly file (take n first.left) blocks) (λ file. OnlySplits task.rule file takes.0 (Some cause))
              (λ file st ho. subst (λ (c : Refusal). OnlySplits task.rule file takes.0 (Some c)) (sym is_many) (splits_many task.rule first file st new_one (head_some first.head.bytes is) n blocks h.within h.whole ho takes.0 takes.2 takes.1 split takes.5)) stands h.hold,
        )

    -- what a failed call leaves, for all that the file may give
    pub leaves_splits : (now : Option FileMap) → LeavesBlock task was now [] (cut_all (record_length_of reader.head.bytes) (concat blocks))
        → WhereKnown was first.name (λ file. (records : List (List ℕ)) (refusal : Option Refusal) → SplitsTo task.rule file records refusal → LeavesParts (outputs_under task.stem task.end task.head task.rule records) was now)
    leaves_splits now l =
        let h = hold_first n blocks hold in
        let split = subst (λ (v : HeadView). cut_all (record_length_of v.bytes) (concat blocks) ≡ l.0 ++ l.1) same_head l.2 in
        known_both was first.name (StandsFor first) (λ file. HoldOnly file (take n first.left) blocks) (λ file. (records : List (List ℕ)) (refusal : Option Refusal) → SplitsTo task.rule file records refusal → LeavesParts (outputs_under task.stem task.end task.head task.rule records) was now)
        (λ file st ho. λ records refusal to.
        let b = splits_begin task.rule first file st new_one (head_some first.head.bytes is) n blocks h.within h.whole ho l.0 l.1 split l.3.few records refusal to in
        subst (λ (rs : List (List ℕ)). LeavesParts (outputs_under task.stem task.end task.head task.rule rs) was now) (sym b.1) (leaves_parts task was now l.0 b.0 l.3)) stands h.hold

    -- there is a record in what the file gives, if there is one among the blocks
    pub splits_one : 1 ≤ length (cut_all (record_length_of reader.head.bytes) (concat blocks))
        → WhereKnown was first.name (λ file. (records : List (List ℕ)) (refusal : Option Refusal) → SplitsTo task.rule file records refusal → records ≢ [])
    splits_one there =
        let h = hold_first n blocks hold in
        let xs = cut_all (record_length_of first.head.bytes) (concat blocks) in
        let f = first_one xs (subst (λ (v : HeadView). 1 ≤ length (cut_all (record_length_of v.bytes) (concat blocks))) same_head there) in
        known_both was first.name (StandsFor first) (λ file. HoldOnly file (take n first.left) blocks) (λ file. (records : List (List ℕ)) (refusal : Option Refusal) → SplitsTo task.rule file records refusal → records ≢ [])
        (λ file st ho. λ records refusal to none.
        let few : length (numbers_of_parts task.rule (f.0 ∷ [])) ≤ MAX_PARTS = omega arith in
        let b = splits_begin task.rule first file st new_one (head_some first.head.bytes is) n blocks h.within h.whole ho (f.0 ∷ []) f.1 f.2 few records refusal to in
        let clash : [] ≡ f.0 ∷ b.0 = sym none ∙ b.1 in
        absurd (cc)) stands h.hold

-- the same, if only these records are given
pub only_some : (rule : Rule) (was : Option FileMap) (name : List ℕ) (xs : List (List ℕ)) (end : Option Refusal) → WhereKnown was name (λ file. OnlySplits rule file xs end) → 1 ≤ length xs
    → WhereKnown was name (λ file. (records : List (List ℕ)) (refusal : Option Refusal) → SplitsTo rule file records refusal → records ≢ [])
only_some rule was name xs end known some =
    known_then was name (λ file. OnlySplits rule file xs end) (λ file. (records : List (List ℕ)) (refusal : Option Refusal) → SplitsTo rule file records refusal → records ≢ [])
    (λ file o. λ records refusal to none.
    let empty : xs ≡ [] = sym (o.only records refusal to).0 ∙ none in
    absurd (omega (arith, some, ap (λ (t : List (List ℕ)). length t) empty))) known

-- only these records are given
pub only_leaves : (task : SplitTask) (was now : Option FileMap) (name : List ℕ) (xs : List (List ℕ)) (end : Option Refusal) → WhereKnown was name (λ file. OnlySplits task.rule file xs end) → LeavesParts (outputs_under task.stem task.end task.head task.rule xs) was now
    → WhereKnown was name (λ file. (records : List (List ℕ)) (refusal : Option Refusal) → SplitsTo task.rule file records refusal → LeavesParts (outputs_under task.stem task.end task.head task.rule records) was now)
only_leaves task was now name xs end known left =
    known_then was name (λ file. OnlySplits task.rule file xs end) (λ file. (records : List (List ℕ)) (refusal : Option Refusal) → SplitsTo task.rule file records refusal → LeavesParts (outputs_under task.stem task.end task.head task.rule records) was now)
    (λ file o. λ records refusal to. subst (λ (rs : List (List ℕ)). LeavesParts (outputs_under task.stem task.end task.head task.rule rs) was now) (sym (o.only records refusal to).0) left) known

pub prefixes_leave : (task : SplitTask) (was now : Option FileMap) (xs : List (List ℕ)) → LeavesPrefixes task was now xs → LeavesParts (outputs_under task.stem task.end task.head task.rule xs) was now
prefixes_leave task was now xs l = subst (λ (rs : List (List ℕ)). LeavesParts (outputs_under task.stem task.end task.head task.rule rs) was now) (append-nil xs) (leaves_parts task was now xs [] l)

-- parts that were stopped are as they stood
pub stopped_leave : (task : SplitTask) (was mid now : Option FileMap) (ns : List ℕ) (ws : List WriterSeen) (xs : List (List ℕ)) → InParts task was mid ns ws xs xs → now ≡ with_files was (all_stopped (outputs_under task.stem task.end task.head task.rule xs)) → LeavesParts (outputs_under task.stem task.end task.head task.rule xs) was now
stopped_leave task was mid now ns ws xs i is =
    let same : now ≡ mid = is ∙ ap (with_files was) (stopped_texts task xs (numbers_of_parts task.rule xs)) ∙ ap (λ (ms : List ℕ). with_files was (map (standing task (bytes_at task xs)) ms)) (sym i.numbers_are) ∙ sym i.held in
    prefixes_leave task was now xs (leaves_here task was mid ns ws xs xs i [] (sym (append-nil xs)) now same)

-- the outputs of a file
pub files_are : (task : SplitTask) (first : ReaderSeen) (file : List ℕ) (records : List (List ℕ)) → task.head ≡ plain_of first.head.bytes → StandsFor first file → outputs_under task.stem task.end task.head task.rule records ≡ part_files task.stem task.end task.rule file records
files_are task first file records same st = ap (λ (h : List ℕ). outputs_under task.stem task.end h task.rule records) (same ∙ ap (λ (v : HeadView). plain_of v.bytes) st.head)

pub err_if : {T E P : Type 0} (Q : E → Type 0) (r : Result T E) → ((e : E) → P → Q e) → OnErr r P → IfErr r Q
err_if Q (Ok x) to p = tt
err_if Q (Err e) to p = to e p

-- a reader with a crew has left what it would have left without
pub left_frame : (first ready : ReaderSeen) (buffers : ℕ) (old new : Outside) → ready ≡ record first { buffers = buffers } → ReadsAndWrites (bytes_left ready) old new → ReadsAndWrites (bytes_left first) old new
left_frame first ready buffers old new is frame = subst (λ (n : ℕ). ReadsAndWrites n old new) (ap bytes_left is) frame
