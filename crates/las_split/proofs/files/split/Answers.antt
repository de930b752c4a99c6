use Rattle.std.proofs.Common.{◌≡◌, ℕ, ◌*◌, Bool, List, [], Option, Some, None, refl, sym, ◌∙◌, ap, subst}
use Rattle.std.specs.Prelude.{unwrap_or, string_bytes}
use Rattle.std.specs.List.{concat}
use Rattle.std.proofs.lemmas.Result.{IfOk-weaker, IfErr-weaker, on_ok_weaker, IfOk-from_err}
use Rattle.las_header.specs.declared.refusal.Refusal.{Refusal}
use Rattle.las_header.specs.Fields.{record_length_of}
use Rattle.las_header.specs.Heads.{HeadView, IsHead}
use Rattle.las_header.specs.Plain.{cut_all, plain_of}
use Rattle.las_outside.specs.Files.{FileMap, WhereKnown}
use Rattle.las_outside.specs.Frames.{IsCalm}
use Rattle.laz_forms.specs.declared.fault.Fault.TheVariants.{Memory}
use Rattle.laz_reader.specs.Asking.{ReadsAndWrites, bytes_left}
use Rattle.laz_reader.specs.Reading.{ReaderSeen, StandsFor}
use Rattle.laz_writer.specs.Writing.{WriterSeen}
use Rattle.laz_forms.proofs.Public.{known_both, known_then}
use Rattle.laz_reader.proofs.Public.{then_writes}
use Rattle.laz_file.specs.Copying.{HoldFirst}
use Rattle.laz_file.specs.Endings.{LeavesOf, OutputFile, Product}
use Rattle.laz_file.proofs.Public.{cause_since, ends_err, left_before, stands_ready}
use Rattle.las_split.specs.Files.{with_files}
use Rattle.las_split.specs.Outputs.{LeavesParts, Splits, all_finished, all_stopped, outputs_under, part_files}
use Rattle.las_split.specs.Parts.{numbers_of_parts}
use Rattle.las_split.specs.Sorting.{EndsSplitting, InParts, TakesBlock, SplitTask, split_task}
use Rattle.las_split.specs.Splitting.{OnlySplits, SplitsTo}
use Rattle.las_split.proofs.Making.{ends_fault, ends_finishing, ends_refused}
use Rattle.las_split.proofs.WholeSplits.{files_are, left_frame, leaves_splits, only_leaves, only_some}
use Rattle.las_split.proofs.WholeSplits.{prefixes_leave, splits_end, splits_one, stopped_leave, err_if}
use Rattle.las_split.proofs.files.split.Given.{Over}
use Rattle.las_split.proofs.files.split.Goals.{Start, After-split_records}
use Rattle.las_split.proofs.files.split.Goals as goal

-- no file was touched
module _ (g : Over) (c : Start g) where
  abbrev Makes : (file : List ℕ) → Product → Type 0
  Makes = Splits (string_bytes c.args.output.now.stem) (string_bytes c.args.output.now.end) c.args.rule.now

  untouched : LeavesOf Makes c.args.reader.name (g.F.Files.seen c.args.files.now) (g.F.Files.seen c.args.files.now)
  untouched =
      let files = g.F.Files.seen c.args.files.now in
      left_before Makes c.args.reader.name files files (StandsFor c.args.reader) c.requires.stands refl

pub returns-in_err-crew-clause-ends : goal.returns-in_err-crew-clause-ends
returns-in_err-crew-clause-ends g c =
    let k = (goal.at.returns-in_err-crew-clause-ends g c).Start in
    let files = g.F.Files.seen c.args.files.now in
    ends_err (Makes g k) c.args.reader.name files files _ c.from_residual.result Memory c.from_residual.ensures.1
    (untouched g k)

pub returns-in_err-plain-clause-ends : goal.returns-in_err-plain-clause-ends
returns-in_err-plain-clause-ends g c =
    let k = (goal.at.returns-in_err-plain-clause-ends g c).Start in
    let files = g.F.Files.seen c.args.files.now in
    ends_err (Makes g k) c.args.reader.name files files _ c.from_residual-in_err-plain.result Memory
    c.from_residual-in_err-plain.ensures.1 (untouched g k)

pub split_records-requires-clause-reads : goal.split_records-requires-clause-reads
split_records-requires-clause-reads g c κs lives =
    let old = (g.F.Files.seen c.args.files.now).held in
    let first = c.args.reader in
    let reader = c.crew.new.self in
    let ready = c.in_ok-crew.ensures.kept in
    subst (λ (name : List ℕ). WhereKnown old name (StandsFor reader)) (sym (ap (λ (r : ReaderSeen). r.name) ready))
    (known_then old first.name (StandsFor first) (StandsFor reader)
    (λ file st. stands_ready first reader (2 * c.hands-hands.result) file ready st) c.requires.stands)

-- what stands when the records were split, or could not be
module _ (g : Over) (c : After-split_records g) where
  abbrev old : Option FileMap
  old = (g.F.Files.seen c.args.files.now).held

  abbrev mid : Option FileMap
  mid = (g.F.Files.seen c.split_records.new.files).held

  abbrev first : ReaderSeen
  first = c.args.reader

  abbrev reader : ReaderSeen
  reader = c.crew.new.self

  abbrev buffers : ℕ
  buffers = 2 * c.hands-hands.result

  abbrev task : SplitTask
  task = split_task c.args.output.now (unwrap_or c.in_ok-plain.plain reader.head) c.args.rule.now

  heads : reader.head ≡ first.head
  heads = ap (λ (r : ReaderSeen). r.head) c.in_ok-crew.ensures.kept

  head : IsHead first.head.bytes
  head = subst (λ (h : HeadView). IsHead h.bytes) heads c.plain_head.ensures.head

  same : task.head ≡ plain_of first.head.bytes
  same = c.in_ok-plain.ensures.plain.bytes ∙ ap (λ (h : HeadView). plain_of h.bytes) heads

  frame : ReadsAndWrites (bytes_left first) (g.F.Files.seen c.args.files.now) (g.F.Files.seen c.split_records.new.files)
  frame = left_frame first reader buffers _ _ c.in_ok-crew.ensures.kept c.split_records.ensures.frame

  -- P of what the file gives
  abbrev Given : (P : (file : List ℕ) → (records : List (List ℕ)) → Type 0) → Type 0
  Given P =
      WhereKnown old first.name (λ file. (records : List (List ℕ)) (refusal : Option Refusal)
      → SplitsTo task.rule file records refusal → P file records)

  -- the parts are left so, by the names that they have for the file
  left_as : (now : Option FileMap)
      → Given (λ file records. LeavesParts (outputs_under task.stem task.end task.head task.rule records) old now)
      → Given (λ file records. LeavesParts (part_files task.stem task.end task.rule file records) old now)
  left_as now left =
      known_both old first.name (StandsFor first)
      (λ file. (records : List (List ℕ)) (refusal : Option Refusal) → SplitsTo task.rule file records refusal
      → LeavesParts (outputs_under task.stem task.end task.head task.rule records) old now)
      (λ file. (records : List (List ℕ)) (refusal : Option Refusal) → SplitsTo task.rule file records refusal
      → LeavesParts (part_files task.stem task.end task.rule file records) old now)
      (λ file st l. λ records refusal to.
      subst (λ (ps : List OutputFile). LeavesParts ps old now) (files_are task first file records same st)
      (l records refusal to)) c.requires.stands left

  -- the records that the file gives, in their parts
  all_given : (ns : List ℕ) (ws : List WriterSeen) (read end : Option Refusal)
      → (n : ℕ) × (blocks : List (List ℕ)) × (all : Bool) × HoldFirst old reader n blocks
      × TakesBlock task old mid ns ws [] (cut_all (record_length_of reader.head.bytes) (concat blocks)) all
      × EndsSplitting old reader n all read
      → read ≡ end
      → (records : List (List ℕ)) × InParts task old mid ns ws records records
      × WhereKnown old first.name (λ file. OnlySplits task.rule file records end)
  all_given ns ws read end d is =
      splits_end task old first reader buffers c.in_ok-crew.ensures.kept c.requires.new.whole head c.requires.stands
      d.0 d.1 d.3 mid ns ws d.2 end d.4 (subst (EndsSplitting old reader d.0 d.2) is d.5)

  -- if these are all
  module _ (records : List (List ℕ)) (end : Option Refusal)
      (only : WhereKnown old first.name (λ file. OnlySplits task.rule file records end)) (now : Option FileMap) where
    only_left : LeavesParts (outputs_under task.stem task.end task.head task.rule records) old now
        → Given (λ file records. LeavesParts (part_files task.stem task.end task.rule file records) old now)
    only_left left = left_as now (only_leaves task old now first.name records end only left)

    only_texts : (texts : List OutputFile → List (List ℕ × List ℕ))
        → now ≡ with_files old (texts (outputs_under task.stem task.end task.head task.rule records))
        → WhereKnown old first.name (λ file. (records : List (List ℕ)) × OnlySplits task.rule file records end
        × (now ≡ with_files old (texts (part_files task.stem task.end task.rule file records))))
    only_texts texts is =
        known_both old first.name (StandsFor first) (λ file. OnlySplits task.rule file records end)
        (λ file. (records : List (List ℕ)) × OnlySplits task.rule file records end
        × (now ≡ with_files old (texts (part_files task.stem task.end task.rule file records))))
        (λ file st o. (
          records,
          o,
          is ∙ ap (λ (ps : List OutputFile). with_files old (texts ps)) (files_are task first file records same st),
        )) c.requires.stands only

pub returns-in_err-parts-clause-ends : goal.returns-in_err-parts-clause-ends
returns-in_err-parts-clause-ends g c =
    let k = (goal.at.returns-in_err-parts-clause-ends g c).After-split_records in
    let t = task g k in
    let h = c.in_err-parts.ensures in
    let p = h.left in
    ends_fault t.stem t.end t.rule c.args.reader.name (g.F.Files.seen c.args.files.now)
    (g.F.Files.seen c.split_records.new.files) _ c.from_residual-in_err-parts.result c.in_err-parts.field-0.0
    c.from_residual-in_err-parts.ensures.1 h.cause
    (left_as g k (mid g k)
    (leaves_splits t (old g k) c.args.reader c.crew.new.self (buffers g k) c.in_ok-crew.ensures.kept
    c.requires.new.whole (head g k) c.requires.stands p.0 p.1 p.2 (mid g k) p.3))
    (λ is.
    let q = h.some is in
    splits_one t (old g k) c.args.reader c.crew.new.self (buffers g k) c.in_ok-crew.ensures.kept c.requires.new.whole
    (head g k) c.requires.stands q.0 q.1 q.2 q.3)

pub finish_all-requires-clause-parts : goal.finish_all-requires-clause-parts
finish_all-requires-clause-parts g c κs lives =
    let k = (goal.at.finish_all-requires-clause-parts g c).After-split_records in
    let p = c.in_ok-parts.parts in
    let e = all_given g k p.numbers p.writers.items c.in_ok-parts.end None c.in_ok-parts.ensures.takes c.in-None.is in
    (task g k, old g k, e.0, e.1)

pub returns-in-None-clause-ends : goal.returns-in-None-clause-ends
returns-in-None-clause-ends g c =
    let k = (goal.at.returns-in-None-clause-ends g c).After-split_records in
    let t = task g k in
    let p = c.in_ok-parts.parts in
    let e = all_given g k p.numbers p.writers.items c.in_ok-parts.end None c.in_ok-parts.ensures.takes c.in-None.is in
    let before = g.F.Files.seen c.args.files.now in
    let between = g.F.Files.seen c.split_records.new.files in
    let after = g.F.Files.seen c.finish_all.new.files in
    let h = c.finish_all.ensures in
    let calm = c.in_ok-parts.ensures.calm in
    ends_finishing t.stem t.end t.rule c.args.reader.name before after _ c.finish_all.result
    (IfOk-weaker c.finish_all.result _ _ (λ numbers x. only_texts g k e.0 None e.2 after.held all_finished x.1)
    (h.finished t before.held e.0 e.1))
    (on_ok_weaker c.finish_all.result
    (λ (k : IsCalm between after). record { reads = k.reads ∙ calm.reads; writes = k.writes ∙ calm.writes }) h.calm)
    (IfErr-weaker c.finish_all.result _ _
    (λ fault k. cause_since before between after fault calm.reads calm.writes k) h.cause)
    (err_if _ c.finish_all.result (λ fault l. only_left g k e.0 None e.2 after.held l) (h.left t before.held e.0 e.1))
    (IfErr-weaker c.finish_all.result _ _
    (λ fault k is. only_some t.rule before.held c.args.reader.name e.0 None e.2 (k is))
    (h.some t before.held e.0 e.1))

pub returns-in-None-clause-numbers : goal.returns-in-None-clause-numbers
returns-in-None-clause-numbers g c =
    let k = (goal.at.returns-in-None-clause-numbers g c).After-split_records in
    let rule = c.args.rule.now in
    let p = c.in_ok-parts.parts in
    let e = all_given g k p.numbers p.writers.items c.in_ok-parts.end None c.in_ok-parts.ensures.takes c.in-None.is in
    IfOk-weaker c.finish_all.result _ _
    (λ numbers x.
    known_then (old g k) c.args.reader.name (λ file. OnlySplits rule file e.0 None)
    (λ file. (records : List (List ℕ)) × OnlySplits rule file records None
    × (numbers.items ≡ numbers_of_parts rule records)) (λ file o. (e.0, o, x.0)) e.2)
    (c.finish_all.ensures.finished (task g k) (old g k) e.0 e.1)

pub stop_all-requires-clause-parts : goal.stop_all-requires-clause-parts
stop_all-requires-clause-parts g c κs lives =
    let k = (goal.at.stop_all-requires-clause-parts g c).After-split_records in
    let p = c.in_ok-parts.parts in
    let e = all_given g k p.numbers p.writers.items c.in_ok-parts.end (Some c.in-Some.cause) c.in_ok-parts.ensures.takes
    c.in-Some.is in
    (task g k, old g k, e.0, e.1)

pub returns-in_err-stop_all-in-Some-clause-ends : goal.returns-in_err-stop_all-in-Some-clause-ends
returns-in_err-stop_all-in-Some-clause-ends g c =
    let k = (goal.at.returns-in_err-stop_all-in-Some-clause-ends g c).After-split_records in
    let t = task g k in
    let p = c.in_ok-parts.parts in
    let end = Some c.in-Some.cause in
    let e = all_given g k p.numbers p.writers.items c.in_ok-parts.end end c.in_ok-parts.ensures.takes c.in-Some.is in
    let before = g.F.Files.seen c.args.files.now in
    let after = g.F.Files.seen c.stop_all.new.files in
    let h = c.in_err-stop_all-in-Some.ensures in
    let calm = c.in_ok-parts.ensures.calm in
    let fault = c.in_err-stop_all-in-Some.field-0.0 in
    ends_fault t.stem t.end t.rule c.args.reader.name before after _ c.from_residual-in_err-stop_all-in-Some.result
    fault c.from_residual-in_err-stop_all-in-Some.ensures.1
    (cause_since before (g.F.Files.seen c.split_records.new.files) after fault calm.reads calm.writes h.cause)
    (only_left g k e.0 end e.2 after.held
    (prefixes_leave t before.held after.held e.0 (h.left t before.held e.0 e.1)))
    (λ is. only_some t.rule before.held c.args.reader.name e.0 end e.2 (h.some t before.held e.0 e.1 is))

pub returns-clause-ends : goal.returns-clause-ends
returns-clause-ends g c =
    let k = (goal.at.returns-clause-ends g c).After-split_records in
    let t = task g k in
    let p = c.in_ok-parts.parts in
    let end = Some c.in-Some.cause in
    let e = all_given g k p.numbers p.writers.items c.in_ok-parts.end end c.in_ok-parts.ensures.takes c.in-Some.is in
    let before = g.F.Files.seen c.args.files.now in
    let after = g.F.Files.seen c.stop_all.new.files in
    let s = c.in_ok-stop_all-in-Some.ensures.stopped t before.held e.0 e.1 in
    ends_refused t.stem t.end t.rule c.args.reader.name before after (Unit {0}) c.in-Some.cause
    (only_texts g k e.0 end e.2 after.held all_stopped s)
    (only_left g k e.0 end e.2 after.held
    (stopped_leave t before.held (mid g k) after.held p.numbers p.writers.items e.0 e.1 s))

pub returns-in_err-parts-clause-frame : goal.returns-in_err-parts-clause-frame
returns-in_err-parts-clause-frame g c = frame g (goal.at.returns-in_err-parts-clause-frame g c).After-split_records

pub returns-in-None-clause-frame : goal.returns-in-None-clause-frame
returns-in-None-clause-frame g c =
    let k = (goal.at.returns-in-None-clause-frame g c).After-split_records in
    then_writes _ _ _ _ (frame g k) c.finish_all.ensures.writes

pub returns-in_err-stop_all-in-Some-clause-frame : goal.returns-in_err-stop_all-in-Some-clause-frame
returns-in_err-stop_all-in-Some-clause-frame g c =
    let k = (goal.at.returns-in_err-stop_all-in-Some-clause-frame g c).After-split_records in
    then_writes _ _ _ _ (frame g k) c.stop_all.ensures.writes

pub returns-clause-frame : goal.returns-clause-frame
returns-clause-frame g c =
    then_writes _ _ _ _ (frame g (goal.at.returns-clause-frame g c).After-split_records) c.stop_all.ensures.writes

pub returns-in_err-crew-clause-numbers : goal.returns-in_err-crew-clause-numbers
returns-in_err-crew-clause-numbers g c = IfOk-from_err c.from_residual.result _ c.from_residual.ensures.0

pub returns-in_err-plain-clause-numbers : goal.returns-in_err-plain-clause-numbers
returns-in_err-plain-clause-numbers g c =
    IfOk-from_err c.from_residual-in_err-plain.result _ c.from_residual-in_err-plain.ensures.0

pub returns-in_err-parts-clause-numbers : goal.returns-in_err-parts-clause-numbers
returns-in_err-parts-clause-numbers g c =
    IfOk-from_err c.from_residual-in_err-parts.result _ c.from_residual-in_err-parts.ensures.0

pub returns-in_err-stop_all-in-Some-clause-numbers : goal.returns-in_err-stop_all-in-Some-clause-numbers
returns-in_err-stop_all-in-Some-clause-numbers g c =
    IfOk-from_err c.from_residual-in_err-stop_all-in-Some.result _ c.from_residual-in_err-stop_all-in-Some.ensures.0
