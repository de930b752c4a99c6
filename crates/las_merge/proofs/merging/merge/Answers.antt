use Rattle.laz_forms.proofs.Public.{if_err}
use Rattle.std.proofs.Common.{◌≡◌, ℕ, ◌^◌, ◌<◌, ◌≤◌, List, [], Option, Some, length, sym, ◌∙◌, ap, subst, arith, ◌*◌}
use Rattle.std.specs.Prelude.{string_bytes}
use Rattle.std.specs.FinMap as finmap
use Rattle.std.specs.declared.alloc.Global.{Global}
use Rattle.std.proofs.lemmas.List.{length-map}
use Rattle.las_header.specs.Heads.{HeadView}
use Rattle.las_outside.specs.Files.{FileMap, with_file}
use Rattle.las_outside.specs.Outside.{Outside}
use Rattle.laz_writer.proofs.Public.{held_text}
use Rattle.las_merge.specs.Asking.{asked_of_all}
use Rattle.las_merge.specs.Copying.{output_of_merge}
use Rattle.las_merge.specs.Inputs.{names_of}
use Rattle.las_merge.specs.Opening.{EndsOpening, InputSeen, first_read, input_names, points_read}
use Rattle.las_merge.specs.Outcomes.{SaysMerging}
use Rattle.las_merge.proofs.Asked.{other_asked}
use Rattle.las_merge.proofs.MergeOutcomes.{err_is, says_beginning, says_filling, says_opening}
use Rattle.las_merge.proofs.Whole.{head_first, other_names, names_are, readers_open, readers_other}
use Rattle.las_merge.proofs.Ends.{AreOther}
use Rattle.las_merge.proofs.merging.merge.Given.{Over}
use Rattle.las_merge.proofs.merging.merge.Goals.{After-head}
use Rattle.las_merge.proofs.merging.merge.Goals as goal

-- what stands when the inputs were opened and counted
module _ (g : Over) (c : After-head g) where
  abbrev old : Outside
  old = g.F.Files.seen c.args.files.now

  abbrev mid : Outside
  mid = g.F.Files.seen c.open_inputs.new.files

  abbrev names : List (List ℕ)
  names = names_of c.args.inputs.now

  abbrev readers : List InputSeen
  readers = c.in_ok-opened.opened.items

  abbrev head : List ℕ
  head = c.head.result.now.bytes

  all : length readers ≡ length names
  all = omega (arith, c.in_ok-opened.ensures.all, length-map c.args.inputs.now (string_bytes {Z = Global}))

  some : 1 ≤ length names
  some = omega (arith, c.requires.some, length-map c.args.inputs.now (string_bytes {Z = Global}))

  head_is : head ≡ first_read readers
  head_is = ap (λ (h : HeadView). h.bytes) c.head.ensures
      ∙ head_first readers c.index.result.now (omega (arith, all, some)) c.index.ensures

  few : points_read readers < 2 ^ 32
  few = subst (λ (rs : List InputSeen). points_read rs < 2 ^ 32) c.deref.ensures.value c.in_ok-most.ensures.small

  other : AreOther names c.args.output.now
  other = other_names c.args.inputs.now c.args.output.now c.requires.names

pub join_and_finish-requires-clause-opened : goal.join_and_finish-requires-clause-opened
join_and_finish-requires-clause-opened g c κs within =
    let k = (goal.at.join_and_finish-requires-clause-opened g c).After-head in
    readers_open (old g k).held (names g k) (readers g k) c.in_ok-opened.ensures.opened (all g k) c.args.output.now
    (head g k) c.args.chunk (some g k) (head_is g k) (other g k) (mid g k) (g.F.Files.seen c.begin.new.files)
    c.in_ok-writer.writer c.open_inputs.ensures.reads.held c.in_ok-writer.ensures.stands

pub join_and_finish-requires-clause-names : goal.join_and_finish-requires-clause-names
join_and_finish-requires-clause-names g c κs within =
    let k = (goal.at.join_and_finish-requires-clause-names g c).After-head in
    readers_other (old g k).held (names g k) (readers g k) c.in_ok-opened.ensures.opened (all g k) c.args.output.now
    (head g k) c.args.chunk (some g k) (head_is g k) (other g k) c.in_ok-writer.writer.name
    c.in_ok-writer.ensures.stands.named

pub returns-in_err-opened-clause-says : goal.returns-in_err-opened-clause-says
returns-in_err-opened-clause-says g c =
    let old = g.F.Files.seen c.args.files.now in
    let new = g.F.Files.seen c.open_inputs.new.files in
    let names = names_of c.args.inputs.now in
    let e = c.in_err-opened.field-0.0 in
    err_is (SaysMerging names c.args.output.now c.args.chunk old new) c.from_residual.result e
    c.from_residual.ensures.1
    (says_opening names c.args.output.now c.args.chunk old new c.open_inputs.ensures.reads e
    c.in_err-opened.ensures.ends)

pub returns-in_err-most-clause-says : goal.returns-in_err-most-clause-says
returns-in_err-most-clause-says g c =
    let old = g.F.Files.seen c.args.files.now in
    let new = g.F.Files.seen c.open_inputs.new.files in
    let names = names_of c.args.inputs.now in
    let readers = c.in_ok-opened.opened.items in
    let all : length readers ≡ length names = omega
    (arith, c.in_ok-opened.ensures.all, length-map c.args.inputs.now (string_bytes {Z = Global})) in
    let many : 2 ^ 32 ≤ points_read readers = subst (λ (rs : List InputSeen). 2 ^ 32 ≤ points_read rs)
    c.deref.ensures.value c.in_err-most.ensures.many.1 in
    let e = c.in_err-most.field-0.0 in
    err_is (SaysMerging names c.args.output.now c.args.chunk old new) c.from_residual-in_err-most.result e
    c.from_residual-in_err-most.ensures.1
    (says_opening names c.args.output.now c.args.chunk old new c.open_inputs.ensures.reads e
    (subst (EndsOpening names old new) (sym c.in_err-most.ensures.many.0)
    (readers, c.in_ok-opened.ensures.opened, all, many)))

pub returns-in_err-writer-clause-says : goal.returns-in_err-writer-clause-says
returns-in_err-writer-clause-says g c =
    let k = (goal.at.returns-in_err-writer-clause-says g c).After-head in
    let now = g.F.Files.seen c.begin.new.files in
    let e = c.in_err-writer.field-0.0 in
    err_is (SaysMerging (names g k) c.args.output.now c.args.chunk (old g k) now) c.from_residual-in_err-writer.result e
    c.from_residual-in_err-writer.ensures.1
    (says_beginning (names g k) c.args.output.now c.args.chunk (old g k) (readers g k) c.in_ok-opened.ensures.opened
    (all g k) (head g k) (some g k) (head_is g k) (few g k) (mid g k) now c.open_inputs.ensures.reads
    c.begin.ensures.writes e c.in_err-writer.ensures.ends)

pub returns-clause-says : goal.returns-clause-says
returns-clause-says g c =
    let k = (goal.at.returns-clause-says g c).After-head in
    let out = output_of_merge c.args.output.now (head g k) c.args.chunk in
    let w = c.in_ok-writer.writer in
    let s = c.in_ok-writer.ensures.stands in
    says_filling (names g k) c.args.output.now c.args.chunk (old g k) (readers g k) c.in_ok-opened.ensures.opened
    (all g k) (head g k) (some g k) (head_is g k) (few g k) (mid g k) (g.F.Files.seen c.begin.new.files)
    c.open_inputs.ensures.reads c.begin.ensures.writes c.in_ok-opened.ensures.calm c.in_ok-writer.ensures.calm
    (other g k) w s (g.F.Files.seen c.join_and_finish.new.files) c.join_and_finish.result (c.join_and_finish.ensures.finished (mid g k) out s)
    (c.join_and_finish.ensures.ends (mid g k) out s) c.join_and_finish.ensures.calm c.join_and_finish.ensures.later

pub returns-in_err-opened-clause-asked : goal.returns-in_err-opened-clause-asked
returns-in_err-opened-clause-asked g c asked bound known is = omega (arith, c.open_inputs.ensures.asked known is)

pub returns-in_err-most-clause-asked : goal.returns-in_err-most-clause-asked
returns-in_err-most-clause-asked g c asked bound known is = omega (arith, c.open_inputs.ensures.asked known is)

pub returns-in_err-writer-clause-asked : goal.returns-in_err-writer-clause-asked
returns-in_err-writer-clause-asked g c asked bound known is =
    omega (arith, c.open_inputs.ensures.asked known is, c.begin.ensures.writes.asked)

pub returns-clause-asked : goal.returns-clause-asked
returns-clause-asked g c asked bound known is =
    let k = (goal.at.returns-clause-asked g c).After-head in
    let now = g.F.Files.seen c.begin.new.files in
    let name = c.args.output.now in
    let written = held_text (mid g k) now c.in_ok-writer.writer _ [] c.in_ok-writer.ensures.stands in
    let held : now.held ≡ Some (finmap.insert known name written.0) =
    ap (λ (o : Outside). o.held) written.1 ∙ ap (λ (h : Option FileMap). with_file h name written.0)
    (c.open_inputs.ensures.reads.held ∙ is) in
    let filled = c.join_and_finish.ensures.asked asked bound (finmap.insert known name written.0) held in
    let same : asked_of_all asked (finmap.insert known name written.0) (input_names (readers g k))
    ≡ asked_of_all asked known (names g k) =
    ap (asked_of_all asked (finmap.insert known name written.0))
    (names_are (old g k).held (names g k) (readers g k) c.in_ok-opened.ensures.opened (all g k))
    ∙ other_asked asked known name written.0 (names g k) (other g k) in
    omega (arith, c.open_inputs.ensures.asked known is, c.begin.ensures.writes.asked, filled, same)

pub join_and_finish-requires-clause-fresh : goal.join_and_finish-requires-clause-fresh
join_and_finish-requires-clause-fresh g c κs within = (c.in_ok-writer.ensures.fresh.0, c.in_ok-writer.ensures.fresh.2)

pub join_and_finish-requires-clause-stands : goal.join_and_finish-requires-clause-stands
join_and_finish-requires-clause-stands g c κs within = (
  g.F.Files.seen c.open_inputs.new.files,
  output_of_merge c.args.output.now c.head.result.now.bytes c.args.chunk,
  c.in_ok-writer.ensures.stands,
)

pub join_and_finish-requires-clause-room : goal.join_and_finish-requires-clause-room
join_and_finish-requires-clause-room g c κs within =
    let readers : List InputSeen = c.in_ok-opened.opened.items in
    let w = c.in_ok-writer.writer in
    let most : w.most ≡ points_read readers =
    c.in_ok-writer.ensures.fresh.1 ∙ c.in_ok-most.ensures.points
    ∙ ap (λ (rs : List InputSeen). points_read rs) c.deref.ensures.value in
    subst (λ (n : ℕ). w.size * n ≤ w.size * w.most) most (omega arith)

pub returns-in_err-opened-clause-calm_kept : goal.returns-in_err-opened-clause-calm_kept
returns-in_err-opened-clause-calm_kept g c = if_err _ c.from_residual.result _ c.from_residual.ensures.1 c.in_err-opened.ensures.calm_kept
