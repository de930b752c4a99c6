use Rattle.std.proofs.Common.{◌≡◌, ℕ, false, List, ◌++◌, length, None, Option, ◌∙◌, ap, subst}
use Rattle.std.specs.List.{concat}
use Rattle.std.proofs.lemmas.Result.{IfOk-weaker, IfErr-weaker, on_ok_weaker}
use Rattle.las_outside.specs.Drafts.{IsUnfinished}
use Rattle.las_outside.specs.Files.{FileMap}
use Rattle.las_outside.specs.Outside.{Outside, with_bytes}
use Rattle.las_outside.proofs.Public.{only_writes-trans, on_err}
use Rattle.laz_file.specs.Copying.{LeavesUnfinished}
use Rattle.laz_forms.specs.Outputs.{Output, draft_of, finished, patches_of}
use Rattle.laz_writer.specs.Writing.{Stops}
use Rattle.laz_file.proofs.Public.{create_left}
use Rattle.las_make.specs.Made.{made_file, made_head, made_records}
use Rattle.las_make.specs.Making.{LeavesPlain}
use Rattle.las_make.proofs.Written.{counted_none, counted_plain, counted_size, end_left, head_made}
use Rattle.las_make.proofs.plain.write_plain.Given.{Over}
use Rattle.las_make.proofs.plain.write_plain.Goals.{After-with_counts-head}
use Rattle.las_make.proofs.plain.write_plain.Goals as goal

pub create-requires-clause-plain : goal.create-requires-clause-plain
create-requires-clause-plain g c =
    counted_plain c.args.settings c.requires.range c.in_ok-blank_head.field-0.bytes c.with_counts-head.result.bytes
    c.count_records.result c.in_ok-blank_head.ensures c.count_records.ensures c.with_counts-head.ensures.bytes
    c.with_counts-head.ensures.kept

pub create-requires-clause-none : goal.create-requires-clause-none
create-requires-clause-none g c =
    counted_none c.args.settings c.requires.range c.in_ok-blank_head.field-0.bytes c.with_counts-head.result.bytes
    c.count_records.result c.in_ok-blank_head.ensures c.count_records.ensures c.with_counts-head.ensures.bytes
    c.with_counts-head.ensures.kept

-- what stands when the head was made
module _ (g : Over) (c : After-with_counts-head g) where
  abbrev old : Outside
  old = g.F.Files.seen c.args.files.now

  abbrev out : Output
  out = record { name = c.args.output.now; head = c.with_counts-head.result.bytes; chunk = None; counted = false }

  abbrev records : List ℕ
  records = concat (made_records c.args.settings)

  made : c.with_counts-head.result.bytes ≡ made_head c.args.settings
  made = head_made c.args.settings c.requires.range c.in_ok-blank_head.field-0.bytes c.with_counts-head.result.bytes
      c.count_records.result c.in_ok-blank_head.ensures c.count_records.ensures c.with_counts-head.ensures.bytes

  leaves : (new : Option FileMap) → LeavesUnfinished out records old.held new
      → LeavesPlain c.args.output.now c.args.settings old.held new
  leaves new left = subst (λ (h : List ℕ).
      let o : Output = record { name = c.args.output.now; head = h; chunk = None; counted = false } in
      LeavesUnfinished o records old.held new) made left

pub returns-in_err-writer-clause-left : goal.returns-in_err-writer-clause-left
returns-in_err-writer-clause-left g c =
    let k = (goal.at.returns-in_err-writer-clause-left g c).After-with_counts-head in
    let new = g.F.Files.seen c.create.new.files in
    on_err c.from_residual-in_err-writer.result
    (leaves g k new.held (create_left (old g k) new (out g k) c.in_err-writer.field-0.0 (records g k)
    c.in_err-writer.ensures.stopped))

pub push_records-requires-clause-size : goal.push_records-requires-clause-size
push_records-requires-clause-size g c κs within =
    c.in_ok-writer.ensures.stands.size
    ∙ counted_size c.args.settings c.requires.range c.in_ok-blank_head.field-0.bytes c.with_counts-head.result.bytes
    c.count_records.result c.in_ok-blank_head.ensures c.count_records.ensures c.with_counts-head.ensures.bytes
    c.with_counts-head.ensures.kept

pub returns-in_err-push_records-clause-left : goal.returns-in_err-push_records-clause-left
returns-in_err-push_records-clause-left g c =
    let k = (goal.at.returns-in_err-push_records-clause-left g c).After-with_counts-head in
    on_err c.from_residual-in_err-push_records.result
    (leaves g k (g.F.Files.seen c.push_records.new.files).held
    (c.in_err-push_records.ensures.left (old g k) (out g k) c.in_ok-writer.ensures.stands))

pub finish-requires-clause-stands : goal.finish-requires-clause-stands
finish-requires-clause-stands g c κs within =
    let k = (goal.at.finish-requires-clause-stands g c).After-with_counts-head in (
      old g k,
      out g k,
      records g k,
      c.in_ok-push_records.ensures.stands (old g k) (out g k) c.in_ok-writer.ensures.stands,
    )

pub returns-clause-written : goal.returns-clause-written
returns-clause-written g c =
    let k = (goal.at.returns-clause-written g c).After-with_counts-head in
    let stands = c.in_ok-push_records.ensures.stands (old g k) (out g k) c.in_ok-writer.ensures.stands in
    on_ok_weaker c.finish.result
    (λ written. written ∙ ap (λ (h : List ℕ). with_bytes (old g k) c.args.output.now (h ++ records g k)) (made g k))
    (c.finish.ensures.finished (old g k) (out g k) (records g k) stands)

pub returns-clause-length : goal.returns-clause-length
returns-clause-length g c =
    let k = (goal.at.returns-clause-length g c).After-with_counts-head in
    let stands = c.in_ok-push_records.ensures.stands (old g k) (out g k) c.in_ok-writer.ensures.stands in
    IfOk-weaker c.finish.result (λ size. size ≡ length (finished (out g k) (records g k)))
    (λ size. size ≡ length (made_file c.args.settings))
    (λ size long. long ∙ ap (λ (h : List ℕ). length (h ++ records g k)) (made g k))
    (c.finish.ensures.length (old g k) (out g k) (records g k) stands)

pub returns-clause-left : goal.returns-clause-left
returns-clause-left g c =
    let k = (goal.at.returns-clause-left g c).After-with_counts-head in
    let new = g.F.Files.seen c.finish.new.files in
    let stands = c.in_ok-push_records.ensures.stands (old g k) (out g k) c.in_ok-writer.ensures.stands in
    IfErr-weaker c.finish.result
    (λ fault. (left : List ℕ)
    × IsUnfinished (draft_of (out g k) (records g k)) (patches_of (out g k) (records g k)) left
    × Stops fault (with_bytes (old g k) c.args.output.now left) new) _
    (λ fault l. leaves g k new.held (end_left (old g k) new (out g k) (records g k) fault l))
    (c.finish.ensures.stopped (old g k) (out g k) (records g k) stands)

pub returns-in_err-push_records-clause-writes : goal.returns-in_err-push_records-clause-writes
returns-in_err-push_records-clause-writes g c =
    only_writes-trans _ _ _ c.create.ensures.writes c.push_records.ensures.writes

pub returns-clause-writes : goal.returns-clause-writes
returns-clause-writes g c =
    only_writes-trans _ _ _ c.create.ensures.writes
    (only_writes-trans _ _ _ c.push_records.ensures.writes c.finish.ensures.writes)
