use Rattle.std.proofs.Common.{◌++◌, ℕ, List, [], inr, length, take, ◌+◌, sym, ◌∙◌, ap}
use Rattle.std.proofs.lemmas.Result.{on_err_weaker, IfOk-from_err}
use Rattle.std.proofs.Math.Seq.{take-append-add}
use Rattle.byteorder.specs.Endian.{little_bytes}
use Rattle.las_outside.specs.Files.{with_file}
use Rattle.las_outside.specs.Outside.{Outside}
use Rattle.las_outside.proofs.Public.{on_err}
use Rattle.las_merge.proofs.Appended.{leaves_more}
use Rattle.las_merge.proofs.copying_chunks.begin.Goals as goal

pub returns-in_err-append_all-clause-left : goal.returns-in_err-append_all-clause-left
returns-in_err-append_all-clause-left g c =
    let old = g.F.Files.seen c.args.files.now in
    let new = g.F.Files.seen c.append_all.new.files in
    let name = c.args.output.now in
    let head = c.args.head.now in
    let left = c.in_err-append_all.ensures.stopped old [] c.in_ok-create.ensures.ok in
    on_err c.from_residual-in_err-append_all.result
    (leaves_more old.held new.held name head (little_bytes 8 c.args.place) (inr (left.0, ap (λ (o : Outside). o.held) left.1)))

pub returns-clause-left : goal.returns-clause-left
returns-clause-left g c =
    let old = g.F.Files.seen c.args.files.now in
    let name = c.args.output.now in
    let head = c.args.head.now in
    let there = c.in_ok-append_all.ensures.added old [] c.in_ok-create.ensures.ok in
    let pointer = c.pointer_bytes-pointer.result in
    on_err_weaker c.append_all-2.result
    (λ left. inr (
      length head + left.0,
      ap (λ (o : Outside). o.held) left.1
          ∙ ap (λ (t : List ℕ). with_file old.held name t) (sym (take-append-add head pointer left.0) ∙ ap (λ (p : List ℕ). take (length head + left.0) (head ++ p)) c.pointer_bytes-pointer.ensures.bytes),
    ))
    (c.append_all-2.ensures.stopped old head there)

pub returns-in_err-create-clause-begun : goal.returns-in_err-create-clause-begun
returns-in_err-create-clause-begun g c = IfOk-from_err c.from_residual.result _ c.from_residual.ensures.0

pub returns-in_err-append_all-clause-begun : goal.returns-in_err-append_all-clause-begun
returns-in_err-append_all-clause-begun g c =
    IfOk-from_err c.from_residual-in_err-append_all.result _ c.from_residual-in_err-append_all.ensures.0
