use Rattle.std.proofs.Common.{List, ℕ, subst}
use Rattle.std.specs.Prelude.{OnErr, OnOk}
use Rattle.laz_file.specs.Copying.{LeavesPart, Takes}
use Rattle.laz_file.proofs.Taking.{push_part, push_takes}
use Rattle.laz_file.proofs.copying.push_plain.Goals as goal

pub returns-clause-takes : goal.returns-clause-takes
returns-clause-takes g c =
    let old = g.F.Files.seen c.args.files.now in
    let new = g.F.Files.seen c.push_block-pushed.new.files in
    let w = c.args.writer.now in
    let v = c.push_block-pushed.new.self in
    subst (λ (b : List ℕ). OnOk c.push_block-pushed.result (Takes old new w v b)) c.swap_block.ensures.given
    (push_takes c.push_block-pushed.result old new w v c.swap_block.new.buffer.items c.push_block-pushed.ensures.stands)

pub returns-clause-part : goal.returns-clause-part
returns-clause-part g c =
    let old = g.F.Files.seen c.args.files.now in
    let new = g.F.Files.seen c.push_block-pushed.new.files in
    let w = c.args.writer.now in
    subst (λ (b : List ℕ). OnErr c.push_block-pushed.result (LeavesPart old new w b)) c.swap_block.ensures.given
    (push_part c.push_block-pushed.result old new w c.swap_block.new.buffer.items c.push_block-pushed.ensures.stopped)
