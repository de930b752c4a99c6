use Rattle.std.proofs.Common.{sym}
use Rattle.las_merge.proofs.Begun.{fails_under}
use Rattle.las_merge.proofs.merging.begin.Goals as goal
use Rattle.laz_forms.proofs.Public.{plain_itself}

pub returns-then-not-packed-clause-ends : goal.returns-then-not-packed-clause-ends
returns-then-not-packed-clause-ends g c =
    let head = c.args.head.now.bytes in
    fails_under c.create.result (g.F.Files.seen c.args.files.now) (g.F.Files.seen c.create.new.files) c.args.output.now head head c.args.chunk (plain_itself head (sym c.if-not-packed.ensures)) c.create.ensures.ends

pub returns-in-Ok-clause-ends : goal.returns-in-Ok-clause-ends
returns-in-Ok-clause-ends g c =
    fails_under c.create-in-Ok.result (g.F.Files.seen c.args.files.now) (g.F.Files.seen c.create-in-Ok.new.files) c.args.output.now c.args.head.now.bytes c.in-Ok.plain.bytes c.args.chunk c.in-Ok.ensures.bytes c.create-in-Ok.ensures.ends
