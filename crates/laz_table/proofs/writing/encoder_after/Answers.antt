use Rattle.std.proofs.Common.{◌+◌, ◌-◌, replicate, vec_len, arith}
use Rattle.laz_table.proofs.WritingLemmas.{before-is}
use Rattle.laz_table.proofs.writing.encoder_after.Goals as goal

pub returns-clause-before : goal.returns-clause-before
returns-clause-before c =
    let n = 8 + 4 + c.args.bytes in
    before-is c.args.start.items c.resize.new.self.items (replicate (n - vec_len c.args.start) 0) c.with_room.result.before n c.requires.start (omega arith) c.in_ok-resize.ensures.items c.with_room.ensures.before
