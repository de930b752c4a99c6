use Rattle.std.proofs.Common.{◌≡◌, ◌≤◌, ◌∙◌, ap, arith}
use Rattle.std.proofs.lemmas.Bool.{leb-false}
use Rattle.std.proofs.lemmas.Grind.{common_steps}
use Rattle.laz_chunk.specs.Layouts.{Format, layout, room_for}
use Rattle.laz_chunk.proofs.Public.{chunk-most}
use Rattle.laz_reader.proofs.unpack_job.UnpackJob.may_hold.Goals as goal

pub returns-then-count-eq0-clause-none : goal.returns-then-count-eq0-clause-none
returns-then-count-eq0-clause-none c = grind (arith, common_steps)

pub returns-then-size-record_length-clause-none : goal.returns-then-size-record_length-clause-none
returns-then-size-record_length-clause-none c = grind (arith, common_steps)

pub returns-clause-none : goal.returns-clause-none
returns-clause-none c = λ no bytes long block are holds.
    let some : 1 ≤ c.args.count = omega arith in
    let most = chunk-most (layout c.args.self.now) c.args.count bytes block some are.length holds in
    let room : c.room_for.result ≡ room_for (layout c.args.self.now) c.args.count = c.room_for.ensures ∙ ap (λ (f : Format). room_for (layout f) c.args.count) c.self.view_is in
    let past = leb-false c.from-size.result c.room_for.result no in
    omega (arith, most, room, past, long, c.from-size.ensures)
