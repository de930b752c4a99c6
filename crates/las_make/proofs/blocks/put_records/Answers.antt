use Rattle.std.proofs.Common.{◌≡◌, ◌+◌, ◌*◌, ◌-◌, ◌≤◌, length, ◌∙◌, arith}
use Rattle.las_header.proofs.Public.{length_part}
use Rattle.las_make.specs.Drawing.{draws_each}
use Rattle.las_make.specs.Made.{made_length}
use Rattle.las_make.proofs.Steps.{filled_next, room_for, state_next}
use Rattle.las_make.proofs.blocks.put_records.Goals as goal

pub loop-i-preserved : goal.loop-i-preserved
loop-i-preserved c =
    let s = c.args.settings in
    let i = c.loop-i.i in
    let size = c.record_length-size.result in
    let room : size * i + size ≤ length c.loop-i.place = room_for size i c.args.count (made_length s) (length c.loop-i.place) c.record_length-size.ensures (c.loop-i.auto.place ∙ c.requires.room) c.loop-i-test.true in
    let cut : size * i + size - size * i ≡ size = omega arith in
    let part = length_part c.loop-i.place (size * i) (size * i + size - size * i) (omega (arith, room, cut)) ∙ cut in (
      filled_next s c.args.from i size _ _ c.loop-i.place c.put_record.new.place c.draws-draws.result c.record_length-size.ensures part c.put_record.auto.place (omega (arith, room)) c.loop-i.invariant.0 c.put_record.ensures (c.draws-draws.ensures.numbers s.seed (draws_each s.format * (c.args.from + i)) c.loop-i.invariant.1),
      state_next s (c.args.from + i) (c.args.from + (i + 1)) c.loop-i.generator.state c.draws-draws.new.self.state c.loop-i.invariant.1 c.draws-draws.ensures.state (omega arith),
    )
