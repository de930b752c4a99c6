use Rattle.std.proofs.Common.{◌≡◌, ◌*◌, length, rules, ◌∙◌}
use Rattle.laz_chunk.specs.Layouts.{Format, layout, record_length}
use Rattle.laz_chunk.proofs.Public.{are-enough, are-whole}
use Rattle.tests_coder.proofs.chunks.Trial.pack.Goals as goal

pub pack-size-requires-clause-whole : goal.pack-size-requires-clause-whole
pack-size-requires-clause-whole c =
    let g : Format = record { format = c.args.self.now.format; extra = c.args.self.now.extra } in
    let long : length c.args.records.now ≡ record_length (layout g) * c.args.count = search rules in
    are-whole c.args.self.now.workspace g c.args.count c.args.records.now c.args.self.now.suits long

pub pack-size-requires-clause-room : goal.pack-size-requires-clause-room
pack-size-requires-clause-room c =
    let g : Format = record { format = c.args.self.now.format; extra = c.args.self.now.extra } in
    let long : length c.args.records.now ≡ record_length (layout g) * c.args.count = search rules in
    let room : length c.in_ok-chunk.chunk.items ≡ c.room_for-room.result = search rules in
    are-enough c.args.self.now.workspace g c.args.count (length c.in_ok-chunk.chunk.items) c.args.records.now c.args.self.now.suits long (room ∙ c.room_for-room.ensures)
