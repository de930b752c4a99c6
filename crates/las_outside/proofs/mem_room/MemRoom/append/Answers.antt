use Rattle.std.proofs.Common.{ap, rules}
use Rattle.las_outside.proofs.Rooms.{bytes_after_append}
use Rattle.las_outside.proofs.mem_room.MemRoom.append.Goals as goal

pub returns-clause-bytes : goal.returns-clause-bytes
returns-clause-bytes c =
    bytes_after_append c.self.inside.held c.self.inside.bytes.items _ c.args.bytes.now c.args.self.now.bytes c.args.self.now.room (ap (λ r. r.bytes) c.self.view_is) c.requires (search rules)
