use Rattle.std.proofs.Common.{ℕ, ◌<◌}
use Rattle.std.specs.Prelude.{IsSome}
use Rattle.laz_workers.specs.Rooms.{RoomSeen, StandsIn, answer_in, rooms_of}
use Rattle.laz_reader.proofs.answers.good_answers.Given as goal

abbrev pub invariant-loop-i : goal.invariant-loop-i
invariant-loop-i l = (k : ℕ) → k < l.i → (room : RoomSeen) × StandsIn (rooms_of l.crew) k room × IsSome (answer_in room.bytes room.held)
