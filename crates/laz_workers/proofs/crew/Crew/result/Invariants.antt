use Rattle.std.proofs.Common.{ℕ, ◌<◌, get_or}
use Rattle.laz_workers.proofs.RoomLists.{Lacks}
use Rattle.laz_workers.proofs.crew.Crew.result.Given as goal

abbrev pub invariant-loop-hand : goal.invariant-loop-hand
invariant-loop-hand g l = (k : ℕ) (d : _) → k < l.hand-index → Lacks l.number (get_or l.hand-items k d)
