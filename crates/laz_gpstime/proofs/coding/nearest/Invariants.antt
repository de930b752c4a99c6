use Rattle.std.proofs.Common.{◌≡◌, ℕ, ◌<◌, false}
use Rattle.laz_gpstime.specs.Sequences.{time_difference}
use Rattle.laz_gpstime.specs.Slots.{time_from}
use Rattle.laz_gpstime.specs.Times.{is_near}
use Rattle.laz_gpstime.proofs.coding.nearest.Given as goal

abbrev pub invariant-loop-i : goal.invariant-loop-i
invariant-loop-i l = (j : ℕ) → j < l.i → is_near (time_difference (time_from l.sequences j) l.time) ≡ false
