use Rattle.std.proofs.Common.{◌+◌, ◌<◌, ◌≤◌, get_or, length}
use Rattle.laz_models.proofs.lookup.bisect.Given as goal

abbrev pub invariant-loop-width : goal.invariant-loop-width
invariant-loop-width l =
    record {
      some : 0 < l.width;
      within : l.low + l.width ≤ length l.starts;
      start : get_or l.starts l.low 0 ≤ l.v;
      end : l.low + l.width < length l.starts → l.v < get_or l.starts (l.low + l.width) 0;
    }

abbrev pub decreases-loop-width : goal.decreases-loop-width
decreases-loop-width l = l.width
