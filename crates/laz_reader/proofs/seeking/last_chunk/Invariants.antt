use Rattle.std.proofs.Common.{◌≡◌, ◌+◌, ◌-◌, ◌^◌, ◌<◌, ◌≤◌, sum, take}
use Rattle.laz_reader.proofs.seeking.last_chunk.Given as goal

abbrev pub invariant-loop-i : goal.invariant-loop-i
invariant-loop-i l = record {
  reached : l.reached ≡ sum (take l.i l.points);
  from : l.fn.first ≤ l.i;
  least : l.fn.first < l.i → sum (take (l.i - 1) l.points) < l.stop;
  small : l.reached < l.stop + 2 ^ 32;
}
