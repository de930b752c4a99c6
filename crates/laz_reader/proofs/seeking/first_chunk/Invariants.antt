use Rattle.std.proofs.Common.{◌≡◌, ◌+◌, ◌≤◌, sum, take}
use Rattle.laz_reader.proofs.seeking.first_chunk.Given as goal

abbrev pub invariant-loop-i : goal.invariant-loop-i
invariant-loop-i l = record {
  before : l.before ≡ sum (take l.i l.points);
  at : l.at ≡ l.fn.place + sum (take l.i l.bytes);
  early : l.before ≤ l.start;
}
