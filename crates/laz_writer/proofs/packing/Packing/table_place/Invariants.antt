use Rattle.std.proofs.Common.{◌≡◌, ◌≤◌, ◌+◌, ◌*◌, ◌^◌, take, sum}
use Rattle.laz_writer.proofs.packing.Packing.table_place.Given as goal

abbrev pub invariant-loop-length : goal.invariant-loop-length
invariant-loop-length l = record {
  place : l.place ≡ l.fn.self.plan.pointer + 8 + sum (take l.length-index l.length-items);
  bound : l.place ≤ 2 ^ 32 + 8 + 2 ^ 32 * l.length-index;
  items : l.length-items ≡ l.fn.self.lengths;
}
