use Rattle.std.proofs.Common.{◌+◌, ◌*◌, ◌≤◌, [], length, take}
use Rattle.laz_integer.specs.Integer.{IsInts}
use Rattle.laz_table.specs.Entries.{entries_of}
use Rattle.laz_table.specs.Steps.{Written}
use Rattle.laz_table.proofs.writing.put_counts.Given as goal

abbrev pub invariant-loop-count : goal.invariant-loop-count
invariant-loop-count l =
    record {
      models : IsInts 32 2 l.model;
      left : 12 * length l.counts ≤ l.encoder.left + 12 * l.count-index;
      written : Written l.fn.encoder l.encoder l.model (record { points = 0; bytes = l.before }) (entries_of [] (take l.count-index l.counts));
    }
