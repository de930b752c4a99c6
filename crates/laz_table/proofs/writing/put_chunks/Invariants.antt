use Rattle.std.proofs.Common.{◌+◌, ◌*◌, ◌≤◌, length, take}
use Rattle.laz_integer.specs.Integer.{IsInts}
use Rattle.laz_table.specs.Entries.{entries_of}
use Rattle.laz_table.specs.Steps.{Written}
use Rattle.laz_table.proofs.writing.put_chunks.Given as goal

abbrev pub invariant-loop-i : goal.invariant-loop-i
invariant-loop-i l =
    record {
      models : IsInts 32 2 l.model;
      left : 24 * length l.counts ≤ l.encoder.left + 24 * l.i;
      written : Written l.fn.encoder l.encoder l.model (record { points = l.size_before; bytes = l.count_before }) (entries_of (take l.i l.sizes) (take l.i l.counts));
    }
