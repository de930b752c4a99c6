use Rattle.std.proofs.Common.{◌≡◌, ◌*◌, length, false, true}
use Rattle.laz_integer.specs.Integer.{IsInts}
use Rattle.laz_table.specs.Entries.{entries_of}
use Rattle.laz_table.specs.Steps.{table_start}
use Rattle.laz_table.proofs.ReadingLemmas.{HasReadEntries}
use Rattle.laz_table.proofs.reading.take_chunks.Given as goal

abbrev pub invariant-loop-chunk : goal.invariant-loop-chunk
invariant-loop-chunk l =
    record {
      models : IsInts 32 2 l.model;
      good : l.decoder.failed ≡ false;
      counts : length l.counts.items ≡ l._chunk;
      sizes : length l.sizes.items ≡ l._chunk;
      read : HasReadEntries (table_start l.fn.model true) (2 * l._chunk) l.fn.decoder l.decoder (entries_of l.sizes.items l.counts.items) (record { models = l.model; latest = record { points = l.size_before; bytes = l.count_before }; counted = true; counts_points = true });
    }
