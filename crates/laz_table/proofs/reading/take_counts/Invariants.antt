use Rattle.std.proofs.Common.{◌≡◌, [], length, false}
use Rattle.laz_integer.specs.Integer.{IsInts}
use Rattle.laz_table.specs.Entries.{entries_of}
use Rattle.laz_table.specs.Steps.{table_start}
use Rattle.laz_table.proofs.ReadingLemmas.{HasReadEntries}
use Rattle.laz_table.proofs.reading.take_counts.Given as goal

abbrev pub invariant-loop-chunk : goal.invariant-loop-chunk
invariant-loop-chunk l =
    record {
      models : IsInts 32 2 l.model;
      good : l.decoder.failed ≡ false;
      len : length l.counts.items ≡ l._chunk;
      read : HasReadEntries (table_start l.fn.model false) l._chunk l.fn.decoder l.decoder (entries_of [] l.counts.items) (record { models = l.model; latest = record { points = 0; bytes = l.before }; counted = false; counts_points = false });
    }
