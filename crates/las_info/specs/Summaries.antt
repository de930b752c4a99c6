-- What is counted of records, and the least and greatest of their raw coordinates.
use Rattle.std.specs.Prelude.{ℕ, List, Option}
use Rattle.las_header.specs.declared.counts.Counts.{Counts}
use Rattle.las_points.specs.Tally.{counts_of}
use Rattle.las_info.specs.declared.extents.Extents.{Extents}
use Rattle.las_info.specs.Extents.{extents_of}

-- the counts of some records, and the ranges of their coordinates, if there are any
pub record SummarySeen : Type 0 where
  pub counts : Counts
  pub extents : Option Extents

abbrev pub summary_of : (records : List (List ℕ)) → SummarySeen
summary_of records = record { counts = counts_of records; extents = extents_of records }
