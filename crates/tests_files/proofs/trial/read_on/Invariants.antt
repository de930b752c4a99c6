use Rattle.std.proofs.Common.{◌≡◌, false}
use Rattle.las_outside.specs.Files.{WhereKnown}
use Rattle.laz_reader.specs.Reading.{IsCrewOf, StandsFor}
use Rattle.tests_files.proofs.trial.read_on.Given as goal

abbrev pub invariant-loop-batch : goal.invariant-loop-batch
invariant-loop-batch g l = record {
  sound : l.reader.failed ≡ false;
  crew : IsCrewOf l.reader l.crew;
  stands : WhereKnown (g.F.Files.seen l.files).held l.reader.name (StandsFor l.reader);
}
