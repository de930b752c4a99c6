use Rattle.std.proofs.Common.{◌≡◌, ◌-◌, ◌≤◌, [], false}
use Rattle.std.specs.List.{concat}
use Rattle.las_outside.specs.Frames.{IsCalm, OnlyWrites}
use Rattle.las_outside.specs.Outside.{Outside}
use Rattle.laz_forms.specs.Outputs.{Output}
use Rattle.laz_writer.specs.Writing.{Stands}
use Rattle.las_make.specs.Made.{IsBefore, records_from}
use Rattle.las_make.proofs.plain.push_records.Given as goal

abbrev pub invariant-loop-from : goal.invariant-loop-from
invariant-loop-from g l = record {
  within : l.from ≤ l.settings.points;
  before : IsBefore l.settings l.from l.generator.state;
  sound : l.writer.failed ≡ false;
  most : l.writer.most ≡ l.settings.points;
  stands : (before : Outside) (out : Output) → Stands before (g.F.Files.seen l.fn.files) l.fn.writer out []
      → Stands before (g.F.Files.seen l.files) l.writer out (concat (records_from l.settings 0 l.from));
  calm : IsCalm (g.F.Files.seen l.fn.files) (g.F.Files.seen l.files);
  writes : OnlyWrites (g.F.Files.seen l.fn.files) (g.F.Files.seen l.files);
}

abbrev pub decreases-loop-from : goal.decreases-loop-from
decreases-loop-from g l = l.settings.points - l.from
