use Rattle.std.proofs.Common.{◌≡◌, ◌*◌, ◌≤◌, ℕ, List, length, false}
use Rattle.las_outside.specs.Outside.{Outside}
use Rattle.laz_forms.specs.Outputs.{Output}
use Rattle.laz_writer.specs.Writing.{Stands}
use Rattle.tests_files.proofs.trial.push_all.Given as goal

abbrev pub invariant-loop-i : goal.invariant-loop-i
invariant-loop-i g l = record {
  sound : l.writer.failed ≡ false;
  size : l.writer.size ≡ l.size;
  most : l.writer.most ≡ l.most;
  within : l.taken ≤ length l.records;
  stands : (before : Outside) × (out : Output) × (bytes : List ℕ) × Stands before (g.F.Files.seen l.files) l.writer out bytes × (length bytes ≡ l.taken);
}
