use Rattle.std.proofs.Common.{◌≡◌, ℕ, List, take}
use Rattle.las_outside.specs.Drafts.{with_patches}
use Rattle.las_outside.specs.Frames.{OnlyWrites}
use Rattle.las_outside.specs.Outside.{Outside, with_bytes}
use Rattle.laz_writer.proofs.patch.patch_all.Given as goal

abbrev pub invariant-loop-patch : goal.invariant-loop-patch
invariant-loop-patch g l = record {
  patched : (before : Outside) (text : List ℕ) → g.F.Files.seen l.fn.files ≡ with_bytes before l.name text
      → g.F.Files.seen l.files ≡ with_bytes before l.name (with_patches text (take l.patch-index l.patches));
  writes : OnlyWrites (g.F.Files.seen l.fn.files) (g.F.Files.seen l.files);
}
