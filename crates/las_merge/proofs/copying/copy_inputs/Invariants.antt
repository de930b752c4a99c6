use Rattle.std.proofs.Common.{◌≡◌, ◌*◌, ◌+◌, ◌≤◌, false, Option, ℕ, List, length}
use Rattle.std.specs.Vec.Iter.{into_iter_items, into_iter_len}
use Rattle.las_outside.specs.Frames.{IsCalm}
use Rattle.las_outside.specs.Outside.{Later}
use Rattle.las_merge.specs.Asking.{IsAskedToRead, asked_of_all}
use Rattle.las_merge.specs.Inputs.{IfKnown}
use Rattle.las_merge.specs.Opening.{input_names, points_read}
use Rattle.las_merge.proofs.Copied.{HasCopied}
use Rattle.las_merge.proofs.copying.copy_inputs.Given as goal

abbrev pub invariant-inputs : goal.invariant-inputs
invariant-inputs g l = record {
  can : (goal.iterator-inputs g).can_next l.input-iterator;
  finite : (goal.iterator-inputs g).is_finite l.input-iterator;
  len : length (into_iter_items l.input-iterator) ≡ into_iter_len l.input-iterator;
  copied : HasCopied (g.F.Files.seen l.fn.files) (g.F.Files.seen l.files) l.fn.inputs.items
      (into_iter_items l.input-iterator) l.number l.fn.writer l.writer;
  sound : l.writer.failed ≡ false;
  most : l.writer.most ≡ l.fn.writer.most;
  room : l.writer.taken + l.writer.size * points_read (into_iter_items l.input-iterator) ≤ l.writer.size *
      l.writer.most;
  calm : IsCalm (g.F.Files.seen l.fn.files) (g.F.Files.seen l.files);
  later : Later (g.F.Files.seen l.fn.files) (g.F.Files.seen l.files);
  asked : (asked : Option (List ℕ) → ℕ) → IsAskedToRead asked → IfKnown (g.F.Files.seen l.fn.files).held
      (λ known. (g.F.Files.seen l.files).asked + asked_of_all asked known
      (input_names (into_iter_items l.input-iterator)) ≤ (g.F.Files.seen l.fn.files).asked + asked_of_all asked
      known (input_names l.fn.inputs.items));
}
