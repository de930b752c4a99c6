use Rattle.std.proofs.Common.{◌≡◌, ◌-◌, length, take}
use Rattle.las_outside.specs.Frames.{IsCalm, OnlyReads}
use Rattle.laz_reader.specs.Asking.{AsksAtMost}
use Rattle.las_merge.specs.Asking.{asked_of_all, asked_to_compare}
use Rattle.las_merge.specs.Inputs.{IfKnown, names_of}
use Rattle.las_merge.specs.Listing.{ListsChunks}
use Rattle.las_merge.specs.Opening.{AreOpen}
use Rattle.las_merge.proofs.listing.list_inputs.Given as goal

abbrev pub invariant-inputs : goal.invariant-inputs
invariant-inputs g l = record {
  opened : AreOpen (g.F.Files.seen l.fn.files).held (names_of l.names) l.listed.inputs.items;
  lists : ListsChunks (g.F.Files.seen l.fn.files).held l.listed.inputs.items l.listed.sources.items l.listed.lists.many
      l.listed.lists.points.items l.listed.lists.bytes.items
      ((g.F.Files.seen l.files).asked - (g.F.Files.seen l.fn.files).asked);
  count : length l.listed.inputs.items ≡ l.name-index;
  reads : OnlyReads (g.F.Files.seen l.fn.files) (g.F.Files.seen l.files);
  calm : IsCalm (g.F.Files.seen l.fn.files) (g.F.Files.seen l.files);
  asked : IfKnown (g.F.Files.seen l.fn.files).held
      (λ known. AsksAtMost (asked_of_all asked_to_compare known (take l.name-index (names_of l.names)))
      (g.F.Files.seen l.fn.files) (g.F.Files.seen l.files));
}
