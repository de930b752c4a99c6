use Rattle.std.proofs.Common.{◌≡◌, List, false, length}
use Rattle.laz_range.specs.Choice.{AreAsked, all_cuts, state_after}
use Rattle.laz_range.specs.Decoding.{Takes}
use Rattle.laz_chunk.specs.Records.{records_in}
use Rattle.laz_chunk.specs.Stands.{ItemsStand, items_of, layout_in}
use Rattle.laz_chunk.specs.Chunks.{History, IsSpelled, Spelling, grown, record_cuts, spelled_records}
use Rattle.laz_chunk.proofs.records.take_all.Given as goal

abbrev pub invariant-loop-i : goal.invariant-loop-i
invariant-loop-i g l = record {
  good : l.decoder.failed ≡ false;
  layout : layout_in (items_of l.point10 (g.T.TimePart.item l.times) (g.C.ColourPart.item l.colours) l.extra) ≡ layout_in (items_of l.initial.point10 (g.T.TimePart.item l.initial.times) (g.C.ColourPart.item l.initial.colours) l.initial.extra);
  long : length l.records ≡ length l.initial.records;
  reads : (h : History) → ItemsStand h.0 h.1 (items_of l.initial.point10 (g.T.TimePart.item l.initial.times) (g.C.ColourPart.item l.initial.colours) l.initial.extra) → (xs : List Spelling)
      × Takes (AreAsked grown (IsSpelled (layout_in (items_of l.initial.point10 (g.T.TimePart.item l.initial.times) (g.C.ColourPart.item l.initial.colours) l.initial.extra))) h l.i) (all_cuts grown record_cuts h) l.initial.decoder l.decoder xs
      × (spelled_records xs ≡ records_in (layout_in (items_of l.initial.point10 (g.T.TimePart.item l.initial.times) (g.C.ColourPart.item l.initial.colours) l.initial.extra)) l.i l.records)
      × ItemsStand (state_after grown h xs).0 (state_after grown h xs).1 (items_of l.point10 (g.T.TimePart.item l.times) (g.C.ColourPart.item l.colours) l.extra);
}
