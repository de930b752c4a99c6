use Rattle.std.proofs.Common.{◌≡◌, ◌+◌, ◌*◌, ◌≤◌}
use Rattle.laz_range.specs.Coding.{CodesInSteps}
use Rattle.laz_range.specs.Choice.{all_cuts, state_after}
use Rattle.laz_chunk.specs.Layouts.{most_events}
use Rattle.laz_chunk.specs.Records.{records_in}
use Rattle.laz_chunk.specs.Stands.{AreChunkPoints, ItemsStand, items_of, layout_in}
use Rattle.laz_chunk.specs.Chunks.{History, grown, record_cuts, written}
use Rattle.laz_chunk.proofs.records.put_all.Given as goal

abbrev pub invariant-loop-i : goal.invariant-loop-i
invariant-loop-i g l = record {
  layout : layout_in (items_of l.point10 (g.T.TimePart.item l.times) (g.C.ColourPart.item l.colours) l.extra) ≡ layout_in (items_of l.initial.point10 (g.T.TimePart.item l.initial.times) (g.C.ColourPart.item l.initial.colours) l.initial.extra);
  left : 3 * most_events (layout_in (items_of l.initial.point10 (g.T.TimePart.item l.initial.times) (g.C.ColourPart.item l.initial.colours) l.initial.extra)) * l.packed.count ≤ l.encoder.left + l.encoder.more + 3 * most_events (layout_in (items_of l.initial.point10 (g.T.TimePart.item l.initial.times) (g.C.ColourPart.item l.initial.colours) l.initial.extra)) * l.i;
  codes : (h : History) → AreChunkPoints (layout_in (items_of l.initial.point10 (g.T.TimePart.item l.initial.times) (g.C.ColourPart.item l.initial.colours) l.initial.extra)).extra h.1 → ItemsStand h.0 h.1 (items_of l.initial.point10 (g.T.TimePart.item l.initial.times) (g.C.ColourPart.item l.initial.colours) l.initial.extra)
      → CodesInSteps l.initial.encoder l.encoder (all_cuts grown record_cuts h (written (layout_in (items_of l.initial.point10 (g.T.TimePart.item l.initial.times) (g.C.ColourPart.item l.initial.colours) l.initial.extra)) h (records_in (layout_in (items_of l.initial.point10 (g.T.TimePart.item l.initial.times) (g.C.ColourPart.item l.initial.colours) l.initial.extra)) l.i l.records)));
  stands : (h : History) → AreChunkPoints (layout_in (items_of l.initial.point10 (g.T.TimePart.item l.initial.times) (g.C.ColourPart.item l.initial.colours) l.initial.extra)).extra h.1 → ItemsStand h.0 h.1 (items_of l.initial.point10 (g.T.TimePart.item l.initial.times) (g.C.ColourPart.item l.initial.colours) l.initial.extra)
      → let g2 = state_after grown h (written (layout_in (items_of l.initial.point10 (g.T.TimePart.item l.initial.times) (g.C.ColourPart.item l.initial.colours) l.initial.extra)) h (records_in (layout_in (items_of l.initial.point10 (g.T.TimePart.item l.initial.times) (g.C.ColourPart.item l.initial.colours) l.initial.extra)) l.i l.records)) in AreChunkPoints (layout_in (items_of l.initial.point10 (g.T.TimePart.item l.initial.times) (g.C.ColourPart.item l.initial.colours) l.initial.extra)).extra g2.1 × ItemsStand g2.0 g2.1 (items_of l.point10 (g.T.TimePart.item l.times) (g.C.ColourPart.item l.colours) l.extra);
}
