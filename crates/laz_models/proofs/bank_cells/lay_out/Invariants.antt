use Rattle.std.proofs.Common.{◌*◌, ◌≤◌, length, take}
use Rattle.laz_models.specs.Place.{AreFirst, IsLayout}
use Rattle.laz_models.proofs.bank_cells.lay_out.Given as goal

abbrev pub invariant-loop-size : goal.invariant-loop-size
invariant-loop-size l =
    record {
      layout : IsLayout l.places.items (take l.size-index l.sizes) l.end;
      firsts : AreFirst l.places.items l.cells.items;
      short : length l.cells.items ≤ l.end;
      room : l.end ≤ 12292 * l.size-index;
    }
