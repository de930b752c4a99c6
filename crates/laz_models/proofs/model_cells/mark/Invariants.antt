use Rattle.laz_models.specs.Lookup.{AreMarked, HaveBegun}
use Rattle.laz_models.proofs.model_cells.mark.Given as goal

abbrev pub invariant-loop-s : goal.invariant-loop-s
invariant-loop-s l = record { begun : HaveBegun l.starts l.shift l.table; marked : AreMarked l.s l.starts l.shift l.table }
