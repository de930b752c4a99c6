use Rattle.std.proofs.Common.{◌≡◌, ◌+◌, ◌*◌, take}
use Rattle.std.specs.List.{concat}
use Rattle.las_make.specs.Made.{IsBefore, records_from}
use Rattle.las_make.proofs.blocks.put_records.Given as goal

abbrev pub invariant-loop-i : goal.invariant-loop-i
invariant-loop-i l =
    (take (l.size * l.i) l.place ≡ concat (records_from l.settings l.from l.i)) × IsBefore l.settings (l.from + l.i) l.generator.state
