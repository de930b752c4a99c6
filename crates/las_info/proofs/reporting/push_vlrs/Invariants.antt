use Rattle.std.proofs.Common.{◌≡◌, ◌++◌, take}
use Rattle.std.specs.List.{flat_map}
use Rattle.las_info.specs.Report.{vlr_line}
use Rattle.las_info.proofs.reporting.push_vlrs.Given as goal

abbrev pub invariant-loop-place : goal.invariant-loop-place
invariant-loop-place l =
    l.text.items ≡ l.initial.text.items ++ flat_map (vlr_line l.head) (take l.place-index l.places)
