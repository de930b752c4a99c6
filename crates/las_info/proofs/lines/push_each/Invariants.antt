use Rattle.std.proofs.Common.{◌≡◌, ◌++◌, codes, take}
use Rattle.std.specs.Fmt.{decimal}
use Rattle.std.specs.List.{flat_map}
use Rattle.las_info.proofs.lines.push_each.Given as goal

abbrev pub invariant-loop-count : goal.invariant-loop-count
invariant-loop-count l =
    l.text.items
    ≡ l.initial.text.items ++ flat_map (λ number. codes " " ++ decimal number) (take l.count-index l.counts)
