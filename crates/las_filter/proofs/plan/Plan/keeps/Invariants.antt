use Rattle.std.proofs.Common.{◌≡◌, drop}
use Rattle.las_filter.specs.Filters.{keeps_all}
use Rattle.las_filter.proofs.plan.Plan.keeps.Given as goal

abbrev pub invariant-loop-keep : goal.invariant-loop-keep
invariant-loop-keep l = keeps_all (drop l.keep-index l.self.keeps.items) l.point ≡ keeps_all l.self.keeps.items l.point
