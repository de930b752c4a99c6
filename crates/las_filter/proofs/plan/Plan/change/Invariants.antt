use Rattle.std.proofs.Common.{◌≡◌, drop}
use Rattle.las_filter.specs.Changes.{changed, left_by}
use Rattle.las_filter.proofs.plan.Plan.change.Given as goal

-- What the changes that are left make of the record as it is now is what all make of it as it was.
abbrev pub invariant-loop-change : goal.invariant-loop-change
invariant-loop-change l = record {
  changed : changed (drop l.change-index l.self.changes.items) l.point ≡ changed l.self.changes.items l.fn.point;
  left : left_by (drop l.change-index l.self.changes.items) l.point ≡ left_by l.self.changes.items l.fn.point;
}
