use Rattle.std.proofs.Common.{◌≡◌, ◌≤◌, [], length, map, replicate, take}
use Rattle.las_split.proofs.gathering.Gathered.begin.Given as goal

abbrev pub invariant-loop-place : goal.invariant-loop-place
invariant-loop-place l = record {
  long : l.place ≤ length l.self-inside.texts.items;
  empty : map (λ v. v.items) (take l.place l.self-inside.texts.items) ≡ replicate l.place [];
}
