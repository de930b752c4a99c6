use Rattle.std.proofs.Common.{◌≡◌, ℕ, ◌<◌, ◌≤◌, length, get_or, vec_len}
use Rattle.std.specs.Prelude.{vec_capacity}
use Rattle.laz_workers.specs.Seen.{PassSeen}
use Rattle.laz_workers.specs.Run.{equipped}
use Rattle.laz_workers.proofs.run.equip_all.Given as goal

abbrev pub invariant-loop-pass : goal.invariant-loop-pass
invariant-loop-pass g l = record {
  left : vec_len l.passes ≤ length l.hands;
  same_length : length l.hands ≡ length l.fn.hands;
  passes : (k : ℕ) (e : PassSeen) → k < vec_len l.passes → get_or l.passes.items k e ≡ get_or l.fn.passes.items k e;
  behind : (k : ℕ) (d : _) → k < vec_len l.passes → get_or l.hands k d ≡ get_or l.fn.hands k d;
  done : (k : ℕ) (d : _) (e : PassSeen) → vec_len l.passes ≤ k → k < length l.hands → get_or l.hands k d ≡ equipped (get_or l.fn.hands k d) (get_or l.fn.passes.items k e);
  capacity : vec_capacity l.passes ≡ vec_capacity l.fn.passes;
}

abbrev pub decreases-loop-pass : goal.decreases-loop-pass
decreases-loop-pass g l = vec_len l.passes
