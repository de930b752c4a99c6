use Rattle.std.proofs.Common.{◌≡◌, ℕ, ◌+◌, ◌<◌, ◌≤◌, true, length, get_or, take}
use Rattle.std.specs.Prelude.{flat_map}
use Rattle.laz_workers.specs.Numbers.{HoldsBelow}
use Rattle.laz_workers.specs.Shown.{shown}
use Rattle.laz_workers.specs.Run.{drawn_by}
use Rattle.laz_workers.proofs.run.join_all.Given as goal

abbrev pub invariant-loop-h : goal.invariant-loop-h
invariant-loop-h g l = record {
  same_length : length l.hands ≡ length l.fn.hands;
  own : l.opening.claims ≡ l.claims;
  opens : l.opening.opens ≡ true;
  out : l.opening.out + l.h ≡ length l.fn.hands;
  drawn : l.opening.drawn ≡ flat_map drawn_by (take l.h l.fn.hands);
  whole : l.opening.out ≡ 0 → (word : ℕ) × HoldsBelow word l.opening.drawn;
  shows : (k : ℕ) (d : _) → k < length l.hands → shown (get_or l.hands k d) ≡ shown (get_or l.fn.hands k d);
  behind : (k : ℕ) (d : _) → l.h ≤ k → get_or l.hands k d ≡ get_or l.fn.hands k d;
}
