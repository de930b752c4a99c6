use Rattle.std.proofs.Common.{◌≡◌, ◌+◌, ◌-◌, ◌*◌, ◌≤◌, ◌^◌, drop, length}
use Rattle.laz_range.specs.Span.{number}
use Rattle.laz_range.proofs.window.put_bytes.Given as goal

-- The bytes from i on are the last digits of the value, and the rest has the digits before them.
abbrev pub invariant-loop-i : goal.invariant-loop-i
invariant-loop-i l = (l.i ≤ length l.bytes) × (number (drop l.i l.bytes) + l.rest * 256 ^ (length l.bytes - l.i) ≡ l.fn.value)

abbrev pub decreases-loop-i : goal.decreases-loop-i
decreases-loop-i l = l.i
