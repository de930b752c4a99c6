use Rattle.std.proofs.Common.{◌≡◌, ◌≤◌, ◌<◌, ℕ, find, length, take, Some, string_bytes, get_or}
use Rattle.std.specs.List.{AllZip}
use Rattle.std.specs.Str.{bytes_eq}
use Rattle.std.specs.declared.alloc.Global.{Global}
use Rattle.std.specs.Prelude.{String}
use Rattle.las_info.proofs.choosing.choose.Given as goal

abbrev pub invariant-loop-i : goal.invariant-loop-i
invariant-loop-i g l =
    AllZip (λ name tap. find (λ other. bytes_eq (((goal.Tap-dyn g (other.vtable, other.value)).tap_seen other.value).name)
    (string_bytes name)) l.fn.taps.items ≡ Some tap) (take l.i l.names) l.chosen.items
    × ((k : ℕ) (d : String Global) → l.i ≤ k → k < length l.names
    → find (λ other. bytes_eq (((goal.Tap-dyn g (other.vtable, other.value)).tap_seen other.value).name)
    (string_bytes (get_or l.names k d))) l.left.items
    ≡ find (λ other. bytes_eq (((goal.Tap-dyn g (other.vtable, other.value)).tap_seen other.value).name)
    (string_bytes (get_or l.names k d))) l.fn.taps.items)
