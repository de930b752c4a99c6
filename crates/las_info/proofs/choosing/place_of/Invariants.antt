use Rattle.std.proofs.Common.{◌≡◌, find, drop}
use Rattle.std.specs.Str.{bytes_eq}
use Rattle.las_info.proofs.choosing.place_of.Given as goal

abbrev pub invariant-loop-i : goal.invariant-loop-i
invariant-loop-i g l =
    find (λ tap. bytes_eq (((goal.Tap-dyn g (tap.vtable, tap.value)).tap_seen tap.value).name) l.name) l.taps
    ≡ find (λ tap. bytes_eq (((goal.Tap-dyn g (tap.vtable, tap.value)).tap_seen tap.value).name) l.name) (drop l.i l.taps)
