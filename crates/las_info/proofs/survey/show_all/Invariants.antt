use Rattle.std.proofs.Common.{◌≡◌, map, take, drop}
use Rattle.las_info.specs.Tallies.{shown_one}
use Rattle.las_info.proofs.survey.show_all.Given as goal

abbrev pub invariant-loop-i : goal.invariant-loop-i
invariant-loop-i g l =
    (drop l.i l.taps ≡ drop l.i l.initial.taps)
    × (map (λ tap. (goal.Tap-dyn g (tap.vtable, tap.value)).tap_seen tap.value) (take l.i l.taps)
    ≡ map (λ tap. shown_one ((goal.Tap-dyn g (tap.vtable, tap.value)).tap_seen tap.value) l.point) (take l.i l.initial.taps))
