use Rattle.std.proofs.Common.{◌≡◌, ◌/◌, length, map, take, drop}
use Rattle.las_header.specs.Plain.{cut_records}
use Rattle.las_info.specs.Tallies.{shown_all}
use Rattle.las_info.proofs.survey.show_block.Given as goal

abbrev pub invariant-loop-i : goal.invariant-loop-i
invariant-loop-i g l =
    (drop l.i l.taps ≡ drop l.i l.initial.taps)
    × (map (λ tap. (goal.Tap-dyn g (tap.vtable, tap.value)).tap_seen tap.value) (take l.i l.taps)
    ≡ map (λ tap. shown_all ((goal.Tap-dyn g (tap.vtable, tap.value)).tap_seen tap.value) (cut_records l.size (length l.block / l.size) l.block)) (take l.i l.initial.taps))
