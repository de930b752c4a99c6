use Rattle.std.proofs.Common.{◌≡◌, ◌++◌, take}
use Rattle.std.specs.List.{flat_map}
use Rattle.las_info.specs.Report.{tally_text}
use Rattle.las_info.proofs.reporting.push_taps.Given as goal

abbrev pub invariant-loop-tap : goal.invariant-loop-tap
invariant-loop-tap g l =
    l.text.items
    ≡ l.initial.text.items
    ++ flat_map (λ tap. tally_text (((goal.Tap-dyn g (tap.vtable, tap.value)).tap_seen tap.value).name)
    (((goal.Tap-dyn g (tap.vtable, tap.value)).tap_seen tap.value).tally)) (take l.tap-index l.taps)
