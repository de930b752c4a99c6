use Rattle.std.proofs.Common.{◌≡◌, map, take}
use Rattle.las_words.specs.Texts.{texts}
use Rattle.las_words.proofs.read.names_of.Given as goal

abbrev pub invariant-loop-tap : goal.invariant-loop-tap
invariant-loop-tap g l =
    texts l.names.items ≡ map (λ tap. ((goal.Tap-dyn g (tap.vtable, tap.value)).tap_seen tap.value).name) (take l.tap-index l.taps)
