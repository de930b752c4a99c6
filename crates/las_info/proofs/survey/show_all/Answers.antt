use Rattle.std.proofs.Common.{◌<◌, ◌^◌, ◌-◌, sym, subst}
use Rattle.las_info.specs.Tallies.{count_at, shown_one}
use Rattle.las_info.proofs.Zips.{holds_left, one_mapped}
use Rattle.las_info.proofs.survey.show_all.Goals as goal

pub show_one-requires-clause-room : goal.show_one-requires-clause-room
show_one-requires-clause-room g c =
    holds_left (λ tap. count_at (((goal.Tap-dyn g (tap.vtable, tap.value)).tap_seen tap.value).tally)
    (((goal.Tap-dyn g (tap.vtable, tap.value)).tap_seen tap.value).bin c.args.point.now) < 2 ^ 64 - 1) c.args.taps.now c.loop-i.taps
    c.loop-i.i c.index-taps-i.result c.loop-i-test.true c.loop-i.invariant.0 c.requires.room

pub loop-i-preserved : goal.loop-i-preserved
loop-i-preserved g c =
    one_mapped (λ tap. (goal.Tap-dyn g (tap.vtable, tap.value)).tap_seen tap.value) (λ tap. shown_one tap c.args.point.now) _ _ _
    c.index-taps-i.result _ (subst (λ n. c.loop-i.i < n) (sym c.loop-i.auto.taps) c.loop-i-test.true) c.loop-i.auto.taps
    c.loop-i.invariant.0 c.loop-i.invariant.1 c.in_ok-show_one.ensures.shown
