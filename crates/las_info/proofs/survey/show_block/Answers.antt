use Rattle.std.proofs.Common.{◌+◌, ◌<◌, ◌/◌, ◌^◌, ℕ, length, sym, subst, take}
use Rattle.las_header.specs.Plain.{cut_records}
use Rattle.las_info.specs.Tallies.{IsShownSome, count_at, shown_all}
use Rattle.las_info.proofs.Shown.{shown_none, shown_whole}
use Rattle.las_info.proofs.Zips.{changed_alike, holds_left, one_mapped, related}
use Rattle.las_info.proofs.survey.show_block.Goals as goal
use Rattle.las_outside.proofs.Public.{on_err}

pub show_through-requires-clause-room : goal.show_through-requires-clause-room
show_through-requires-clause-room g c = record {
  fits =
      holds_left (λ tap. (bin : ℕ) → count_at (((goal.Tap-dyn g (tap.vtable, tap.value)).tap_seen tap.value).tally) bin + length c.args.block.now / c.args.size < 2 ^ 64)
      c.args.taps.now c.loop-i.taps c.loop-i.i c.index-taps-i.result c.loop-i-test.true c.loop-i.invariant.0 c.requires.room;
}

pub loop-i-preserved : goal.loop-i-preserved
loop-i-preserved g c =
    one_mapped (λ tap. (goal.Tap-dyn g (tap.vtable, tap.value)).tap_seen tap.value) (λ tap. shown_all tap (cut_records c.args.size (length c.args.block.now / c.args.size) c.args.block.now)) _ _ _
    c.index-taps-i.result _ (subst (λ n. c.loop-i.i < n) (sym c.loop-i.auto.taps) c.loop-i-test.true) c.loop-i.auto.taps
    c.loop-i.invariant.0 c.loop-i.invariant.1 c.in_ok-show_through.ensures.shown

pub returns-in_err-show_through-clause-err : goal.returns-in_err-show_through-clause-err
returns-in_err-show_through-clause-err g c =
    let records = cut_records c.args.size (length c.args.block.now / c.args.size) c.args.block.now in
    on_err c.from_residual.result
    (related (λ tap. (goal.Tap-dyn g (tap.vtable, tap.value)).tap_seen tap.value) (IsShownSome records) (shown_none records) c.args.taps.now c.loop-i.taps c.loop-i.i c.index-taps-i.result _
    (subst (λ n. c.loop-i.i < n) (sym c.loop-i.auto.taps) c.loop-i-test.true) c.loop-i.invariant.0
    (changed_alike (λ tap. (goal.Tap-dyn g (tap.vtable, tap.value)).tap_seen tap.value) (IsShownSome records) (shown_none records) (λ tap. shown_all tap records) (shown_whole records) (take c.loop-i.i c.args.taps.now) _ c.loop-i.invariant.1)
    c.in_err-show_through.ensures.err)
