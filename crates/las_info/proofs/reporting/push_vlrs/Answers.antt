use Rattle.las_info.specs.Report.{vlr_line}
use Rattle.las_info.proofs.Texts.{longer}
use Rattle.las_info.proofs.reporting.push_vlrs.Goals as goal

pub loop-place-preserved : goal.loop-place-preserved
loop-place-preserved c =
    longer (vlr_line c.args.head.now) _ _ _ c.args.places.now c.loop-place.place-index _ c.loop-place-test.true
    c.loop-place.invariant c.in_ok-push_vlr.ensures
