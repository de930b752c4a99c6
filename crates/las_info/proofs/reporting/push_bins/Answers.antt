use Rattle.las_info.specs.Report.{bin_line}
use Rattle.las_info.proofs.Texts.{longer}
use Rattle.las_info.proofs.reporting.push_bins.Goals as goal

pub loop-bin-preserved : goal.loop-bin-preserved
loop-bin-preserved c =
    longer bin_line _ _ _ c.args.rows.now c.loop-bin.bin-index _ c.loop-bin-test.true
    c.loop-bin.invariant c.in_ok-push_bin.ensures
