use Rattle.std.proofs.Common.{◌-◌, arith, length-set}
use lib.Bits.{bit_and}
use Rattle.laz_range.proofs.Windows.{digits_more, digits_end}
use Rattle.laz_range.proofs.window.put_bytes.Goals as goal

pub loop-i-preserved : goal.loop-i-preserved
loop-i-preserved c =
    let l = c.loop-i in
    (omega (arith, l.invariant.0, length-set l.bytes (l.i - 1) (bit_and l.rest 255)), digits_more l.bytes l.i l.rest c.args.value c.loop-i-test.true l.invariant.0 l.invariant.1)

pub returns : goal.returns
returns c =
    let l = c.loop-i in
    digits_end l.bytes l.i l.rest c.args.value c.loop-i-test.false l.invariant.1 (rw l.auto.bytes c.requires)
