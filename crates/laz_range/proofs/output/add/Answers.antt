use Rattle.std.proofs.Common.{◌+◌, ◌-◌, ◌%◌, take, arith}
use Rattle.laz_range.specs.Span.{number}
use Rattle.laz_range.proofs.Fronts.{sum_below}
use Rattle.laz_range.proofs.Windows.{window_front, sum_stays, sum_carries, front_fits, front_some}
use Rattle.laz_range.proofs.output.add.Goals as goal

pub overflow_sub-next : goal.overflow_sub-next
overflow_sub-next c =
    let bytes = c.args.bytes.now in
    let next = c.args.next in
    let front = window_front c.args.low next bytes c.requires.bytes (omega (arith, c.requires.within)) c.requires.window in
    let sum = sum_carries _ c.args.low (number (take next bytes)) c.args.from (omega arith) (omega arith) front c.if-sum-low.true in
    let below = sum_below c.args.at next (c.args.low % 4294967296) c.args.from bytes c.requires.bytes c.requires.order (omega (arith, c.requires.within)) c.requires.fits in
    front_some next (number (take (next - 4) bytes)) ((c.args.low + c.args.from) % 18446744073709551616) (omega (arith, sum, below))

pub carry_into-requires-clause-fits : goal.carry_into-requires-clause-fits
carry_into-requires-clause-fits c =
    let bytes = c.args.bytes.now in
    let next = c.args.next in
    let front = window_front c.args.low next bytes c.requires.bytes (omega (arith, c.requires.within)) c.requires.window in
    let sum = sum_carries _ c.args.low (number (take next bytes)) c.args.from (omega arith) (omega arith) front c.if-sum-low.true in
    let below = sum_below c.args.at next (c.args.low % 4294967296) c.args.from bytes c.requires.bytes c.requires.order (omega (arith, c.requires.within)) c.requires.fits in
    front_fits next (number (take (next - 4) bytes)) ((c.args.low + c.args.from) % 18446744073709551616) (overflow_sub-next c) (omega (arith, sum, below))

pub returns-then-sum-low-clause-sum : goal.returns-then-sum-low-clause-sum
returns-then-sum-low-clause-sum c =
    let bytes = c.args.bytes.now in
    let next = c.args.next in
    let front = window_front c.args.low next bytes c.requires.bytes (omega (arith, c.requires.within)) c.requires.window in
    rw c.carry_into.ensures (sum_carries _ c.args.low (number (take next bytes)) c.args.from (omega arith) (omega arith) front c.if-sum-low.true)

pub returns-else-sum-low-clause-sum : goal.returns-else-sum-low-clause-sum
returns-else-sum-low-clause-sum c =
    let bytes = c.args.bytes.now in
    let next = c.args.next in
    let front = window_front c.args.low next bytes c.requires.bytes (omega (arith, c.requires.within)) c.requires.window in
    sum_stays _ c.args.low (number (take next bytes)) c.args.from (omega arith) (omega arith) front c.if-sum-low.false

pub returns-else-sum-low-clause-below : goal.returns-else-sum-low-clause-below
returns-else-sum-low-clause-below c few =
    let bytes = c.args.bytes.now in
    let next = c.args.next in
    omega (arith, returns-else-sum-low-clause-sum c, sum_below c.args.at next (c.args.low % 4294967296) c.args.from bytes c.requires.bytes c.requires.order (omega (arith, c.requires.within)) c.requires.fits)
