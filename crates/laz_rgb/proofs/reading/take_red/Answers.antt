use Rattle.std.proofs.lemmas.Result.{err_from_is_err_and}
use Rattle.laz_rgb.proofs.Takings.{two-first, two-second, two-takes}
use Rattle.laz_rgb.proofs.reading.take_red.Goals as goal

pub returns-in_err-first-clause-reads : goal.returns-in_err-first-clause-reads
returns-in_err-first-clause-reads c =
    let p = err_from_is_err_and c.from_residual.result c.from_residual.ensures.1 in
    rw p.1 (two-first c.args.low c.args.high c.args.bank.now 1 c.args.decoder.now c.take_next.new.decoder c.in_err-first.ensures.reads)

pub returns-in_err-second-clause-reads : goal.returns-in_err-second-clause-reads
returns-in_err-second-clause-reads c =
    let p = err_from_is_err_and c.from_residual-in_err-second.result c.from_residual-in_err-second.ensures.1 in
    let f = c.in_ok-first.ensures.reads in
    rw p.1 (two-second c.args.low c.args.high c.args.bank.now c.take_next.new.bank 1 f.0 c.args.decoder.now c.take_next.new.decoder c.take_next-2.new.decoder f.1 f.3 c.in_err-second.ensures.reads)

pub returns-clause-reads : goal.returns-clause-reads
returns-clause-reads c =
    let f = c.in_ok-first.ensures.reads in
    let g = c.in_ok-second.ensures.reads in (
      (f.0, g.0),
      two-takes c.args.low c.args.high c.args.bank.now c.take_next.new.bank 1 f.0 c.args.decoder.now c.take_next.new.decoder c.take_next-2.new.decoder f.1 f.3 g.0 g.1,
      (f.2, g.2),
      rw (← f.3) g.3,
    )
