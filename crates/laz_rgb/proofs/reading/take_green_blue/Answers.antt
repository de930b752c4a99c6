use Rattle.std.proofs.Common.{◌≡◌, ℕ, subst}
use Rattle.std.proofs.lemmas.Result.{err_from_is_err_and}
use Rattle.laz_rgb.specs.Rows.{byte_of}
use Rattle.laz_rgb.proofs.Takings.{two-first, two-second, two-takes}
use Rattle.laz_rgb.proofs.reading.take_green_blue.Goals as goal

pub returns-in_err-green-clause-reads : goal.returns-in_err-green-clause-reads
returns-in_err-green-clause-reads c =
    let p = err_from_is_err_and c.from_residual.result c.from_residual.ensures.1 in
    rw p.1 (two-first c.args.q.green_marked c.args.q.blue_marked c.args.bank.now c.args.m c.args.decoder.now c.take_next.new.decoder c.in_err-green.ensures.reads)

pub returns-in_err-blue-clause-reads : goal.returns-in_err-blue-clause-reads
returns-in_err-blue-clause-reads c =
    let p = err_from_is_err_and c.from_residual-in_err-blue.result c.from_residual-in_err-blue.ensures.1 in
    let f = c.in_ok-green.ensures.reads in
    rw p.1 (two-second c.args.q.green_marked c.args.q.blue_marked c.args.bank.now c.take_next.new.bank c.args.m f.0 c.args.decoder.now c.take_next.new.decoder c.take_next-2.new.decoder f.1 f.3 c.in_err-blue.ensures.reads)

pub returns-clause-reads : goal.returns-clause-reads
returns-clause-reads c =
    let f = c.in_ok-green.ensures.reads in
    let g = c.in_ok-blue.ensures.reads in (
      (f.0, g.0),
      two-takes c.args.q.green_marked c.args.q.blue_marked c.args.bank.now c.take_next.new.bank c.args.m f.0 c.args.decoder.now c.take_next.new.decoder c.take_next-2.new.decoder f.1 f.3 g.0 g.1,
      (
        subst (λ (p : ℕ). c.in_ok-green.green ≡ byte_of c.args.q.green_marked p c.args.q.green_from f.0) c.moved-predicted.ensures f.2,
        subst (λ (p : ℕ). c.in_ok-blue.blue ≡ byte_of c.args.q.blue_marked p c.args.q.blue_from g.0) c.predicted_blue-predicted.ensures g.2,
      ),
      rw (← f.3) g.3,
    )
