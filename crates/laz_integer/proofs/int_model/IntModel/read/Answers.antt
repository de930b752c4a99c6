use Rattle.std.proofs.lemmas.Result.{err_from_is_err_and}
use Rattle.laz_integer.specs.Models.{state_of}
use Rattle.laz_integer.proofs.Spellings.{no-int, reads-int, corrected-passed}
use Rattle.laz_integer.proofs.int_model.IntModel.read.Goals as goal

pub returns-in_err-k-clause-none : goal.returns-in_err-k-clause-none
returns-in_err-k-clause-none c kind earlier h =
    let p = err_from_is_err_and c.from_residual.result c.from_residual.ensures.1 in
    let st = state_of c.self.inside.models in
    rw (p.1, ← c.self.view_is) (no-int kind earlier st c.args.ctx c.args.pred c.args.decoder.now c.take.new.decoder c.self.invariant (rw (← c.self.view_is) at c.requires.context) (rw (← c.self.view_is) at h) c.in_err-k.ensures.reads)

pub returns-clause-reads : goal.returns-clause-reads
returns-clause-reads c =
    rw (← c.self.view_is) (record {
      v = c.in_ok-k.v;
      takes = c.in_ok-k.ensures.reads;
      makes = corrected-passed c.self.inside.models.bits c.args.pred c.in_ok-k.k c.in_ok-k.v c.correct.result c.self.invariant.few c.ranges.pred c.correct.ensures;
      counts = c.in_ok-k.ensures.next;
    })

pub returns-clause-spelled : goal.returns-clause-spelled
returns-clause-spelled c kind earlier h =
    let st = state_of c.self.inside.models in
    rw (← c.self.view_is) (reads-int kind earlier st (state_of c.take.new.models) c.args.ctx c.args.pred _ c.in_ok-k.k c.in_ok-k.v c.args.decoder.now c.take.new.decoder c.self.invariant (rw (← c.self.view_is) at c.requires.context) (rw (← c.self.view_is) at h) c.in_ok-k.ensures.reads (corrected-passed c.self.inside.models.bits c.args.pred c.in_ok-k.k c.in_ok-k.v c.correct.result c.self.invariant.few c.ranges.pred c.correct.ensures) c.in_ok-k.ensures.next)
