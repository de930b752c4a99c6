use Rattle.std.proofs.Common.{◌<◌, ◌≢◌, get_or, length, arith, below_more, get_or-set_other, get_or-set_same}
use Rattle.laz_models.proofs.Tables.{greatest-of, last-greatest}
use Rattle.laz_models.proofs.model_cells.write_table.Goals as goal

pub loop-t-preserved : goal.loop-t-preserved
loop-t-preserved c =
    let l = c.loop-t in
    let starts = c.args.starts.now in
    let init = c.mark.new.table in
    let here : l.t < length l.table = omega arith in
    let inside : l.t < length init = omega arith in
    let g = greatest-of starts init c.args.shift l.t l.last (get_or l.table l.t 0) c.max-last.result l.invariant.begun l.invariant.marked inside (l.invariant.rest l.t (omega arith)) c.max-last.ensures l.invariant.symbol l.invariant.start l.invariant.greatest in
    record {
      begun = l.invariant.begun;
      marked = l.invariant.marked;
      symbol = g.symbol;
      start = omega (arith, g.start);
      greatest = g.greatest;
      rest = λ i after. let other : i ≢ l.t = omega (arith, after) in rw get_or-set_other (l.invariant.rest i (omega (arith, after)));
      entries = below_more _ _
          (λ i below. let other : i ≢ l.t = omega arith in rw get_or-set_other (l.invariant.entries i below))
          (rw (get_or-set_same l.table l.t c.max-last.result 0 here) (last-greatest starts c.args.shift l.t c.max-last.result g));
    }
