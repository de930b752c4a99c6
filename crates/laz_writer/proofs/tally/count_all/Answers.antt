use Rattle.std.proofs.Common.{◌/◌, length, ap, arith}
use Rattle.las_header.specs.declared.counts.Counts.{Counts}
use Rattle.las_header.proofs.Public.{left_first, left_next}
use Rattle.laz_forms.proofs.Public.{all_counted, none_counted, one_counted}
use Rattle.laz_writer.proofs.tally.count_all.Goals as goal

pub loop-turn-init : goal.loop-turn-init
loop-turn-init c = record {
  left = left_first c.args.size c.args.records.now c.requires.whole;
  points = omega arith;
  within = c.requires.within;
  counted = λ before is. none_counted c.args.size (length c.args.records.now / c.args.size) c.args.records.now before c.args.counts.now is;
}

pub loop-turn-preserved : goal.loop-turn-preserved
loop-turn-preserved c =
    let size = c.args.size in
    let n = length c.args.records.now / size in
    let t = c.loop-turn._turn in
    record {
      left = left_next size n t c.loop-turn.rest.now c.split_at.result.1.now c.loop-turn-test.true c.split_at.ensures.back c.loop-turn.invariant.left;
      points = omega (arith, c.loop-turn.invariant.points, ap (λ (x : Counts). x.points) c.count_in.ensures.counts);
      within = c.count_in.ensures.within;
      counted = λ before is. one_counted size n t c.args.records.now c.loop-turn.rest.now c.split_at.result.0.now c.split_at.result.1.now before c.loop-turn.counts c.count_in.new.counts c.loop-turn-test.true c.split_at.ensures.front c.split_at.ensures.back (c.loop-turn.invariant.counted before is) c.count_in.ensures.list;
    }

pub returns-clause-counts : goal.returns-clause-counts
returns-clause-counts c before is =
    let size = c.args.size in
    let n = length c.args.records.now / size in
    all_counted size n c.loop-turn._turn c.args.records.now c.loop-turn.rest.now before c.loop-turn.counts (omega (arith, c.loop-turn-test.false)) (c.loop-turn.invariant.counted before is)
