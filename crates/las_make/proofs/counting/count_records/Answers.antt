use Rattle.std.proofs.Common.{◌≡◌, ℕ, ◌+◌, ◌*◌, refl, ◌∙◌, ap, arith, rules}
use Rattle.las_points.specs.Tally.{counts_of}
use Rattle.las_make.specs.Made.{records_from}
use Rattle.las_make.proofs.Steps.{counted_next, points_counted, state_next}
use Rattle.las_make.specs.Drawing.{draws_each}
use Rattle.las_make.proofs.counting.count_records.Goals as goal

pub count_in-requires-clause-room : goal.count_in-requires-clause-room
count_in-requires-clause-room c = omega (arith, points_counted c.args.settings c.loop-k.k c.loop-k.counts c.loop-k.invariant.counted)

pub loop-k-preserved : goal.loop-k-preserved
loop-k-preserved c =
    let s = c.args.settings in
    let k = c.loop-k.k in
    record {
      long = search rules;
      counted = counted_next s k c.flags.result c.loop-k.point c.count_in.new.counts c.draws.result c.loop-k.invariant.long c.flags.ensures (c.draws.ensures.numbers s.seed (draws_each s.format * k) c.loop-k.invariant.before) (λ records is. c.count_in.ensures.list records (c.loop-k.invariant.counted ∙ is));
      within = c.count_in.ensures.within;
      before = state_next s k (k + 1) c.loop-k.generator.state c.draws.new.self.state c.loop-k.invariant.before c.draws.ensures.state refl;
    }

pub returns : goal.returns
returns c =
    let all : c.loop-k.k ≡ c.args.settings.points = omega (arith, c.loop-k-test.false, c.loop-k.auto.k-end) in
    c.loop-k.invariant.counted ∙ ap (λ (n : ℕ). counts_of (records_from c.args.settings 0 n)) all
