use Rattle.std.proofs.Common.{ap, sym, ◌∙◌, arith}
use Rattle.las_words.specs.Texts.{texts}
use Rattle.las_words.specs.Faults.{fits}
use Rattle.las_words.proofs.Wrong.{missing_here, wrong_here, right_here}
use Rattle.las_words.proofs.faults.first_wrong.Goals as goal
use Rattle.las_words.proofs.faults.first_wrong.Goals.{then-k-after-via-then-k-after, then-k-after-via-else-k-after+then-not-fits}

pub returns-then-k-after : goal.returns-then-k-after
returns-then-k-after c = let names = texts c.args.names.now in elim c.then-k-after.branch [
  | then-k-after-via-then-k-after w ↦ missing_here names c.args.values c.args.at c.args.count c.loop-k.k c.args.after.now _ c.loop-k-test.true w.if-k-after.true c.loop-k.invariant.rest
  | then-k-after-via-else-k-after+then-not-fits w ↦ wrong_here names c.args.values c.args.at c.args.count c.loop-k.k c.args.after.now _ c.loop-k-test.true w.if-k-after.false (ap (fits names c.args.values) (sym w.word.ensures) ∙ sym w.fits.ensures ∙ w.if-not-fits.true) c.loop-k.invariant.rest
]

pub loop-k-preserved : goal.loop-k-preserved
loop-k-preserved c = let names = texts c.args.names.now in record {
  rest = right_here names c.args.values c.args.at c.args.count c.loop-k.k c.args.after.now _ c.loop-k-test.true c.if-k-after.false (ap (fits names c.args.values) (sym c.word.ensures) ∙ sym c.fits.ensures ∙ c.if-not-fits.false) c.loop-k.invariant.rest;
  within = omega arith;
}
