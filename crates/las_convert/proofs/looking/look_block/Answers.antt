use Rattle.std.proofs.Common.{◌++◌, [], ℕ, List, ◌∙◌, subst, arith}
use Rattle.las_filter.specs.Kept.{steps_of}
use Rattle.las_header.specs.Plain.{cut_records}
use Rattle.las_thin.specs.Kept.{passing}
use Rattle.las_thin.specs.Sieving.{HasSifted}
use Rattle.las_convert.proofs.Cuts.{after_next, reached}
use Rattle.las_convert.proofs.looking.look_block.Goals as goal
use Rattle.laz_forms.proofs.Public.{rest_next}

pub look_at-requires-clause-looked : goal.look_at-requires-clause-looked
look_at-requires-clause-looked c =
    let a = c.requires.looked in
    let t = c.loop-turn._turn in
    (a.0 ++ cut_records c.args.size t c.args.block.now, reached a.0 c.args.size t c.args.block.now c.args.read c.loop-turn.place a.1 c.loop-turn.invariant.place, c.loop-turn.invariant.stands a.0 a.1 a.2)

pub loop-turn-preserved : goal.loop-turn-preserved
loop-turn-preserved c =
    let plan = steps_of c.args.plan.now in
    let size = c.args.size in
    let block = c.args.block.now in
    let t = c.loop-turn._turn in
    record {
      rest = rest_next size t block c.loop-turn.rest.now c.split_at.result.1.now c.loop-turn.invariant.rest c.split_at.ensures.back;
      place = omega (arith, c.loop-turn.invariant.place);
      settings = c.look_at.ensures.settings ∙ c.loop-turn.invariant.settings;
      stands = λ before is stands.
          let here = reached before size t block c.args.read c.loop-turn.place is c.loop-turn.invariant.place in
          subst (λ (records : List (List ℕ)). HasSifted (passing plan records) [] c.look_at.new.sieve) (after_next before size t block c.loop-turn.rest.now c.split_at.result.0.now c.loop-turn.invariant.rest c.split_at.ensures.front)
          (c.in_ok-look_at.ensures.stands (before ++ cut_records size t block) here (c.loop-turn.invariant.stands before is stands));
    }
