use Rattle.std.proofs.Common.{◌≡◌, ◌+◌, ◌∙◌, sym, arith}
use Rattle.las_split.specs.Parts.{number_by}
use Rattle.las_split.proofs.Runs.{number_all, number_more}
use Rattle.las_split.proofs.running.each_has.Goals as goal
use Rattle.laz_forms.proofs.Public.{rest_next}

pub loop-turn-preserved : goal.loop-turn-preserved
loop-turn-preserved c =
    let t = c.loop-turn.turn in
    let group = c.args.group.now in
    let rest = c.loop-turn.rest.now in
    let point = c.split_at.result.0.now in
    let is : number_by c.args.rule.now (c.args.index + t) point ≡ c.args.number = sym c.part_of.ensures ∙ omega (arith, c.if-part_of-number.false) in
    record {
      rest = rest_next c.args.size t group rest c.split_at.result.1.now c.loop-turn.invariant.rest c.split_at.ensures.back;
      all = number_more c.args.rule.now c.args.index c.args.size t group point rest c.args.number c.loop-turn-test.true c.loop-turn.invariant.rest c.split_at.ensures.front is c.loop-turn.invariant.all;
    }

pub returns : goal.returns
returns c holds =
    number_all c.args.rule.now c.args.index c.args.size c.loop-turn.turn c.args.group.now c.args.number (omega (arith, c.loop-turn-test.false)) c.loop-turn.invariant.all
