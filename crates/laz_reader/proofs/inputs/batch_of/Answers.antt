use Rattle.laz_reader.proofs.inputs.batch_of.Goals as goal

pub returns-then-not-may_hold-clause-cut : goal.returns-then-not-may_hold-clause-cut
returns-then-not-may_hold-clause-cut c = λ lt bytes long block are holds. c.may_hold.ensures.none c.if-not-may_hold.true bytes long block are holds
