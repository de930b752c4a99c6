use Rattle.std.proofs.Common.{◌++◌}
use Rattle.laz_range.specs.Coding.{Codes}
use Rattle.laz_integer.specs.Events.{cuts_after}
use Rattle.laz_integer.specs.Integer.{IntEvents, IntSpell, IntStands}
use Rattle.laz_integer.proofs.Spellings.{both-passed}
use Rattle.laz_integer.proofs.int_model.IntModel.code.Goals as goal

pub returns-clause-events : goal.returns-clause-events
returns-clause-events c kind earlier h =
    both-passed (λ p r. Codes c.args.encoder.now c.code_of.new.encoder (cuts_after earlier (IntEvents kind c.args.self.now.bits c.args.ctx p r)))
    c.args.pred c.args.real c.ranges.pred c.ranges.real
    (c.code_of.ensures.events kind earlier h)

pub returns-clause-stands : goal.returns-clause-stands
returns-clause-stands c kind earlier h =
    both-passed (λ p r. IntStands kind (earlier ++ IntEvents kind c.args.self.now.bits c.args.ctx p r) c.code_of.new.self)
    c.args.pred c.args.real c.ranges.pred c.ranges.real
    (c.code_of.ensures.stands kind earlier h)

pub returns-clause-spells : goal.returns-clause-spells
returns-clause-spells c kind =
    both-passed (λ p r. IntSpell kind c.args.self.now.bits c.args.ctx p (IntEvents kind c.args.self.now.bits c.args.ctx p r) r c.code_of.result)
    c.args.pred c.args.real c.ranges.pred c.ranges.real
    (c.code_of.ensures.spells kind)
