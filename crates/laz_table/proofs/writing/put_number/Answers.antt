use Rattle.std.proofs.Common.{List, ◌++◌, subst}
use Rattle.laz_range.specs.Coding.{Codes}
use Rattle.laz_integer.specs.Events.{Event, cuts_after}
use Rattle.laz_integer.specs.Integer.{IntStands}
use Rattle.laz_table.specs.Entries.{table_use}
use Rattle.laz_table.proofs.WritingLemmas.{passed-is, same-events}
use Rattle.laz_table.proofs.writing.put_number.Goals as goal

pub returns-clause-codes : goal.returns-clause-codes
returns-clause-codes c earlier h =
    let same = same-events c.args.model.now.bits c.context_of-context.result _ _ c.args.counts_points c.args.before c.args.number c.requires.models.bits c.context_of-context.ensures.context (passed-is c.cast_signed.result c.args.before c.ranges.before.fits c.cast_signed.ensures) (passed-is c.cast_signed-2.result c.args.number c.ranges.number.fits c.cast_signed-2.ensures) in
    subst (λ (es : List Event). Codes c.args.encoder.now c.code.new.encoder (cuts_after earlier es)) same (c.code.ensures.events table_use earlier h)

pub returns-clause-stands : goal.returns-clause-stands
returns-clause-stands c earlier h =
    let same = same-events c.args.model.now.bits c.context_of-context.result _ _ c.args.counts_points c.args.before c.args.number c.requires.models.bits c.context_of-context.ensures.context (passed-is c.cast_signed.result c.args.before c.ranges.before.fits c.cast_signed.ensures) (passed-is c.cast_signed-2.result c.args.number c.ranges.number.fits c.cast_signed-2.ensures) in
    subst (λ (es : List Event). IntStands table_use (earlier ++ es) c.code.new.self) same (c.code.ensures.stands table_use earlier h)
