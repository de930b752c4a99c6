use Rattle.std.proofs.Common.{◌++◌, refl}
use Rattle.laz_range.specs.Coding.{Codes}
use Rattle.laz_integer.specs.Events.{cuts_after}
use Rattle.laz_integer.specs.Integer.{IntEvents, IntSpell, IntStands}
use Rattle.laz_gpstime.specs.Meanings.{time_kind}
use Rattle.laz_gpstime.specs.State.{state_of}
use Rattle.laz_gpstime.proofs.Models.{passed, word-stands}
use Rattle.laz_gpstime.proofs.times.put_word.Goals as goal

pub returns-clause-codes : goal.returns-clause-codes
returns-clause-codes c earlier h =
    passed (λ b p r. Codes c.args.encoder.now c.code_of.new.encoder (cuts_after earlier (IntEvents time_kind b c.args.ctx p r)))
    c.args.times.now.integers.bits c.cast_signed.result c.cast_signed-2.result c.args.pred c.args.real c.requires.state.integers.bits c.ranges.pred.fits c.ranges.real.fits c.cast_signed.ensures c.cast_signed-2.ensures
    (c.code_of.ensures.events time_kind earlier h.integers)

pub returns-clause-stands : goal.returns-clause-stands
returns-clause-stands c earlier h =
    let new = state_of (record { sequences = c.args.times.now.sequences; symbols = c.args.times.now.symbols; integers = c.code_of.new.self }) in
    word-stands earlier (state_of c.args.times.now) new c.args.ctx _ _ h refl
    (passed (λ b p r. IntSpell time_kind b c.args.ctx p (IntEvents time_kind b c.args.ctx p r) r c.code_of.result)
    c.args.times.now.integers.bits c.cast_signed.result c.cast_signed-2.result c.args.pred c.args.real c.requires.state.integers.bits c.ranges.pred.fits c.ranges.real.fits c.cast_signed.ensures c.cast_signed-2.ensures
    (c.code_of.ensures.spells time_kind))
    (passed (λ b p r. IntStands time_kind (earlier ++ IntEvents time_kind b c.args.ctx p r) new.integers)
    c.args.times.now.integers.bits c.cast_signed.result c.cast_signed-2.result c.args.pred c.args.real c.requires.state.integers.bits c.ranges.pred.fits c.ranges.real.fits c.cast_signed.ensures c.cast_signed-2.ensures
    (c.code_of.ensures.stands time_kind earlier h.integers))
