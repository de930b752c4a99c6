use Rattle.laz_forms.specs.declared.fault.Fault.TheVariants.{Memory}
use Rattle.laz_forms.proofs.Public.{if_err}
use Rattle.std.proofs.lemmas.Result.{IfOk-from_err}
use Rattle.std.proofs.Common.{◌≡◌, ◌*◌, ap, arith}
use Rattle.laz_reader.specs.Asking.{bytes_left}
use Rattle.las_merge.proofs.Taken.{copied_input, failed_input, none_copied, reads_ready}
use Rattle.las_merge.proofs.copying.copy_input.Goals as goal
use Rattle.las_outside.proofs.Public.{on_err, later-refl}

pub returns-in_err-crew-clause-left : goal.returns-in_err-crew-clause-left
returns-in_err-crew-clause-left g c =
    on_err c.from_residual.result (none_copied (g.F.Files.seen c.args.files.now) c.args.reader c.args.writer.now c.requires.reads)

pub copy_records-requires-clause-reads : goal.copy_records-requires-clause-reads
copy_records-requires-clause-reads g c κs within =
    let old = g.F.Files.seen c.args.files.now in
    let w = c.args.writer.now in
    reads_ready old old c.args.reader c.crew.new.self (2 * c.hands-hands.result) c.in_ok-crew.ensures.kept c.requires.fresh.whole c.requires.reads w w

pub returns-clause-copied : goal.returns-clause-copied
returns-clause-copied g c =
    copied_input (g.F.Files.seen c.args.files.now) (g.F.Files.seen c.copy_records.new.files) c.args.reader c.crew.new.self (2 * c.hands-hands.result) c.in_ok-crew.ensures.kept c.requires.fresh.whole c.requires.reads c.args.writer.now c.copy_records.new.writer c.requires.room.size c.copy_records.result c.copy_records.ensures.copied

pub returns-clause-left : goal.returns-clause-left
returns-clause-left g c =
    failed_input (g.F.Files.seen c.args.files.now) (g.F.Files.seen c.copy_records.new.files) c.args.reader c.crew.new.self (2 * c.hands-hands.result) c.in_ok-crew.ensures.kept c.requires.fresh.whole c.requires.reads c.args.writer.now c.copy_records.new.writer c.copy_records.result c.copy_records.ensures.part

pub returns-clause-frame : goal.returns-clause-frame
returns-clause-frame g c =
    let same : bytes_left c.crew.new.self ≡ bytes_left c.args.reader = ap bytes_left c.in_ok-crew.ensures.kept in
    record {
      asked = omega (arith, same, c.copy_records.ensures.asked);
      later = c.copy_records.ensures.later;
    }

pub returns-in_err-crew-clause-copied : goal.returns-in_err-crew-clause-copied
returns-in_err-crew-clause-copied g c = IfOk-from_err c.from_residual.result _ c.from_residual.ensures.0

pub returns-in_err-crew-clause-open : goal.returns-in_err-crew-clause-open
returns-in_err-crew-clause-open g c = IfOk-from_err c.from_residual.result _ c.from_residual.ensures.0

pub returns-in_err-crew-clause-most : goal.returns-in_err-crew-clause-most
returns-in_err-crew-clause-most g c = IfOk-from_err c.from_residual.result _ c.from_residual.ensures.0

pub returns-in_err-crew-clause-calm : goal.returns-in_err-crew-clause-calm
returns-in_err-crew-clause-calm g c = IfOk-from_err c.from_residual.result _ c.from_residual.ensures.0

pub returns-in_err-crew-clause-cause : goal.returns-in_err-crew-clause-cause
returns-in_err-crew-clause-cause g c = if_err _ c.from_residual.result Memory c.from_residual.ensures.1 tt

pub returns-in_err-crew-clause-frame : goal.returns-in_err-crew-clause-frame
returns-in_err-crew-clause-frame g c = record { asked = omega arith; later = later-refl _ }
