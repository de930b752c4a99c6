use Rattle.std.proofs.Common.{◌≡◌, sym}
use Rattle.laz_forms.proofs.Public.{known_as, known_at}
use Rattle.tests_files.proofs.trial.read_file.Goals as goal

pub read_by-requires-clause-stands : goal.read_by-requires-clause-stands
read_by-requires-clause-stands g c κs within =
    let e = c.in_ok-reader.ensures in
    known_as _ _ _ _ (sym e.fresh.named) (known_at _ _ _ _ (sym e.reads.held) e.stands)
