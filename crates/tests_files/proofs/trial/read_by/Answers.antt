use Rattle.std.proofs.Common.{◌≡◌, sym, ap}
use Rattle.laz_reader.specs.Reading.{ReaderSeen}
use Rattle.laz_forms.proofs.Public.{known_as, known_then}
use Rattle.laz_file.proofs.Public.{stands_ready}
use Rattle.tests_files.proofs.trial.read_by.Goals as goal

pub read_on-requires-clause-stands : goal.read_on-requires-clause-stands
read_on-requires-clause-stands g c κs within =
    let kept = c.in_ok-crew.ensures.kept in
    known_as _ _ _ _ (sym (ap (λ (r : ReaderSeen). r.name) kept))
    (known_then _ _ _ _ (λ file s. stands_ready _ c.crew.new.self _ file kept s) c.requires.stands)
