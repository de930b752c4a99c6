use Rattle.std.proofs.Common.{◌≡◌, sym, ◌∙◌, ap}
use Rattle.laz_reader.specs.Reading.{ReaderSeen}
use Rattle.laz_forms.proofs.Public.{known_as, known_at, known_then}
use Rattle.tests_files.proofs.trial.read_range.Goals as goal

pub read_by-requires-clause-stands : goal.read_by-requires-clause-stands
read_by-requires-clause-stands g c κs within =
    let e = c.in_ok-reader.ensures in
    let s = c.seek_record.ensures in
    known_as _ _ _ _ (sym (ap (λ (r : ReaderSeen). r.name) s.sought ∙ e.fresh.named))
    (known_at _ _ _ _ (sym e.reads.held) (known_then _ _ _ _ (λ file st. s.stands file st) e.stands))
