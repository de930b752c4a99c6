use Rattle.std.proofs.Common.{sym, ◌∙◌, ap}
use Rattle.laz_reader.specs.Reading.{ReaderSeen}
use Rattle.laz_forms.proofs.Public.{known_as, known_at}
use Rattle.tests_files.proofs.trial.read_on.Goals as goal

pub loop-batch-preserved : goal.loop-batch-preserved
loop-batch-preserved g c =
    let e = c.in_ok-n.ensures in
    record {
      sound = ap (λ (r : ReaderSeen). r.failed) e.moved ∙ c.loop-batch.invariant.sound;
      crew = e.crew;
      stands = known_as _ _ _ _ (sym (ap (λ (r : ReaderSeen). r.name) e.moved)) (known_at _ _ _ _ (sym e.reads.only.held) e.stands);
    }
