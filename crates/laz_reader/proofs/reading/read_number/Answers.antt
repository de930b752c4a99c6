use Rattle.laz_reader.specs.Reading.{FailsReading}
use Rattle.laz_reader.proofs.Exits.{at_exit}
use Rattle.std.proofs.lemmas.Result.{IfOk-from_err}
use Rattle.std.proofs.Common.{sym, ◌∙◌, ap}
use Rattle.las_header.specs.Numbers.{number_at}
use Rattle.las_header.proofs.Public.{number_at-part}
use Rattle.laz_forms.proofs.Public.{known_then}
use Rattle.laz_reader.proofs.reading.read_number.Goals as goal

pub returns-in_err-read_exactly : goal.returns-in_err-read_exactly
returns-in_err-read_exactly g c =
    record {
      number = IfOk-from_err c.from_residual.result _ c.from_residual.ensures.0;
      reads = c.read_exactly.ensures.reads;
      calm = IfOk-from_err c.from_residual.result _ c.from_residual.ensures.0;
      ends = at_exit c.from_residual.result c.in_err-read_exactly.field-0.0
          (FailsReading (g.F.Files.seen c.args.files.now) (g.F.Files.seen c.read_exactly.new.files))
          c.from_residual.ensures.1
          c.in_err-read_exactly.ensures.ends;
    }

pub returns : goal.returns
returns g c =
    record {
      number =
          known_then _ _ _ _ (λ file is. c.u64_at.ensures ∙ ap (number_at 8 0) is ∙
          sym (number_at-part 8 c.args.at file)) c.in_ok-read_exactly.ensures.bytes;
      reads = c.read_exactly.ensures.reads;
      calm = c.in_ok-read_exactly.ensures.calm;
      ends = tt;
    }
