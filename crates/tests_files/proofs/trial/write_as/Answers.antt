use Rattle.std.proofs.Common.{◌∙◌, sym}
use Rattle.laz_forms.specs.Outputs.{Output}
use Rattle.tests_files.proofs.trial.write_as.Goals as goal

pub push_all-requires-clause-size : goal.push_all-requires-clause-size
push_all-requires-clause-size g c κs within = c.in_ok-writer.ensures.stands.size ∙ sym c.record_length-size.ensures.field

pub push_all-requires-clause-stands : goal.push_all-requires-clause-stands
push_all-requires-clause-stands g c κs within =
    let out : Output = record { name = c.args.name.now; head = c.args.head.now.bytes; chunk = c.args.chunk; counted = c.args.form.counted } in
    (g.F.Files.seen c.args.files.now, out, c.in_ok-writer.ensures.stands)
