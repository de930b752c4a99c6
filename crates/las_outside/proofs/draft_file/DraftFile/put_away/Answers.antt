use Rattle.las_outside.proofs.LeftDrafts.{not_removed}
use Rattle.las_outside.proofs.draft_file.DraftFile.put_away.Goals as goal

pub returns-then-not-remove : goal.returns-then-not-remove
returns-then-not-remove g c = not_removed c.args.keep c.as_str-then-not-remove.result.now (g.E.Sink.seen c.args.err.now) (g.E.Sink.seen c.say-then-not-remove.new.err) c.if-keep.false c.say-then-not-remove.ensures
