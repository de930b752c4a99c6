use Rattle.las_run.proofs.Saying.{ends_read, ends_unread}
use Rattle.las_run.proofs.Asking.{asks_obeyed, not_both}
use Rattle.las_run.proofs.top_call.work.Goals as goal

pub returns-in-Ok-clause-ends : goal.returns-in-Ok-clause-ends
returns-in-Ok-clause-ends g c = λ task taps read. ends_read task c.args.said.now c.in-Ok.command _ c.obey.result c.in-Ok.is read (c.obey.ensures.ends task taps)

pub returns-in-Err-clause-ends : goal.returns-in-Err-clause-ends
returns-in-Err-clause-ends g c =
    λ task taps read. ends_unread task c.args.said.now c.in-Err.fault c.stop.result (g.F.Files.seen c.args.files.now) (g.O.Sink.seen c.args.out.now) c.in-Err.is c.stop.ensures read

pub returns-in-Ok-clause-asks : goal.returns-in-Ok-clause-asks
returns-in-Ok-clause-asks g c = λ command is. asks_obeyed c.args.said.now c.in-Ok.command command (g.F.Files.seen c.args.files.now) (g.F.Files.seen c.obey.new.files) c.in-Ok.is is c.obey.ensures.asks

pub returns-in-Err-clause-asks : goal.returns-in-Err-clause-asks
returns-in-Err-clause-asks g c = λ command is. absurd (not_both c.args.said.now command c.in-Err.fault is c.in-Err.is)
