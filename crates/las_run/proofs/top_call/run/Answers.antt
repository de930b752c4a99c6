use Rattle.std.proofs.Common.{◌≡◌, map, refl, Result, Err, ◌∙◌, ap}
use Rattle.las_words.specs.Texts.{texts}
use Rattle.las_run.specs.declared.stop.Stop.{Stop}
use Rattle.las_run.specs.Runs.{task_of}
use Rattle.las_run.specs.Endings.{status_of}
use Rattle.las_run.specs.Ends.{cause_of, names_read, stop_of}
use Rattle.las_outside.specs.Frames.{IsCalm}
use Rattle.las_run.specs.Seen.{RunSeen, change_of}
use Rattle.las_run.proofs.Calm.{out_settled, settled}
use Rattle.las_run.proofs.Asking.{asks_merged, asks_read, asks_whole}
use Rattle.las_run.proofs.Keeping.{Asks, AsksAll, AsksMerged, EndsUnasked, StaysCalm, keeps}
use Rattle.las_run.proofs.Saying.{is_read_of, names_of_taps, not_read, two_or_one}
use Rattle.las_run.proofs.top_call.run.Goals as goal

pub returns : goal.returns
returns g c =
    let task = task_of (texts c.args.words.now) (map (λ tap. (goal.Tap-dyn g (tap.vtable, tap.value)).tap_seen tap.value) c.args.taps.items) in
    let run : RunSeen = record {
      task = task;
      status = c.status.result;
      files = g.F.Files.seen c.args.files.now;
      files_now = g.F.Files.seen c.work-outcome.new.files;
      out = g.O.Sink.seen c.args.out.now;
      out_now = g.O.Sink.seen c.work-outcome.new.out;
      err = g.E.Sink.seen c.args.err.now;
      err_now = g.E.Sink.seen c.report.new.err;
    } in
    let said = c.read_words-said.result in
    let names = names_read said in
    let read = is_read_of (texts c.args.words.now) _ task.taps said (ap (map (λ tap. ((goal.Tap-dyn g (tap.vtable, tap.value)).tap_seen tap.value).name)) c.deref.ensures.value ∙ names_of_taps (λ tap. (goal.Tap-dyn g (tap.vtable, tap.value)).tap_seen tap.value) c.args.taps.items) c.read_words-said.ensures.command c.read_words-said.ensures.usage in
    let is = c.status.ensures.status names in
    let unasked : EndsUnasked run = λ index wrong.
    let f = not_read task.said said index read wrong in
    let unread = c.work-outcome.ensures.unread f.0 f.1 in
    let status_is : c.status.result ≡ status_of (cause_of names (Err (stop_of f.0))) = is ∙ ap (λ (o : Result (Unit {0}) Stop). status_of (cause_of names o)) unread.0 in
    (rw status_is (two_or_one names f.0), unread.1) in
    let asks : Asks run = λ input options workers asked.
    asks_read task.said said input options workers run.files run.files_now read asked (λ f unread. (c.work-outcome.ensures.unread f unread).1) c.work-outcome.ensures.asks in
    let whole : AsksAll run = λ input own workers asked.
    asks_whole task.said said input own workers run.files run.files_now read asked (λ f unread. (c.work-outcome.ensures.unread f unread).1) c.work-outcome.ensures.asks in
    let merged : AsksMerged run = λ options workers asked.
    asks_merged task.said said options workers run.files run.files_now read asked (λ f unread. (c.work-outcome.ensures.unread f unread).1) c.work-outcome.ensures.asks in
    let calm : StaysCalm run = λ decided.
    let outcome = c.work-outcome.result in
    let w = c.work-outcome.ensures in
    let e = w.ends task refl read in (
      settled names outcome (IsCalm run.files run.files_now) run.status is w.calm w.calm_stopped decided,
      out_settled task (change_of run) names outcome run.status is w.calm_out e decided,
    ) in
    keeps run (cause_of names c.work-outcome.result) is c.report.ensures.line (c.work-outcome.ensures.ends task refl read) unasked asks whole merged c.work-outcome.ensures.later c.status.ensures.known c.no_task_is_without_an_ending.ensures calm
