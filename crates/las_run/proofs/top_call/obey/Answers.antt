use Rattle.std.proofs.Common.{◌≡◌, ◌≢◌, [], ◌∷◌, List, ℕ, map, sym, ◌∙◌, ap, subst}
use Rattle.std.specs.Prelude.{string_bytes}
use Rattle.las_filter.specs.Kept.{steps_of}
use Rattle.las_info.specs.Tallies.{TapSeen}
use Rattle.las_words.specs.declared.command.Command.{Command}
use Rattle.las_words.specs.Asked.{Asked, IsSoundAsked, asked_by, las2las, lasinfo, lasmerge, lassplit, laszip, make, reads}
use Rattle.las_words.specs.Asked.{Work, work_by, workers_by}
use Rattle.las_words.specs.Texts.{texts}
use Rattle.laz_forms.proofs.Public.{All-unmap}
use Rattle.las_make.specs.declared.settings.Settings.{Settings}
use Rattle.las_run.specs.Ends.{Change, Ends, cause_of}
use Rattle.las_run.specs.Asking.{WorkAsks}
use Rattle.las_run.specs.Runs.{task_with}
use Rattle.las_run.specs.declared.conversion.Conversion.{Conversion}
use Rattle.las_run.specs.Tools.{las2las_options, options_with}
use Rattle.las_run.proofs.Saying.{by_task}
use Rattle.las_run.proofs.top_call.obey.Given.{Over}
use Rattle.las_run.proofs.top_call.obey.Goals.{After-las2las, After-lasinfo, After-lasmerge, After-lassplit}
use Rattle.las_run.proofs.top_call.obey.Goals.{After-laszip}
use Rattle.las_run.proofs.top_call.obey.Goals as goal

-- A command asks for the work of its variant, with its number of workers.
asked_is : {command variant : Command} {n : ℕ} → command ≡ variant → n ≡ workers_by command
    → record { work = work_by variant; workers = n } ≡ asked_by command
asked_is {command} {variant} {n} is count =
    ap (λ (w : Work). record { work = w; workers = n }) (sym (ap work_by is))
    ∙ ap (λ (k : ℕ). record { work = work_by command; workers = k }) count

-- What a command asks for is what the call that serves it was given, word for word.
module _ (g : Over) (c : After-laszip g) where
  abbrev for_laszip : (input output : List ℕ) → Asked
  for_laszip input output = record {
    work = reads input (laszip (record { output = output; chunk = c.in-Laszip.chunk }));
    workers = c.workers.result;
  }

  laszip_asked : for_laszip c.deref.result.now c.deref-in-Laszip.result.now ≡ asked_by c.args.command.now
  laszip_asked =
      ap (λ (i : List ℕ). for_laszip i c.deref-in-Laszip.result.now) c.deref.ensures
      ∙ ap (for_laszip (string_bytes c.in-Laszip.input)) c.deref-in-Laszip.ensures
      ∙ asked_is c.in-Laszip.is c.workers.ensures

module _ (g : Over) (c : After-las2las g) where
  abbrev conversion : Conversion
  conversion = record {
    packing = c.in-Las2las.packing;
    start = c.in-Las2las.start;
    stop = c.in-Las2las.stop;
    step = c.in-Las2las.step;
    pick = c.in-Las2las.pick;
    unique = c.in-Las2las.unique;
  }

  abbrev for_las2las : (input output : List ℕ) (tallies : List (List ℕ)) → Asked
  for_las2las input output tallies = record {
    work = reads input (las2las (las2las_options output (steps_of c.in-Las2las.plan) conversion tallies));
    workers = c.workers.result;
  }

  abbrev las2las_given : Asked
  las2las_given = for_las2las c.deref-in-Las2las.result.now c.deref-in-Las2las-2.result.now
      (texts c.deref-in-Las2las-3.result.now)

  las2las_asked : las2las_given ≡ asked_by c.args.command.now
  las2las_asked =
      ap (λ (i : List ℕ). for_las2las i c.deref-in-Las2las-2.result.now (texts c.deref-in-Las2las-3.result.now))
      c.deref-in-Las2las.ensures
      ∙ ap (λ (o : List ℕ). for_las2las (string_bytes c.in-Las2las.input) o (texts c.deref-in-Las2las-3.result.now))
      c.deref-in-Las2las-2.ensures
      ∙ ap (λ ts. for_las2las (string_bytes c.in-Las2las.input) (string_bytes c.in-Las2las.output) (texts ts))
      c.deref-in-Las2las-3.ensures.value ∙ asked_is c.in-Las2las.is c.workers.ensures

module _ (g : Over) (c : After-lasinfo g) where
  abbrev for_lasinfo : (input : List ℕ) (tallies : List (List ℕ)) → Asked
  for_lasinfo input tallies = record {
    work = reads input (lasinfo (record { tallies = tallies }));
    workers = c.workers.result;
  }

  abbrev lasinfo_given : Asked
  lasinfo_given = for_lasinfo c.deref-in-Lasinfo.result.now (texts c.deref-in-Lasinfo-2.result.now)

  lasinfo_asked : lasinfo_given ≡ asked_by c.args.command.now
  lasinfo_asked =
      ap (λ (i : List ℕ). for_lasinfo i (texts c.deref-in-Lasinfo-2.result.now)) c.deref-in-Lasinfo.ensures
      ∙ ap (λ ts. for_lasinfo (string_bytes c.in-Lasinfo.input) (texts ts)) c.deref-in-Lasinfo-2.ensures.value
      ∙ asked_is c.in-Lasinfo.is c.workers.ensures

module _ (g : Over) (c : After-lassplit g) where
  abbrev for_lassplit : (input stem end : List ℕ) → Asked
  for_lassplit input stem end = record {
    work = reads input (lassplit (record { stem = stem; end = end; rule = c.in-Lassplit.rule }));
    workers = c.workers.result;
  }

  lassplit_asked : for_lassplit c.deref-in-Lassplit.result.now c.deref-in-Lassplit-2.result.now
      c.deref-in-Lassplit-3.result.now ≡ asked_by c.args.command.now
  lassplit_asked =
      ap (λ (i : List ℕ). for_lassplit i c.deref-in-Lassplit-2.result.now c.deref-in-Lassplit-3.result.now)
      c.deref-in-Lassplit.ensures
      ∙ ap (λ (s : List ℕ). for_lassplit (string_bytes c.in-Lassplit.input) s c.deref-in-Lassplit-3.result.now)
      c.deref-in-Lassplit-2.ensures
      ∙ ap (for_lassplit (string_bytes c.in-Lassplit.input) (string_bytes c.in-Lassplit.stem))
      c.deref-in-Lassplit-3.ensures ∙ asked_is c.in-Lassplit.is c.workers.ensures

pub returns-in-Laszip-clause-ends : goal.returns-in-Laszip-clause-ends
returns-in-Laszip-clause-ends g c =
    λ task taps said. by_task task _ _ _ c.laszip.result said
    (laszip_asked g (goal.at.returns-in-Laszip-clause-ends g c).After-laszip)
    (c.laszip.ensures.ends task.taps (g.O.Sink.seen c.args.out.now))

pub returns-in-Las2las-clause-ends : goal.returns-in-Las2las-clause-ends
returns-in-Las2las-clause-ends g c =
    let k = (goal.at.returns-in-Las2las-clause-ends g c).After-las2las in
    let change : Change = record {
      files = g.F.Files.seen c.args.files.now;
      files_now = g.F.Files.seen c.las2las.new.files;
      out = g.O.Sink.seen c.args.out.now;
      out_now = g.O.Sink.seen c.las2las.new.out;
    } in
    λ task taps said. by_task task _ _ change c.las2las.result said (las2las_asked g k)
    (subst (λ (ts : List TapSeen). Ends (task_with ts (las2las_given g k)) change
    (cause_of (c.deref-in-Las2las.result.now ∷ []) c.las2las.result)) (sym taps) c.las2las.ensures.ends)

pub returns-in-Lasinfo-clause-ends : goal.returns-in-Lasinfo-clause-ends
returns-in-Lasinfo-clause-ends g c =
    let k = (goal.at.returns-in-Lasinfo-clause-ends g c).After-lasinfo in
    let change : Change = record {
      files = g.F.Files.seen c.args.files.now;
      files_now = g.F.Files.seen c.lasinfo.new.files;
      out = g.O.Sink.seen c.args.out.now;
      out_now = g.O.Sink.seen c.lasinfo.new.out;
    } in
    λ task taps said. by_task task _ _ change c.lasinfo.result said (lasinfo_asked g k)
    (subst (λ (ts : List TapSeen). Ends (task_with ts (lasinfo_given g k)) change
    (cause_of (c.deref-in-Lasinfo.result.now ∷ []) c.lasinfo.result)) (sym taps) c.lasinfo.ensures.ends)

pub returns-in-Lassplit-clause-ends : goal.returns-in-Lassplit-clause-ends
returns-in-Lassplit-clause-ends g c =
    λ task taps said. by_task task _ _ _ c.lassplit.result said
    (lassplit_asked g (goal.at.returns-in-Lassplit-clause-ends g c).After-lassplit)
    (c.lassplit.ensures.ends task.taps (g.O.Sink.seen c.args.out.now))

-- the work of `lasmerge`, as its call was given it
module _ (g : Over) (c : After-lasmerge g) where
  abbrev lasmerge_given : (inputs : List (List ℕ)) (output : List ℕ) → Asked
  lasmerge_given inputs output = record {
    work = lasmerge (record {
      inputs = inputs;
      output = output;
      packed = c.in-Lasmerge.packing.packed;
      chunk = c.in-Lasmerge.packing.chunk;
      copy = c.in-Lasmerge.copy;
    });
    workers = c.workers.result;
  }

  lasmerge_asked : lasmerge_given (texts c.deref-in-Lasmerge.result.now) c.deref-in-Lasmerge-2.result.now ≡ asked_by c.args.command.now
  lasmerge_asked =
      ap (λ ts. lasmerge_given (texts ts) c.deref-in-Lasmerge-2.result.now) c.deref-in-Lasmerge.ensures.value
      ∙ ap (lasmerge_given (texts c.in-Lasmerge.inputs.items)) c.deref-in-Lasmerge-2.ensures
      ∙ asked_is c.in-Lasmerge.is c.workers.ensures

pub returns-in-Lasmerge-clause-ends : goal.returns-in-Lasmerge-clause-ends
returns-in-Lasmerge-clause-ends g c =
    λ task taps said. by_task task _ _ _ c.lasmerge.result said
    (lasmerge_asked g (goal.at.returns-in-Lasmerge-clause-ends g c).After-lasmerge)
    (c.lasmerge.ensures.ends task.taps (g.O.Sink.seen c.args.out.now))

pub returns-in-Make-clause-ends : goal.returns-in-Make-clause-ends
returns-in-Make-clause-ends g c =
    let w = c.in-Make in
    let packed = c.deref-in-Make-2.result.now in
    let settings : Settings = record { points = w.points; seed = w.seed; format = w.format; extra = w.extra } in
    let asks_for : (output packed : List ℕ) → Asked =
    λ output packed. record { work = make (options_with output packed settings w.chunk); workers = c.workers.result } in
    let asked : asks_for c.deref-in-Make.result.now packed ≡ asked_by c.args.command.now =
    ap (λ (o : List ℕ). asks_for o packed) c.deref-in-Make.ensures
    ∙ ap (asks_for (string_bytes w.output)) c.deref-in-Make-2.ensures ∙ asked_is w.is c.workers.ensures in
    λ task taps said. by_task task _ _ _ c.make.result said asked (c.make.ensures.ends task.taps)

pub returns-in-Las2las-clause-asks : goal.returns-in-Las2las-clause-asks
returns-in-Las2las-clause-asks g c =
    subst (λ (a : Asked). WorkAsks a.work (g.F.Files.seen c.args.files.now) (g.F.Files.seen c.las2las.new.files))
    (las2las_asked g (goal.at.returns-in-Las2las-clause-asks g c).After-las2las) c.las2las.ensures.asks

pub returns-in-Laszip-clause-asks : goal.returns-in-Laszip-clause-asks
returns-in-Laszip-clause-asks g c =
    subst (λ (a : Asked). WorkAsks a.work (g.F.Files.seen c.args.files.now) (g.F.Files.seen c.laszip.new.files))
    (laszip_asked g (goal.at.returns-in-Laszip-clause-asks g c).After-laszip) c.laszip.ensures.asks

pub returns-in-Lasinfo-clause-asks : goal.returns-in-Lasinfo-clause-asks
returns-in-Lasinfo-clause-asks g c =
    subst (λ (a : Asked). WorkAsks a.work (g.F.Files.seen c.args.files.now) (g.F.Files.seen c.lasinfo.new.files))
    (lasinfo_asked g (goal.at.returns-in-Lasinfo-clause-asks g c).After-lasinfo) c.lasinfo.ensures.asks

pub returns-in-Lassplit-clause-asks : goal.returns-in-Lassplit-clause-asks
returns-in-Lassplit-clause-asks g c =
    subst (λ (a : Asked). WorkAsks a.work (g.F.Files.seen c.args.files.now) (g.F.Files.seen c.lassplit.new.files))
    (lassplit_asked g (goal.at.returns-in-Lassplit-clause-asks g c).After-lassplit) c.lassplit.ensures.asks

pub returns-in-Lasmerge-clause-asks : goal.returns-in-Lasmerge-clause-asks
returns-in-Lasmerge-clause-asks g c =
    subst (λ (a : Asked). WorkAsks a.work (g.F.Files.seen c.args.files.now) (g.F.Files.seen c.lasmerge.new.files))
    (lasmerge_asked g (goal.at.returns-in-Lasmerge-clause-asks g c).After-lasmerge) c.lasmerge.ensures.asks

pub returns-in-Make-clause-asks : goal.returns-in-Make-clause-asks
returns-in-Make-clause-asks g c = subst (λ (command : Command). WorkAsks (work_by command)
    (g.F.Files.seen c.args.files.now) (g.F.Files.seen c.make.new.files)) (sym c.in-Make.is) tt

pub lasmerge-requires-clause-names : goal.lasmerge-requires-clause-names
lasmerge-requires-clause-names g c =
    let w = c.in-Lasmerge in
    let names : List (List ℕ) = map (λ tap. ((goal.Tap-dyn g (tap.vtable, tap.value)).tap_seen tap.value).name)
    c.args.taps.items in
    let sound = subst (λ (command : Command). IsSoundAsked names (asked_by command)) w.is c.requires.sound in
    let others = All-unmap (λ (n : List ℕ). n ≢ string_bytes w.output) string_bytes w.inputs.items sound.0.0.others in
    rw (c.deref-in-Lasmerge.ensures.value, c.deref-in-Lasmerge-2.ensures) (λ lifetimes outlive. others)
