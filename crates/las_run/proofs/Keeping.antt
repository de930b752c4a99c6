-- What a run promises, from the cause for which it ended.
use Rattle.std.proofs.Common.{◌≡◌, ◌≢◌, ◌≤◌, ◌⊎◌, inl, inr, ℕ, List, [], Some, sym, ◌∙◌, ap, subst}
use Rattle.las_outside.specs.Files.{FileMap}
use Rattle.las_outside.specs.Frames.{IsCalm}
use Rattle.las_outside.specs.Outside.{Later}
use Rattle.las_outside.specs.Sinks.{Puts}
use Rattle.las_words.specs.Asked.{Las2lasOptions, LasmergeOptions, OneInput, las2las, lasmerge, reads}
use Rattle.las_words.specs.Says as words
use Rattle.las_run.specs.Asking.{AsksFor, AsksToMerge, AsksWhole, TakesAll}
use Rattle.las_run.specs.EndingLaws.{SomeEndingIsDefined}
use Rattle.las_run.specs.Endings.{Cause, Done, Memory, Usage, Unread, Unwritten, Refused, Differs, HasTooMany, Ending, status_of}
use Rattle.las_run.specs.Ends.{Ends, EndsAs, IsTheEnding}
use Rattle.las_run.specs.Lines.{line_of}
use Rattle.las_run.specs.Promises.{KeepsPromises}
use Rattle.las_run.specs.Seen.{EndsAsDefined, EndsUnlessExcused, NoMemory, FailedRead, FailedWrite, FailedOut, IsDecided, IsDue, Leaves, RunSeen, change_of}
use Rattle.las_run.proofs.Elsewhere as elsewhere
use Rattle.las_run.proofs.Endings.{left, left_of_none, put_of, quiet_but, read_cause, write_cause, wrong_words}
use Rattle.las_run.proofs.Headline as headline
use Rattle.las_run.proofs.Running.{no_outputs_first}

-- A run that ended for a cause, which its status and its line tell.
module _ (run : RunSeen) where
  abbrev IsTold : Cause → Type 0
  IsTold cause = (run.status ≡ status_of cause) × Puts (line_of cause) run.err run.err_now

  -- as the one ending that is defined
  as_the_one : (cause : Cause) (known : FileMap) → IsTold cause → EndsAs run.task (change_of run) cause → run.files.held ≡ Some known
      → (ending : Ending) × IsTheEnding run.task known ending × EndsAsDefined run known ending
  as_the_one cause known told ends held =
      let h = ends known held in
      let is : cause ≡ h.0.cause = sym h.2 in (
        h.0,
        h.1,
        record {
          status_is = told.0 ∙ ap status_of is;
          line_is = subst (λ (c : Cause). Puts (line_of c) run.err run.err_now) is told.1;
          files_are = h.3;
          text_is = h.4;
        },
      )

  as_defined : (cause : Cause) (known : FileMap) (ending : Ending) → IsTold cause → EndsAs run.task (change_of run) cause → IsDue run known ending → EndsAsDefined run known ending
  as_defined cause known ending told ends due =
      let h = as_the_one cause known told ends due.known_is in
      subst (λ (e : Ending). EndsAsDefined run known e) (sym (h.1.only ending due.defined)) h.2

  complete : (cause : Cause) (known : FileMap) (ending : Ending) → IsTold cause → Ends run.task (change_of run) cause → IsDue run known ending → EndsUnlessExcused run known ending
  complete Done known ending told e due = inl (as_defined Done known ending told e.0 due)
  complete Memory known ending told e due = inr (record { excuse = NoMemory; can_be = tt; shown = told.0 })
  complete (Usage i) known ending told e due = inl (as_defined (Usage i) known ending told e.2 due)
  complete (Unread name) known ending told e due = elim e.cause [
    | inl missing ↦ inl (as_defined (Unread name) known ending told missing.2 due)
    | inr failed ↦ inr (record { excuse = FailedRead; can_be = tt; shown = (told.0, failed) })
  ]
  complete Unwritten known ending told e due = elim e.0 [
    | inl write ↦ inr (record { excuse = FailedWrite; can_be = write.1 known ending due.known_is due.defined; shown = (told.0, write.0) })
    | inr put ↦
        let h = put.known known due.known_is in
        inr (record {
          excuse = FailedOut;
          can_be = subst (λ (x : Ending). x.text ≢ []) (sym (h.1.only ending due.defined)) h.3;
          shown = (told.0, put.rose);
        })
  ]
  complete (Refused name r) known ending told e due = inl (as_defined (Refused name r) known ending told e.1 due)
  complete (Differs name field) known ending told e due = inl (as_defined (Differs name field) known ending told e.1 due)
  complete (HasTooMany surplus) known ending told e due = inl (as_defined (HasTooMany surplus) known ending told e.0 due)

  -- a status that memory or a failure gives is not decided
  done : (cause : Cause) (known : FileMap) → IsTold cause → Ends run.task (change_of run) cause → run.files.held ≡ Some known → IsDecided run.status
      → (ending : Ending) × IsTheEnding run.task known ending × EndsAsDefined run known ending
  done Done known told e held decided = as_the_one Done known told e.0 held
  done Memory known told e held decided = absurd (decided.0 told.0)
  done (Usage i) known told e held decided = as_the_one (Usage i) known told e.2 held
  done (Unread name) known told e held decided = absurd (decided.1 told.0)
  done Unwritten known told e held decided = absurd (decided.2 told.0)
  done (Refused name r) known told e held decided = as_the_one (Refused name r) known told e.1 held
  done (Differs name field) known told e held decided = as_the_one (Differs name field) known told e.1 held
  done (HasTooMany surplus) known told e held decided = as_the_one (HasTooMany surplus) known told e.0 held

  untouched : (cause : Cause) (known : FileMap) (ending : Ending) → Ends run.task (change_of run) cause → IsDue run known ending → ending.outputs ≡ [] → run.files_now.held ≡ run.files.held
  untouched cause known ending e due none =
      let h = left run.task (change_of run) cause e known ending due.known_is due.defined in
      h.1 ∙ ap (λ (m : FileMap). Some m) (left_of_none ending.outputs known h.0 none h.2) ∙ sym due.known_is

  quiet : (cause : Cause) → run.status ≡ status_of cause → Ends run.task (change_of run) cause → (run.status ≡ 0) ⊎ ((run.status ≡ 4) ⊎ (run.out_now ≡ run.out))
  quiet cause is e = subst (λ (s : ℕ). (s ≡ 0) ⊎ ((s ≡ 4) ⊎ (run.out_now ≡ run.out))) (sym is) (quiet_but run.task (change_of run) cause e)

  -- how wrong words end
  abbrev pub EndsUnasked : Type 0
  EndsUnasked = (index : ℕ) → run.task.said ≡ words.usage index → ((run.status ≡ 2) ⊎ (run.status ≡ 1)) × (run.files_now ≡ run.files)

  -- how much `las2las` asks for
  abbrev pub Asks : Type 0
  Asks = (input : List ℕ) (options : Las2lasOptions) (workers : ℕ) → run.task.said ≡ words.asks (record { work = reads input (las2las options); workers = workers })
      → AsksFor input options.sieve.pick options.start options.stop run.files run.files_now

  -- and the commands that take all records
  abbrev pub AsksAll : Type 0
  AsksAll = (input : List ℕ) (own : OneInput) (workers : ℕ) → run.task.said ≡ words.asks (record { work = reads input own; workers = workers })
      → TakesAll own → AsksWhole input run.files run.files_now

  abbrev pub AsksMerged : Type 0
  AsksMerged = (options : LasmergeOptions) (workers : ℕ) → run.task.said ≡ words.asks (record { work = lasmerge options; workers = workers })
      → AsksToMerge options run.files run.files_now

  -- no count of faults moved
  abbrev pub StaysCalm : Type 0
  StaysCalm = IsDecided run.status → IsCalm run.files run.files_now × (run.out_now.faults ≡ run.out.faults)

  pub keeps : (cause : Cause) → run.status ≡ status_of cause → Puts (line_of cause) run.err run.err_now → Ends run.task (change_of run) cause → EndsUnasked → Asks → AsksAll → AsksMerged → Later run.files run.files_now → run.status ≤ 6 → SomeEndingIsDefined → StaysCalm → KeepsPromises run
  keeps cause is line e unasked asks whole merged later few some calm =
      let all : (known : FileMap) (ending : Ending) → IsDue run known ending → EndsUnlessExcused run known ending = λ known ending due. complete cause known ending (is, line) e due in
      let all_left : (known : FileMap) (ending : Ending) → IsDue run known ending → Leaves run known ending = λ known ending due. left run.task (change_of run) cause e known ending due.known_is due.defined in
      record {
        packs = headline.packs run all all_left;
        gives_back = headline.gives_back run all all_left;
        unpacks = headline.unpacks run all all_left;
        refuses = headline.refuses run all all_left;
        refuses_chunks = headline.refuses_chunks run all all_left;
        usage = λ two. wrong_words run.task (change_of run) cause e (sym is ∙ two);
        wrong = λ index wrong. (unasked index wrong).0;
        unasked = λ index wrong. (unasked index wrong).1;
        done = λ known held decided. done cause known (is, line) e held decided;
        complete = all;
        asks = asks;
        asks_whole = whole;
        asks_merge = merged;
        calm = calm;
        read = λ three. read_cause run.task (change_of run) cause e (sym is ∙ three);
        write = λ four. write_cause run.task (change_of run) cause e (sym is ∙ four);
        left = all_left;
        left_always = λ known held. elsewhere.left_always run known some all_left held;
        others = λ known name held not. elsewhere.others run known some all_left held name later not;
        unchanged = λ known ending due first. untouched cause known ending e due (no_outputs_first run.task known ending due.defined first);
        untouched = λ known ending due none. untouched cause known ending e due none;
        out = quiet cause is e;
        put = λ known ending due. put_of run.task (change_of run) cause known ending e due.known_is due.defined;
        later = later;
        status = few;
        ends = (cause, is, line, e);
      }
