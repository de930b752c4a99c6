-- From words that were read to the cause for which a run ends.
use Rattle.std.proofs.Common.{◌≡◌, ◌⊎◌, inl, inr, ℕ, List, [], ◌∷◌, map, Result, Ok, Err, refl, sym, ◌∙◌, ap, subst}
use Rattle.std.specs.Prelude.{IfOk}
use Rattle.las_info.specs.Tallies.{TapSeen}
use Rattle.las_outside.specs.Files.{FileMap}
use Rattle.las_outside.specs.Outside.{Outside}
use Rattle.las_outside.specs.Sinks.{SinkView}
use Rattle.las_words.specs.declared.command.Command.{Command}
use Rattle.las_words.specs.declared.command.WordFault.{WordFault}
use Rattle.las_words.specs.declared.command.WordFault.TheVariants as fault
use Rattle.las_words.specs.Asked.{Asked, asked_by, work_by}
use Rattle.las_words.specs.Says.{Said, asks, says, usage}
use Rattle.las_run.specs.declared.stop.Stop.{Stop}
use Rattle.las_run.specs.Endings.{Usage, ends_at_once, status_of}
use Rattle.las_run.specs.Runs.{RunsAs, Task, files_read, task_of}
use Rattle.las_run.specs.Ends.{Change, Ends, IsRead, IsTheEnding, cause_of, names_read, quiet, stop_of}
use Rattle.las_run.proofs.Endings.{at_once, left_before}

-- how words were read
pub is_read : (is : Said) (said : Result Command WordFault) → IfOk said (λ command. is ≡ asks (asked_by command)) → ((index : ℕ) → said ≡ Err (fault.Usage index) → is ≡ usage index) → IsRead is said
is_read is (Ok command) command_is index_is = command_is
is_read is (Err (fault.Usage index)) command_is index_is = index_is index refl
is_read is (Err fault.Memory) command_is index_is = tt

pub names_of_taps : {T : Type 0} (f : T → TapSeen) (taps : List T) → map (λ tap. (f tap).name) taps ≡ map (λ (tap : TapSeen). tap.name) (map f taps)
names_of_taps f [] = refl
names_of_taps f (t ∷ taps) = ap (λ (names : List (List ℕ)). (f t).name ∷ names) (names_of_taps f taps)

-- the same of a task, by the names of its taps
pub is_read_of : (words names : List (List ℕ)) (taps : List TapSeen) (said : Result Command WordFault) → names ≡ map (λ (tap : TapSeen). tap.name) taps → IfOk said (λ command. says words names ≡ asks (asked_by command))
    → ((index : ℕ) → said ≡ Err (fault.Usage index) → says words names ≡ usage index) → IsRead (task_of words taps).said said
is_read_of words names taps said same command_is index_is = subst (λ (ns : List (List ℕ)). IsRead (says words ns) said) same (is_read (says words names) said command_is index_is)

-- a command that was read as the task says
pub by_task : (task : Task) (asked other : Asked) (change : Change) (outcome : Result (Unit {0}) Stop) → task.said ≡ asks other → asked ≡ other
    → Ends (record { said = asks asked; taps = task.taps }) change (cause_of (files_read asked.work) outcome) → Ends task change (cause_of (files_read other.work) outcome)
by_task task asked other change outcome said same ends =
    subst (λ (s : Said). Ends (record { said = s; taps = task.taps }) change (cause_of (files_read other.work) outcome)) (sym said)
    (subst (λ (a : Asked). Ends (record { said = asks a; taps = task.taps }) change (cause_of (files_read a.work) outcome)) same ends)

-- wrong words were not read as a command
said_apart : (asked : Asked) (index : ℕ) → asks asked ≡ usage index → ⊥
said_apart asked index e = absurd (cc)

pub not_read : (is : Said) (said : Result Command WordFault) (index : ℕ) → IsRead is said → is ≡ usage index → (f : WordFault) × (said ≡ Err f)
not_read is (Ok command) index read wrong = absurd (said_apart (asked_by command) index (sym read ∙ wrong))
not_read is (Err f) index read wrong = (f, refl)

pub two_or_one : (inputs : List (List ℕ)) (f : WordFault) → (status_of (cause_of inputs (Err (stop_of f))) ≡ 2) ⊎ (status_of (cause_of inputs (Err (stop_of f))) ≡ 1)
two_or_one inputs (fault.Usage index) = inl refl
two_or_one inputs fault.Memory = inr refl

-- the ending of a command that was read
pub ends_read : (task : Task) (said : Result Command WordFault) (command : Command) (change : Change) (outcome : Result (Unit {0}) Stop) → said ≡ Ok command → IsRead task.said said
    → (task.said ≡ asks (asked_by command) → Ends task change (cause_of (files_read (work_by command)) outcome)) → Ends task change (cause_of (names_read said) outcome)
ends_read task said command change outcome is read ends =
    subst (λ (r : Result Command WordFault). Ends task change (cause_of (names_read r) outcome)) (sym is) (ends (subst (IsRead task.said) is read))

-- and of wrong words
only_wrong : (task : Task) (index : ℕ) (files : FileMap) → task.said ≡ usage index → IsTheEnding task files (ends_at_once (Usage index))
only_wrong task index files is = record {
  defined = subst (λ (s : Said). RunsAs task.taps s files (ends_at_once (Usage index))) (sym is) refl;
  only = λ other run. subst (λ (s : Said). RunsAs task.taps s files other) is run;
}

ends_wrong : (task : Task) (names : List (List ℕ)) (f : WordFault) (old : Outside) (out : SinkView) → IsRead task.said (Err f) → Ends task (quiet old old out) (cause_of names (Err (stop_of f)))
ends_wrong task names (fault.Usage index) old out wrong =
    (wrong, refl, at_once task (quiet old old out) (Usage index) (λ files known. only_wrong task index files wrong) refl refl, refl)
ends_wrong task names fault.Memory old out read = (left_before task (quiet old old out) refl, refl)

pub ends_unread : (task : Task) (said : Result Command WordFault) (f : WordFault) (s : Stop) (old : Outside) (out : SinkView) → said ≡ Err f → s ≡ stop_of f → IsRead task.said said → Ends task (quiet old old out) (cause_of (names_read said) (Err s))
ends_unread task said f s old out is stops read =
    subst (λ (t : Stop). Ends task (quiet old old out) (cause_of (names_read said) (Err t))) (sym stops)
    (ends_wrong task (names_read said) f old out (subst (IsRead task.said) is read))
