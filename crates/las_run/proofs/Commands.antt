-- The commands that read one input, each with what it makes of it.
use Rattle.std.proofs.Common.{◌≡◌, ℕ, List, refl, sym, ap, subst}
use Rattle.std.specs.Prelude.{Contains}
use Rattle.las_info.specs.Tallies.{TapSeen}
use Rattle.las_words.specs.Asked.{OneInput, reads}
use Rattle.las_words.specs.Says.{Said, asks}
use Rattle.las_run.specs.Ends.{ComesTo}
use Rattle.las_run.specs.Runs.{Makes, RunsAs, Task, files_read_by, inputs_of, task_with}
use Rattle.las_run.proofs.Opening.{ReadsOne}

pub reads_one : (taps : List TapSeen) (input : List ℕ) (own : OneInput) (workers : ℕ) → ReadsOne (task_with taps (record { work = reads input own; workers = workers })) input (Makes taps input own)
reads_one taps input own workers = record { inputs = refl; reads = refl; comes = λ change is. is; runs = λ files ending is. is; opens = λ files ending is. is }

-- a task whose words say so
pub reads_one_for : (task : Task) (input : List ℕ) (own : OneInput) (workers : ℕ) → task.said ≡ asks (record { work = reads input own; workers = workers }) → ReadsOne task input (Makes task.taps input own)
reads_one_for task input own workers said = record {
  inputs = ap inputs_of said;
  reads = ap files_read_by said;
  comes = λ change is. subst (λ (s : Said). ComesTo s change input) (sym said) (subst (λ (s : Said). Contains (files_read_by s) input) said is);
  runs = λ files ending is. subst (λ (s : Said). RunsAs task.taps s files ending) (sym said) is;
  opens = λ files ending run. subst (λ (s : Said). RunsAs task.taps s files ending) said run;
}
