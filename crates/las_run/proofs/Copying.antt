-- What the call that copies chunks says of its outcome, as how a run of `lasmerge` ends.
use Rattle.std.proofs.Common.{◌≡◌, ◌≢◌, ◌⊎◌, inl, inr, ℕ, ◌<◌, true, List, [], ◌∷◌, length, take, Option, Some, Result}
use Rattle.std.proofs.Common.{Ok, Err, refl, sym, ◌∙◌, ap, subst}
use Rattle.std.specs.Prelude.{Contains}
use Rattle.std.specs.FinMap as finmap
use Rattle.std.proofs.lemmas.List.{get_or_default}
use Rattle.las_info.specs.Tallies.{TapSeen}
use Rattle.las_outside.specs.Files.{FileMap, IsMissing, with_file}
use Rattle.las_outside.specs.Outside.{Outside}
use Rattle.las_outside.specs.Sinks.{SinkView}
use Rattle.las_outside.proofs.Public.{with_more-none}
use Rattle.las_words.specs.Asked.{LasmergeOptions, lasmerge}
use Rattle.laz_copied.specs.Copied.{Chunk, all_of, copied_file}
use Rattle.laz_forms.specs.declared.fault.Fault.TheVariants as file
use Rattle.las_merge.specs.declared.fault.MergeFault.{MergeFault}
use Rattle.las_merge.specs.declared.fault.MergeFault.TheVariants as merge
use Rattle.las_merge.specs.Inputs.{IfKnown, item_at}
use Rattle.las_merge.specs.Packed.{AreFirstPacked, CanCopyFrom, IsKeptFromCopying}
use Rattle.las_merge.specs.Outcomes.{SaysCopying}
use Rattle.las_merge.proofs.Public.{copied_by_one, copied_once, kept_or_copied}
use Rattle.las_run.specs.Endings.{Done, Unread, Ending, IsLeft, ends_at_once, files_of}
use Rattle.las_run.specs.Runs.{Task, task_with}
use Rattle.las_run.specs.Tools.{CopiesIn, cause_of_fault, copies}
use Rattle.las_run.specs.Ends.{Ends, EndsAs, HasOutput, IsLeftBy, IsTheEnding, cause_of, quiet, stopped_merge}
use Rattle.las_run.proofs.Endings.{left_if_done, nothing_left}
use Rattle.laz_file.proofs.Public.{some_files}

-- ---- what the call says of its outcome
module _ (inputs : List (List ℕ)) (output : List ℕ) (old new : Outside) where
  -- all is done
  abbrev IsCopiedNow : FileMap → Type 0
  IsCopiedNow known =
      (merged : List (List ℕ)) × (parts : List (List Chunk)) × CanCopyFrom known inputs merged parts
      × (new.held ≡ with_file old.held output (copied_file merged (all_of parts)))

  -- what is left
  abbrev Leaves : FileMap → Type 0
  Leaves known =
      (new.held ≡ old.held)
      ⊎ ((merged : List (List ℕ)) × (parts : List (List Chunk)) × CanCopyFrom known inputs merged parts
      × ((n : ℕ) × (new.held ≡ with_file old.held output (take n (copied_file merged (all_of parts))))))

  abbrev IsKept : MergeFault → Type 0
  IsKept fault = (new.held ≡ old.held) × IfKnown old.held (λ known. IsKeptFromCopying known inputs fault)

-- ---- the endings of a copy
module _ (taps : List TapSeen) (options : LasmergeOptions) (workers : ℕ) where
  abbrev task : Task
  task = task_with taps (record { work = lasmerge (record options { copy = true }); workers = workers })

  abbrev inputs : List (List ℕ)
  inputs = options.inputs

  abbrev output : List ℕ
  output = options.output

  abbrev Runs : FileMap → Ending → Type 0
  Runs known ending = CopiesIn options.inputs options.output known ending

  is_input : (number : ℕ) → number < length options.inputs → Contains options.inputs (item_at options.inputs number)
  is_input number within = (
    number,
    within,
    get_or_default options.inputs number (item_at options.inputs number) []
        within,
  )

  -- of inputs that are kept from being copied
  pub kept_ending : (known : FileMap) (fault : MergeFault) → IsKeptFromCopying known options.inputs fault
      → IsTheEnding task known (ends_at_once (cause_of_fault options.inputs fault))
  kept_ending known fault kept = record { defined = inl (fault, kept, refl); only = only }
    where
      only : (other : Ending) → Runs known other → other ≡ ends_at_once (cause_of_fault options.inputs fault)
      only other (inl k) = k.2 ∙ ap (λ (f : MergeFault). ends_at_once (cause_of_fault options.inputs f))
          (copied_by_one known options.inputs fault k.0 kept k.1)
      only other (inr m) = absurd (kept_or_copied known options.inputs m.0 m.1 fault kept m.2)

  -- and of those that can be
  pub copied_ending : (known : FileMap) (merged : List (List ℕ)) (parts : List (List Chunk))
      → CanCopyFrom known options.inputs merged parts
      → IsTheEnding task known (copies options.output (copied_file merged (all_of parts)))
  copied_ending known merged parts can = record { defined = inr (merged, parts, can, refl); only = only }
    where
      only : (other : Ending) → Runs known other → other ≡ copies options.output (copied_file merged (all_of parts))
      only other (inl k) = absurd (kept_or_copied known options.inputs merged parts k.0 k.1 can)
      only other (inr m) =
          let same = copied_once known options.inputs merged m.0 parts m.1 can m.2 in
          m.3
          ∙ ap (λ (fs : List (List ℕ)). copies options.output (copied_file fs (all_of m.1))) same.0
          ∙ ap (λ (ps : List (List Chunk)). copies options.output (copied_file merged (all_of ps))) same.1

  has_output : (known : FileMap) (merged : List (List ℕ)) (parts : List (List Chunk)) (ending : Ending)
      → CanCopyFrom known options.inputs merged parts → Runs known ending → ending.outputs ≢ []
  has_output known merged parts ending can (inl k) =
      absurd (kept_or_copied known options.inputs merged parts k.0 k.1 can)
  has_output known merged parts ending can (inr m) =
      some_files ending.outputs _ _ (ap (λ (e : Ending). e.outputs) m.3)

  -- ---- how a run ends
  module _ (old new : Outside) (out : SinkView) where
    kept_ends : (fault : MergeFault) → IsKept options.inputs options.output old new fault
        → EndsAs task (quiet old new out) (cause_of_fault options.inputs fault)
    kept_ends fault kept files known = (
      ends_at_once (cause_of_fault options.inputs fault),
      kept_ending files fault
          (kept.1 files known),
      refl,
      kept.0 ∙ known,
      with_more-none out,
    )

    left_one : (files : FileMap) (ending : Ending) → old.held ≡ Some files
        → Leaves options.inputs options.output old new files → Runs files ending
        → (now : FileMap) × (new.held ≡ Some now) × IsLeft ending.outputs files now
    left_one files ending known (inl same) run = (files, same ∙ known, nothing_left ending.outputs files)
    left_one files ending known (inr l) (inl k) = absurd (kept_or_copied files options.inputs l.0 l.1 k.0 k.1 l.2)
    left_one files ending known (inr l) (inr m) =
        let text = copied_file l.0 (all_of l.1) in
        let is = (copied_ending files l.0 l.1 l.2).only ending (inr m) in
        let part = take l.3.0 text in (
          finmap.insert files options.output part,
          l.3.1 ∙ ap (λ (h : Option FileMap). with_file h options.output part) known,
          subst (λ (e : Ending). IsLeft e.outputs files (finmap.insert files options.output part)) (sym is)
              (1, part ∷ [], inl ((l.3.0, refl), tt), refl),
        )

    left_by : IfKnown old.held (Leaves options.inputs options.output old new) → IsLeftBy task (quiet old new out)
    left_by leaves files ending known run = left_one files ending known (leaves files known) run

    done_ends : IfKnown old.held (IsCopiedNow options.inputs options.output old new)
        → EndsAs task (quiet old new out) Done
    done_ends made files known =
        let m = made files known in
        let text = copied_file m.0 (all_of m.1) in (
          copies options.output text,
          copied_ending files m.0 m.1 m.2,
          refl,
          m.3
              ∙ ap (λ (h : Option FileMap). with_file h options.output text) known,
          with_more-none out,
        )

    done_left : IfKnown old.held (IsCopiedNow options.inputs options.output old new) → IsLeftBy task (quiet old new out)
    done_left made files ending known run =
        let e = done_ends made files known in
        let is : e.0 ≡ ending = sym (e.1.only ending run) in
        let done : ending.cause ≡ Done = ap (λ (x : Ending). x.cause) (sym is) ∙ e.2 in
        (files_of ending files, e.3 ∙ ap (λ (x : Ending). Some (files_of x files)) is, left_if_done ending files done)

    outputs : IfKnown old.held (λ known. (merged : List (List ℕ)) × (parts : List (List Chunk))
        × CanCopyFrom known options.inputs merged parts) → HasOutput task (quiet old new out)
    outputs can files ending known run = let m = can files known in has_output files m.0 m.1 ending m.2 run

    missing_ends : (number : ℕ) → number < length options.inputs
        → IfKnown old.held (λ known. (before : List (List ℕ)) × AreFirstPacked known options.inputs before
        × (length before ≡ number)) → IsMissing old.held (item_at options.inputs number) → new.held ≡ old.held
        → EndsAs task (quiet old new out) (Unread (item_at options.inputs number))
    missing_ends number within first missing same = kept_ends (merge.At number file.Read) (
      same,
      λ files known.
          let f = first files known in
          let none = subst (λ (h : Option FileMap). IsMissing h (item_at options.inputs number)) known missing in
          (f.0, record { first = f.1; number_is = f.2; within = within }, none),
    )

    pub ends_copying : (outcome : Result (Unit {0}) MergeFault)
        → SaysCopying options.inputs options.output old new outcome
        → Ends (task_with taps (record { work = lasmerge (record options { copy = true }); workers = workers }))
        (quiet old new out) (cause_of options.inputs (stopped_merge outcome))
    ends_copying (Ok done) s = (done_ends s.copied, done_left s.copied)
    ends_copying (Err (merge.At number (file.Refused cause))) s =
        let a = s.at number (file.Refused cause) refl in
        let kept = s.kept tt in (
          is_input number a.0,
          kept_ends (merge.At number (file.Refused cause)) kept,
          left_by s.left,
          (λ first. kept.0),
          refl,
        )
    ends_copying (Err (merge.At number file.Read)) s =
        let a = s.at number file.Read refl in
        let there = is_input number a.0 in
        record {
          reads = there;
          comes = (number, refl, a.0, λ files known. let f = a.1 files known in (f.0, f.1.first, f.2));
          left = left_by s.left;
          cause =
              elim (s.read number refl) [
                | inl missing ↦ inl (there, missing.0, missing_ends number a.0 a.1 missing.0 missing.1)
                | inr rose ↦ inr rose
              ];
          quiet = refl;
        }
    ends_copying (Err (merge.At number file.Write)) s = absurd (s.never number refl)
    ends_copying (Err (merge.At number file.Memory)) s = (left_by s.left, refl)
    ends_copying (Err (merge.Unequal number field)) s =
        let within = s.unequal number field refl in
        let kept = s.kept tt in
        (is_input number within, kept_ends (merge.Unequal number field) kept, left_by s.left, kept.0, refl)
    ends_copying (Err merge.TooManyPoints) s = let kept =
        s.kept tt in (kept_ends merge.TooManyPoints kept, left_by s.left, kept.0, refl)
    ends_copying (Err merge.TooManyChunks) s = let kept =
        s.kept tt in (kept_ends merge.TooManyChunks kept, left_by s.left, kept.0, refl)
    ends_copying (Err merge.Write) s =
        let w = s.write refl in
        (inl (w.0, outputs w.1, refl), left_by s.left)
    ends_copying (Err merge.Memory) s = (left_by s.left, refl)
