-- What the call that merges files says of its outcome, as how a run of `lasmerge` ends.
use Rattle.std.proofs.Common.{◌≡◌, ◌≢◌, inl, inr, ℕ, ◌<◌, false, List, [], length, Option, Some, None, Result, Ok}
use Rattle.std.proofs.Common.{Err, refl, sym, ◌∙◌, ap, subst}
use Rattle.std.specs.Prelude.{Contains, is_some}
use Rattle.std.proofs.lemmas.List.{get_or_default}
use Rattle.las_header.specs.declared.refusal.Refusal.{Refusal}
use Rattle.las_info.specs.Tallies.{TapSeen}
use Rattle.las_merge.specs.declared.fault.MergeFault.{MergeFault}
use Rattle.las_merge.specs.declared.fault.MergeFault.TheVariants as merge
use Rattle.las_merge.specs.Inputs.{AreFirstInputs, CanMerge, IfKnown, IsKeptBy, item_at}
use Rattle.las_merge.specs.Merging.{BadPlace, IsLeftIn, IsMerged, IsRefusedIn, LeavesMerged, MergesTo, OnlyMerges, merged_output}
use Rattle.las_merge.specs.Outcomes.{SaysMerging}
use Rattle.las_merge.proofs.Public.{kept_by_one, kept_or_merged, merged_once}
use Rattle.las_outside.specs.Files.{FileMap, IsMissing, with_file}
use Rattle.las_outside.specs.Outside.{Later, Outside}
use Rattle.las_outside.specs.Sinks.{SinkView, with_more}
use Rattle.las_outside.proofs.Public.{with_more-none}
use Rattle.las_words.specs.Asked.{LasmergeOptions, lasmerge}
use Rattle.laz_forms.specs.declared.fault.Fault.TheVariants as file
use Rattle.laz_forms.specs.Outputs as points
use Rattle.las_run.specs.Endings.{ComesAtOpening, Done, Refused, Unread, Ending, IsLeft, ends_at_once, files_of}
use Rattle.las_run.specs.Tools.{MergesIn, cause_of_fault, chunk_if, merges}
use Rattle.las_run.specs.Runs.{Task, task_with}
use Rattle.las_run.specs.Ends.{Ends, EndsAs, HasOutput, IsLeftBy, IsTheEnding, cause_of, quiet, stopped_merge}
use Rattle.las_run.proofs.Endings.{left_if_done, nothing_left}
use Rattle.las_run.proofs.Making.{left_of_output}
use Rattle.laz_file.proofs.Public.{some_files}

-- ---- the endings of a merge
module _ (taps : List TapSeen) (options : LasmergeOptions) (workers : ℕ) where
  abbrev task : Task
  task = task_with taps (record { work = lasmerge (record options { copy = false }); workers = workers })

  abbrev inputs : List (List ℕ)
  inputs = options.inputs

  abbrev output : List ℕ
  output = options.output

  abbrev size : Option ℕ
  size = chunk_if options.packed options.chunk

  abbrev Runs : FileMap → Ending → Type 0
  Runs known ending = MergesIn (chunk_if options.packed options.chunk) inputs output known ending

  is_input : (number : ℕ) → number < length inputs → Contains inputs (item_at inputs number)
  is_input number within = (number, within, get_or_default inputs number (item_at inputs number) [] within)

  -- of inputs that are kept from being merged
  pub kept_ending : (known : FileMap) (fault : MergeFault) → IsKeptBy known inputs fault
      → IsTheEnding task known (ends_at_once (cause_of_fault inputs fault))
  kept_ending known fault kept = record { defined = inl (fault, kept, refl); only = only }
    where
      only : (other : Ending) → Runs known other → other ≡ ends_at_once (cause_of_fault inputs fault)
      only other (inl k) = k.2 ∙ ap (λ (f : MergeFault). ends_at_once (cause_of_fault inputs f))
          (kept_by_one known inputs fault k.0 kept k.1)
      only other (inr m) = absurd (kept_or_merged known inputs m.0 fault kept m.3)

  -- and of those that can be
  pub merged_ending : (known : FileMap) (merged : List (List ℕ)) (records : List ℕ) (bad : Option BadPlace)
      → CanMerge known inputs merged → OnlyMerges merged records bad
      → IsTheEnding task known (merges inputs output size merged records bad)
  merged_ending known merged records bad can are =
      record { defined = inr (merged, records, bad, can, are.are, refl); only = only }
    where
      only : (other : Ending) → Runs known other → other ≡ merges inputs output size merged records bad
      only other (inl k) = absurd (kept_or_merged known inputs merged k.0 k.1 can)
      only other (inr m) =
          let one = merged_once known inputs merged m.0 can m.3 in
          let same = are.only m.1 m.2 (subst (λ (fs : List (List ℕ)). MergesTo fs m.1 m.2) one m.4) in
          m.5
          ∙ ap (λ (fs : List (List ℕ)). merges inputs output (chunk_if options.packed options.chunk) fs m.1 m.2) one
          ∙ ap (λ (rs : List ℕ). merges inputs output (chunk_if options.packed options.chunk) merged rs m.2) same.0
          ∙ ap (merges inputs output (chunk_if options.packed options.chunk) merged records) same.1

  has_output : (known : FileMap) (merged : List (List ℕ)) (ending : Ending) → CanMerge known inputs merged
      → Runs known ending → ending.outputs ≢ []
  has_output known merged ending can (inl k) = absurd (kept_or_merged known inputs merged k.0 k.1 can)
  has_output known merged ending can (inr m) = some_files ending.outputs _ _ (ap (λ (e : Ending). e.outputs) m.5)

  -- ---- how a run ends
  module _ (old new : Outside) (out : SinkView) where
    kept_ends : (fault : MergeFault) → IfKnown old.held (λ known. IsKeptBy known inputs fault) → new.held ≡ old.held
        → EndsAs task (quiet old new out) (cause_of_fault inputs fault)
    kept_ends fault kept same files known = (
      ends_at_once (cause_of_fault inputs fault),
      kept_ending files fault
          (kept files known),
      refl,
      same ∙ known,
      with_more-none out,
    )

    left_one : (files : FileMap) (ending : Ending) → old.held ≡ Some files → IsLeftIn files inputs output size old.held new.held
        → Runs files ending → (now : FileMap) × (new.held ≡ Some now) × IsLeft ending.outputs files now
    left_one files ending known (inl same) run = (files, same ∙ known, nothing_left ending.outputs files)
    left_one files ending known (inr l) (inl k) = absurd (kept_or_merged files inputs l.0 k.0 k.1 l.1)
    left_one files ending known (inr l) (inr m) =
        let one = merged_once files inputs m.0 l.0 m.3 l.1 in
        let leaves = subst (λ (fs : List (List ℕ)). LeavesMerged
        (merged_output output fs (chunk_if options.packed options.chunk)) fs old.held new.held) one l.2 in
        let left = left_of_output (merged_output output m.0 (chunk_if options.packed options.chunk)) m.1 old.held
        new.held files (leaves m.1 m.2 m.4) known in
        (left.0, left.1, subst (λ (e : Ending). IsLeft e.outputs files left.0) (sym m.5) left.2)

    left_by : IfKnown old.held (λ known. IsLeftIn known inputs output size old.held new.held) → IsLeftBy task (quiet old new out)
    left_by leaves files ending known run = left_one files ending known (leaves files known) run

    done_ends : IfKnown old.held (λ known. IsMerged known inputs output size old.held new.held) → EndsAs task (quiet old new out) Done
    done_ends made files known =
        let m = made files known in
        let text = points.finished (merged_output output m.0 (chunk_if options.packed options.chunk)) m.1 in (
          merges inputs output (chunk_if options.packed options.chunk) m.0 m.1 None,
          merged_ending files m.0 m.1 None m.2 m.3,
          refl,
          m.4 ∙ ap (λ (h : Option FileMap). with_file h output text) known,
          with_more-none out,
        )

    done_left : IfKnown old.held (λ known. IsMerged known inputs output size old.held new.held) → IsLeftBy task (quiet old new out)
    done_left made files ending known run =
        let e = done_ends made files known in
        let is : e.0 ≡ ending = sym (e.1.only ending run) in
        let done : ending.cause ≡ Done = ap (λ (x : Ending). x.cause) (sym is) ∙ e.2 in
        (files_of ending files, e.3 ∙ ap (λ (x : Ending). Some (files_of x files)) is, left_if_done ending files done)

    refused_ends : (number : ℕ) (cause : Refusal) → IfKnown old.held (λ known. IsRefusedIn known inputs output size number cause old.held new.held)
        → EndsAs task (quiet old new out) (Refused (item_at inputs number) cause)
    refused_ends number cause refused files known = one (refused files known)
      where
        one : IsRefusedIn files inputs output size number cause old.held new.held
            → (ending : Ending) × IsTheEnding task files ending × (ending.cause ≡ Refused (item_at inputs number) cause)
            × (new.held ≡ Some (files_of ending files)) × (out ≡ with_more out ending.text)
        one (inl k) = let fault = merge.At number (file.Refused cause) in (
          ends_at_once (cause_of_fault inputs fault),
          kept_ending files fault k.0,
          refl,
          k.1
              ∙ known,
          with_more-none out,
        )
        one (inr m) =
            let place : BadPlace = record { file = number; chunk = m.2 } in
            let text = points.stopped (merged_output output m.0 (chunk_if options.packed options.chunk)) m.1 in (
              merges inputs output (chunk_if options.packed options.chunk) m.0 m.1 (Some place),
              merged_ending files m.0 m.1 (Some place) m.4 m.5,
              ap (Refused (item_at inputs number)) (sym m.3),
              m.6 ∙ ap (λ (h : Option FileMap). with_file h output text) known,
              with_more-none out,
            )

    -- a refusal that comes when an input is opened changes nothing
    unchanged : (number : ℕ) (cause : Refusal) → Later old new
        → IfKnown old.held (λ known. IsRefusedIn known inputs output size number cause old.held new.held) → ComesAtOpening cause
        → new.held ≡ old.held
    unchanged number cause later refused first = go old.held new.held later.known
        (λ files known. one files (refused files known))
      where
        one : (files : FileMap) → IsRefusedIn files inputs output size number cause old.held new.held → new.held ≡ old.held
        one files (inl k) = k.1
        one files (inr m) = absurd (subst ComesAtOpening m.3 first)

        go : (held now : Option FileMap) → is_some now ≡ is_some held
            → ((files : FileMap) → held ≡ Some files → now ≡ held) → now ≡ held
        go None None same to = refl
        go None (Some files) same to = absurd (cc)
        go (Some files) now same to = to files refl

    outputs : IfKnown old.held (λ known. (merged : List (List ℕ)) × CanMerge known inputs merged)
        → HasOutput task (quiet old new out)
    outputs can files ending known run = let m = can files known in has_output files m.0 ending m.1 run

    missing_ends : (number : ℕ) → number < length inputs
        → IfKnown old.held (λ known. (before : List (List ℕ)) × AreFirstInputs known inputs before × (length before ≡ number))
        → IsMissing old.held (item_at inputs number) → new.held ≡ old.held
        → EndsAs task (quiet old new out) (Unread (item_at inputs number))
    missing_ends number within first missing same = kept_ends (merge.At number file.Read) (λ files known.
        let f = first files known in
        let none = subst (λ (h : Option FileMap). IsMissing h (item_at inputs number)) known missing in
        (f.0, record { first = f.1; number_is = f.2; within = within }, none)) same

    ends_so : (outcome : Result (Unit {0}) MergeFault) → SaysMerging inputs output size old new outcome
        → Ends task (quiet old new out) (cause_of inputs (stopped_merge outcome))
    ends_so (Ok done) s = (done_ends s.merged, done_left s.merged)
    ends_so (Err (merge.At number (file.Refused cause))) s =
        let is = s.refused number cause refl in (
          is_input number (s.at number (file.Refused cause) refl).0,
          refused_ends number cause is,
          left_by s.left,
          unchanged number cause s.later is,
          refl,
        )
    ends_so (Err (merge.At number file.Read)) s =
        let a = s.at number file.Read refl in
        let there = is_input number a.0 in
        record {
          reads = there;
          comes = (number, refl, a.0, a.1);
          left = left_by s.left;
          cause =
              elim (s.read number refl) [
                | inl missing ↦ inl (there, missing.0, missing_ends number a.0 a.1 missing.0 missing.1)
                | inr rose ↦ inr rose
              ];
          quiet = refl;
        }
    ends_so (Err (merge.At number file.Write)) s = absurd (s.never number refl)
    ends_so (Err (merge.At number file.Memory)) s = (left_by s.left, refl)
    ends_so (Err (merge.Unequal number field)) s =
        let u = s.unequal number field refl in
        (is_input number u.0, kept_ends (merge.Unequal number field) u.2 u.1, left_by s.left, u.1, refl)
    ends_so (Err merge.TooManyPoints) s =
        let m = s.too_many refl in
        (kept_ends merge.TooManyPoints m.1 m.0, left_by s.left, m.0, refl)
    ends_so (Err merge.TooManyChunks) s = absurd (s.few_chunks refl)
    ends_so (Err merge.Write) s =
        let w = s.write refl in
        (inl (w.0, outputs w.1, refl), left_by s.left)
    ends_so (Err merge.Memory) s = (left_by s.left, refl)

    pub ends_merging : (size : Option ℕ) (outcome : Result (Unit {0}) MergeFault)
        → size ≡ chunk_if options.packed options.chunk → SaysMerging inputs output size old new outcome
        → Ends (task_with taps (record { work = lasmerge (record options { copy = false }); workers = workers }))
        (quiet old new out) (cause_of options.inputs (stopped_merge outcome))
    ends_merging size outcome is s = ends_so outcome
        (subst (λ (c : Option ℕ). SaysMerging inputs output c old new outcome) is s)
