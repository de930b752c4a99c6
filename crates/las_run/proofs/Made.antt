-- What the call that makes files says of its outcome, as how a run of `make` ends.
use Rattle.std.proofs.Common.{◌≡◌, ◌≢◌, inl, inr, ℕ, List, [], ◌∷◌, take, length, lit<, Option, Some, None, Err, refl, sym, ◌∙◌, ap, subst, arith}
use Rattle.std.specs.Prelude.{IsSome}
use Rattle.std.specs.FinMap as finmap
use Rattle.las_info.specs.Tallies.{TapSeen}
use Rattle.las_make.specs.declared.fault.MakeFault.{MakeFault}
use Rattle.las_make.specs.declared.fault.MakeFault.TheVariants as made
use Rattle.las_make.specs.declared.making.Sizes.{Sizes}
use Rattle.las_make.specs.declared.settings.Settings.{Settings}
use Rattle.las_make.specs.Made.{IsInRange, made_file}
use Rattle.las_make.specs.Making.{FailsMaking, LeavesMade, LeavesPacked, LeavesPlain, with_made}
use Rattle.las_make.proofs.Public.{faults_left, whole_form}
use Rattle.las_outside.specs.Faults.{Rose}
use Rattle.las_outside.specs.Files.{FileMap, with_file}
use Rattle.las_outside.specs.Outside.{Outside}
use Rattle.las_outside.specs.Sinks.{SinkView, with_fault, with_more}
use Rattle.las_words.specs.Asked.{Asked, make}
use Rattle.laz_forms.specs.Packing.{packed_file}
use Rattle.las_run.specs.Endings.{Done, Ending, IsLeft, files_of}
use Rattle.las_run.specs.declared.stop.Stop.TheVariants as stop
use Rattle.las_run.specs.Runs.{Task, task_with}
use Rattle.las_run.specs.Tools.{made_text, makes, options_with}
use Rattle.las_run.specs.Ends.{Change, Ends, HasOutput, IsLeftBy, IsTheEnding, cause_of, stop_making}
use Rattle.las_run.proofs.Endings.{left_if_done, nothing_left}
use Rattle.laz_file.proofs.Public.{some_files}

module _ (taps : List TapSeen) (output packed : List ℕ) (s : Settings) (range : IsInRange s) (chunk workers : ℕ) where
  abbrev asked : Asked
  asked = record { work = make (options_with output packed s chunk); workers = workers }

  abbrev task : Task
  task = task_with taps asked

  abbrev ending : Ending
  ending = makes output packed s chunk

  the_ending : (files : FileMap) → IsTheEnding task files ending
  the_ending files = record { defined = refl; only = λ other is. is }

  has_output : (change : Change) → HasOutput task change
  has_output change files other known run = some_files other.outputs _ _ (ap (λ (e : Ending). e.outputs) run)

  -- ---- what is left
  whole_plain : (files now : FileMap) → now ≡ finmap.insert files output (made_file s) → IsLeft ending.outputs files now
  whole_plain files now is = (1, made_file s ∷ [], inr (inl (refl, tt)), is)

  left_plain : (old new : Option FileMap) (files : FileMap) → LeavesPlain output s old new → old ≡ Some files → (after : FileMap) × (new ≡ Some after) × IsLeft ending.outputs files after
  left_plain old new files (inl same) known = (files, same ∙ known, nothing_left ending.outputs files)
  left_plain old new files (inr left) known =
      (finmap.insert files output left.0, left.2 ∙ ap (λ (h : Option FileMap). with_file h output left.0) known, (1, left.0 ∷ [], inr (inr (left.1, tt)), refl))

  left_packed : (old new : Option FileMap) (files : FileMap) → LeavesPacked output packed s chunk old new → old ≡ Some files → (after : FileMap) × (new ≡ Some after) × IsLeft ending.outputs files after
  left_packed old new files (inl same) known =
      let after = finmap.insert files output (made_file s) in
      (after, same ∙ ap (λ (h : Option FileMap). with_file h output (made_file s)) known, whole_plain files after refl)
  left_packed old new files (inr left) known =
      let after = finmap.insert (finmap.insert files output (made_file s)) packed left.0 in
      (after, left.2 ∙ ap (λ (h : Option FileMap). with_file (with_file h output (made_file s)) packed left.0) known, (2, made_file s ∷ left.0 ∷ [], inr (inl (refl, inr (left.1, tt))), refl))

  left_made : (old new : Option FileMap) (files : FileMap) → LeavesMade output packed s chunk old new → old ≡ Some files → (after : FileMap) × (new ≡ Some after) × IsLeft ending.outputs files after
  left_made old new files (inl left) known = left_plain old new files left known
  left_made old new files (inr left) known = left_packed old new files left known

  left_by : (change : Change) → LeavesMade output packed s chunk change.files.held change.files_now.held → IsLeftBy task change
  left_by change left files other known run =
      let l = left_made change.files.held change.files_now.held files left known in
      (l.0, l.1, subst (λ (e : Ending). IsLeft e.outputs files l.0) (sym run) l.2)

  -- ---- all is done
  made_now : (change : Change) → change.files_now.held ≡ with_made output packed s chunk change.files.held → (files : FileMap) → change.files.held ≡ Some files → change.files_now.held ≡ Some (files_of ending files)
  made_now change now files known =
      now ∙ ap (with_made output packed s chunk) known
      ∙ sym (ap (λ (t : List ℕ). Some (finmap.insert (finmap.insert files output (made_file s)) packed t)) (whole_form s range output packed chunk))

  done_left : (change : Change) → change.files_now.held ≡ with_made output packed s chunk change.files.held → IsLeftBy task change
  done_left change now files other known run =
      let left = left_if_done ending files refl in
      (files_of ending files, made_now change now files known, subst (λ (e : Ending). IsLeft e.outputs files (files_of ending files)) (sym run) left)

  -- ---- how a run ends
  module _ (old new : Outside) (out out_now : SinkView) where
    abbrev change : Change
    change = record { files = old; files_now = new; out = out; out_now = out_now }

    text_is : (sizes : Sizes) → sizes.plain ≡ length (made_file s) → (IsSome old.held → sizes.packed ≡ length (packed_file (made_file s) chunk)) → (files : FileMap) → old.held ≡ Some files
        → made_text s.points sizes.plain sizes.packed ≡ ending.text
    text_is sizes plain size files known =
        ap (λ (n : ℕ). made_text s.points n sizes.packed) plain
        ∙ ap (made_text s.points (length (made_file s))) (size (subst (λ (h : Option FileMap). IsSome h) (sym known) refl))

    pub ends_made : (sizes : Sizes) → new.held ≡ with_made output packed s chunk old.held → sizes.plain ≡ length (made_file s) → (IsSome old.held → sizes.packed ≡ length (packed_file (made_file s) chunk))
        → out_now ≡ with_more out (made_text s.points sizes.plain sizes.packed)
        → Ends (task_with taps (record { work = make (options_with output packed s chunk); workers = workers })) (record { files = old; files_now = new; out = out; out_now = out_now }) Done
    ends_made sizes now plain size put =
        (λ files known. (ending, the_ending files, refl, made_now change now files known, put ∙ ap (with_more out) (text_is sizes plain size files known)), done_left change now)

    pub ends_unput : (sizes : Sizes) → new.held ≡ with_made output packed s chunk old.held → sizes.plain ≡ length (made_file s) → (IsSome old.held → sizes.packed ≡ length (packed_file (made_file s) chunk))
        → ((n : ℕ) × (out_now ≡ with_fault (with_more out (take n (made_text s.points sizes.plain sizes.packed)))))
        → Ends (task_with taps (record { work = make (options_with output packed s chunk); workers = workers })) (record { files = old; files_now = new; out = out; out_now = out_now }) (cause_of (output ∷ packed ∷ []) (Err stop.Write))
    ends_unput sizes now plain size put = (
      inr (record {
        rose = subst (λ (o : SinkView). Rose out.faults o.faults) (sym put.1) (omega arith);
        known = λ files known. (
          ending,
          the_ending files,
          refl,
          some_text,
          made_now change now files known,
          (put.0, put.1 ∙ ap (λ (t : List ℕ). with_fault (with_more out (take put.0 t))) (text_is sizes plain size files known)),
        );
      }),
      done_left change now,
    )
      where
        some_text : ending.text ≢ []
        some_text e = absurd (cc)

    pub ends_unmade : (fault : MakeFault) → out_now ≡ out → FailsMaking output packed s chunk old new fault
        → Ends (task_with taps (record { work = make (options_with output packed s chunk); workers = workers })) (record { files = old; files_now = new; out = out; out_now = out_now }) (cause_of (output ∷ packed ∷ []) (Err (stop_making fault)))
    ends_unmade made.ReadPlain quiet fails = record {
      reads = (0, lit< tt, refl);
      comes = inl (refl, fails.1);
      left = left_by change (faults_left s output packed chunk old new made.ReadPlain range fails);
      cause = inr fails.0;
      quiet = quiet;
    }
    ends_unmade made.ReadPacked quiet fails = record {
      reads = (1, lit< tt, refl);
      comes = inr (refl, fails.1);
      left = left_by change (faults_left s output packed chunk old new made.ReadPacked range fails);
      cause = inr fails.0;
      quiet = quiet;
    }
    ends_unmade (made.Changed cause) quiet fails = (
      (0, lit< tt, refl),
      (λ files known. absurd (let clash : None ≡ Some files = sym fails.0 ∙ known in cc)),
      left_by change (faults_left s output packed chunk old new (made.Changed cause) range fails),
      (λ first. fails.1 ∙ sym fails.0),
      quiet,
    )
    ends_unmade made.Write quiet fails = (inl (fails.0, has_output change, quiet), left_by change (faults_left s output packed chunk old new made.Write range fails))
    ends_unmade made.Memory quiet fails = (left_by change (faults_left s output packed chunk old new made.Memory range fails), quiet)
