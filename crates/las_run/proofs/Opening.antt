-- From an input that is opened, and from what a command makes of it, to the cause for which a run ends.
use Rattle.std.proofs.Common.{◌≡◌, ◌≢◌, inl, inr, ℕ, List, [], ◌∷◌, take, lit<, Option, Some, None, IsSomeAnd, Result, Ok, Err, refl, sym, ◌∙◌, ap, subst}
use Rattle.std.specs.Prelude.{Contains}
use Rattle.std.specs.FinMap as finmap
use Rattle.std.proofs.lemmas.Option.{none-some}
use Rattle.las_header.specs.declared.refusal.Refusal.{Refusal}
use Rattle.las_outside.specs.Files.{FileMap, IsMissing, WhereKnown}
use Rattle.las_outside.specs.Outside.{Outside}
use Rattle.las_outside.specs.Sinks.{SinkView, with_fault, with_more}
use Rattle.las_outside.proofs.Public.{with_more-none}
use Rattle.laz_forms.specs.Refusing.{IsAcceptedFile, IsRefusal}
use Rattle.laz_forms.proofs.Public.{refused_once, some_same}
use Rattle.las_run.specs.declared.stop.Stop.{Stop}
use Rattle.las_run.specs.declared.stop.Stop.TheVariants as stop
use Rattle.las_run.specs.Endings.{Cause, Done, Unread, Refused, Ending, ends_at_once, files_of}
use Rattle.las_run.specs.Runs.{Accepts, Opens, OpensIn, RunOf, Task, files_read_by, inputs_of}
use Rattle.las_run.specs.Ends.{Change, ComesTo, quiet, Ends, EndsAs, EndsCommand, FailsMaking, FailsToWrite, HasOutput}
use Rattle.las_run.specs.Ends.{IsLeftBy, IsOnlyEnding, IsTheEnding, LeavesEnding, MakesEnding, MakesOne}
use Rattle.las_run.specs.Ends.{EndingsHaveOutput, StopsOpening, cause_of}
use Rattle.las_run.proofs.Endings.{left_before}

-- ---- what is known of an input

-- the bytes of a known input, of which P holds
pub got : (files : FileMap) (name : List ℕ) (P : List ℕ → Type 0) → WhereKnown (Some files) name P → (file : List ℕ) × (finmap.get files name ≡ Some file) × P file
got files name P h = go (finmap.get files name) h
  where
    go : (o : Option (List ℕ)) → IsSomeAnd o P → (file : List ℕ) × (o ≡ Some file) × P file
    go None h = absurd h
    go (Some file) h = (file, refl, h)

-- two things that are known of it
pub both_known : (held : Option FileMap) (name : List ℕ) (P Q : List ℕ → Type 0) → WhereKnown held name P → WhereKnown held name Q → WhereKnown held name (λ file. P file × Q file)
both_known None name P Q p q = tt
both_known (Some files) name P Q p q = go (finmap.get files name) p q
  where
    go : (o : Option (List ℕ)) → IsSomeAnd o P → IsSomeAnd o Q → IsSomeAnd o (λ file. P file × Q file)
    go None p q = p
    go (Some file) p q = (p, q)

-- ---- the first output of some

-- ---- what a command makes after calls that have changed no file and failed nowhere
module _ (Makes : List ℕ → Ending → Type 0) (input : List ℕ) (new : Outside) (out out_now : SinkView) where
  abbrev after : Outside → Change
  after files = record { files = files; files_now = new; out = out; out_now = out_now }

  -- how many bytes were asked for does not matter
  asked_before : (old : Outside) (asked : ℕ) (outcome : Result (Unit {0}) Stop)
      → EndsCommand Makes input (after old) outcome
      → EndsCommand Makes input (after (record old { asked = asked })) outcome
  asked_before old asked (Ok done) ends = ends
  asked_before old asked (Err stop.Memory) ends = ends
  asked_before old asked (Err (stop.Usage index)) ends = ends
  asked_before old asked (Err (stop.Read number)) ends = ends
  asked_before old asked (Err stop.Write) ends = ends
  asked_before old asked (Err (stop.Refused number cause)) ends = ends
  asked_before old asked (Err (stop.Differs number field)) ends = ends
  asked_before old asked (Err (stop.TooMany surplus)) ends = ends

  pub making_after : (old mid : Outside) → mid.held ≡ old.held → mid.read_faults ≡ old.read_faults → mid.write_faults ≡ old.write_faults
      → (outcome : Result (Unit {0}) Stop) → EndsCommand Makes input (after mid) outcome
      → EndsCommand Makes input (after old) outcome
  making_after old mid same reads writes outcome ends =
      let seen : Option FileMap → ℕ → ℕ → Type 0 = λ held read_faults write_faults.
      EndsCommand Makes input (after (record
      { held = held; read_faults = read_faults; write_faults = write_faults; asked = old.asked })) outcome in
      subst (λ (h : Option FileMap). seen h old.read_faults old.write_faults) same
      (subst (λ (r : ℕ). seen mid.held r old.write_faults) reads
      (subst (λ (w : ℕ). seen mid.held mid.read_faults w) writes
      (asked_before mid old.asked outcome ends)))

-- ---- the endings of a command with one input

-- The task reads one input, of this name, and makes something of it.
pub record ReadsOne (task : Task) (name : List ℕ) (Makes : List ℕ → Ending → Type 0) : Type 0 where
  pub inputs : inputs_of task.said ≡ name ∷ []
  pub reads : files_read_by task.said ≡ name ∷ []
  pub comes : (change : Change) → Contains (files_read_by task.said) name → ComesTo task.said change name
  pub runs : (files : FileMap) (ending : Ending) → OpensIn files name Makes ending → RunOf task files ending
  pub opens : (files : FileMap) (ending : Ending) → RunOf task files ending → OpensIn files name Makes ending

module _ (task : Task) (name : List ℕ) (Makes : List ℕ → Ending → Type 0) (one : ReadsOne task name Makes) where
  pub defined : (files : FileMap) (o : Option (List ℕ)) (ending : Ending) → finmap.get files name ≡ o → Opens name o Makes ending → RunOf task files ending
  defined files o ending held is = one.runs files ending (subst (λ (f : Option (List ℕ)). Opens name f Makes ending) (sym held) is)

  pub opened : (files : FileMap) (o : Option (List ℕ)) (ending : Ending) → finmap.get files name ≡ o → RunOf task files ending → Opens name o Makes ending
  opened files o ending held is = subst (λ (f : Option (List ℕ)). Opens name f Makes ending) held (one.opens files ending is)

  -- of a refused input, and of an accepted one
  only_refused : (file : List ℕ) (cause : Refusal) (other : Ending) → IsRefusal file (Some cause) → Accepts name file (Makes file) other → other ≡ ends_at_once (Refused name cause)
  only_refused file cause other is (inl r) = r.2 ∙ ap (λ (c : Refusal). ends_at_once (Refused name c)) (some_same r.0 cause (refused_once file (Some r.0) (Some cause) r.1 is))
  only_refused file cause other is (inr a) = absurd (none-some cause (refused_once file None (Some cause) a.0 is))

  pub accepted_makes : (file : List ℕ) (other : Ending) → IsAcceptedFile file → Accepts name file (Makes file) other → Makes file other
  accepted_makes file other is (inl r) = absurd (none-some r.0 (refused_once file None (Some r.0) is r.1))
  accepted_makes file other is (inr a) = a.1

  pub missing_ending : (files : FileMap) → finmap.get files name ≡ None → IsTheEnding task files (ends_at_once (Unread name))
  missing_ending files none = record {
    defined = defined files None (ends_at_once (Unread name)) none refl;
    only = λ other is. opened files None other none is;
  }

  pub refused_ending : (files : FileMap) (file : List ℕ) (cause : Refusal) → finmap.get files name ≡ Some file → IsRefusal file (Some cause) → IsTheEnding task files (ends_at_once (Refused name cause))
  refused_ending files file cause held is = record {
    defined = defined files (Some file) (ends_at_once (Refused name cause)) held (inl (cause, is, refl));
    only = λ other run. only_refused file cause other is (opened files (Some file) other held run);
  }

  pub accepted_ending : (files : FileMap) (file : List ℕ) (ending : Ending) → finmap.get files name ≡ Some file → IsAcceptedFile file → IsOnlyEnding (Makes file) ending → IsTheEnding task files ending
  accepted_ending files file ending held is only = record {
    defined = defined files (Some file) ending held (inr (is, only.makes));
    only = λ other run. only.only other (accepted_makes file other is (opened files (Some file) other held run));
  }

  is_input : Contains (inputs_of task.said) name
  is_input = subst (λ (ns : List (List ℕ)). Contains ns name) (sym one.inputs) (0, lit< tt, refl)

  is_read : Contains (files_read_by task.said) name
  is_read = subst (λ (ns : List (List ℕ)). Contains ns name) (sym one.reads) (0, lit< tt, refl)

  -- ---- how a run of the command ends
  module _ (old new : Outside) (out : SinkView) where
    missing_ends : IsMissing old.held name → new.held ≡ old.held → EndsAs task (quiet old new out) (Unread name)
    missing_ends missing same files known =
        let none : finmap.get files name ≡ None = subst (λ (h : Option FileMap). IsMissing h name) known missing in
        (ends_at_once (Unread name), missing_ending files none, refl, same ∙ known, with_more-none out)

    refused_ends : (cause : Refusal) → WhereKnown old.held name (λ file. IsRefusal file (Some cause)) → new.held ≡ old.held → EndsAs task (quiet old new out) (Refused name cause)
    refused_ends cause is same files known =
        let h = got files name (λ file. IsRefusal file (Some cause)) (subst (λ (o : Option FileMap). WhereKnown o name (λ file. IsRefusal file (Some cause))) known is) in
        (ends_at_once (Refused name cause), refused_ending files h.0 cause h.1 h.2, refl, same ∙ known, with_more-none out)

    before : new.held ≡ old.held → IsLeftBy task (quiet old new out)
    before same = left_before task (quiet old new out) same

    pub ends_opening : (s : Stop) → StopsOpening 0 name old new s → new.held ≡ old.held → Ends task (quiet old new out) (cause_of (name ∷ []) (Err s))
    ends_opening stop.Memory stops same = (before same, refl)
    ends_opening (stop.Usage index) stops same = absurd stops
    ends_opening (stop.Read number) stops same =
        subst (λ (n : ℕ). Ends task (quiet old new out) (cause_of (name ∷ []) (Err (stop.Read n)))) (sym stops.0) (record {
          reads = is_read;
          comes = one.comes (quiet old new out) is_read;
          left = before same;
          cause =
              elim stops.1 [
                | inl missing ↦ inl (is_input, missing, missing_ends missing same)
                | inr rose ↦ inr rose
              ];
          quiet = refl;
        })
    ends_opening stop.Write stops same = absurd stops
    ends_opening (stop.Differs number field) stops same = absurd stops
    ends_opening (stop.TooMany surplus) stops same = absurd stops
    ends_opening (stop.Refused number cause) stops same =
        subst (λ (n : ℕ). Ends task (quiet old new out) (cause_of (name ∷ []) (Err (stop.Refused n cause)))) (sym stops.0)
        (is_read, refused_ends cause stops.1 same, before same, (λ first. same), refl)

  -- of an accepted input
  module _ (change : Change) (accepted : WhereKnown change.files.held name IsAcceptedFile) where
    -- what is known of it, if the files are
    known_of : (P : List ℕ → Type 0) → WhereKnown change.files.held name P → (files : FileMap) → change.files.held ≡ Some files
        → (file : List ℕ) × (finmap.get files name ≡ Some file) × IsAcceptedFile file × P file
    known_of P p files known =
        let both = both_known change.files.held name IsAcceptedFile P accepted p in
        let h = got files name (λ file. IsAcceptedFile file × P file) (subst (λ (o : Option FileMap). WhereKnown o name (λ file. IsAcceptedFile file × P file)) known both) in
        (h.0, h.1, h.2.0, h.2.1)

    one_made : (P : Ending → Type 0) → MakesOne Makes name change P → (files : FileMap) → change.files.held ≡ Some files
        → (ending : Ending) × IsTheEnding task files ending × P ending × (change.files_now.held ≡ Some (files_of ending files))
    one_made P makes files known =
        let h = known_of _ makes files known in
        let e = h.3 in
        (e.0, accepted_ending files h.0 e.0 h.1 h.2 e.1, e.2, e.3 files known)

    made_ends : (cause : Cause) → MakesEnding Makes name change cause → EndsAs task change cause
    made_ends cause makes files known =
        let h = one_made (λ ending. (ending.cause ≡ cause) × (change.out_now ≡ with_more change.out ending.text)) makes files known in
        (h.0, h.1, h.2.0, h.3, h.2.1)

    left_of : LeavesEnding Makes name change → IsLeftBy task change
    left_of leaves files ending known run =
        let h = known_of _ leaves files known in
        h.3 files ending known (accepted_makes h.0 ending h.2 (opened files (Some h.0) ending h.1 run))

    outputs : EndingsHaveOutput Makes name change → HasOutput task change
    outputs some files ending known run =
        let h = known_of _ some files known in
        h.3 ending (accepted_makes h.0 ending h.2 (opened files (Some h.0) ending h.1 run))

    fails : FailsMaking Makes name change → FailsToWrite task change
    fails (inl write) = inl (write.0, outputs write.1, write.2)
    fails (inr put) = inr (record {
      rose = put.0;
      known = λ files known.
          let h = one_made (λ ending. (ending.cause ≡ Done) × (ending.text ≢ []) × ((n : ℕ) × (change.out_now ≡ with_fault (with_more change.out (take n ending.text))))) put.1 files known in
          (h.0, h.1, h.2.0, h.2.1, h.3, h.2.2);
    })

    pub ends_making : (outcome : Result (Unit {0}) Stop) → EndsCommand Makes name change outcome
        → Ends task change (cause_of (name ∷ []) outcome)
    ends_making (Ok done) ends = (made_ends Done ends.0, left_of ends.1)
    ends_making (Err stop.Memory) ends = (left_of ends.0, ends.1)
    ends_making (Err (stop.Usage index)) ends = absurd ends
    ends_making (Err (stop.Read number)) ends =
        subst (λ (n : ℕ). Ends task change (cause_of (name ∷ []) (Err (stop.Read n)))) (sym ends.0)
        (record { reads = is_read; comes = one.comes change is_read; left = left_of ends.2; cause = inr ends.1; quiet = ends.3 })
    ends_making (Err stop.Write) ends = (fails ends.0, left_of ends.1)
    ends_making (Err (stop.Refused number cause)) ends =
        subst (λ (n : ℕ). Ends task change (cause_of (name ∷ []) (Err (stop.Refused n cause)))) (sym ends.0)
        (is_read, made_ends (Refused name cause) ends.1, left_of ends.2, ends.3, ends.4)
    ends_making (Err (stop.Differs number field)) ends = absurd ends
    ends_making (Err (stop.TooMany surplus)) ends = absurd ends
