-- What is left at an ending, and what a run says of its cause.
use Rattle.std.proofs.Common.{◌≡◌, ◌⊎◌, inl, inr, ℕ, zero, suc, List, [], ◌∷◌, length, take, map, Some, Result, Ok, Err, refl, sym, ◌∙◌, ap, subst, arith}
use Rattle.std.specs.Prelude.{Any, Contains}
use Rattle.std.proofs.lemmas.List.{take_all}
use Rattle.las_outside.specs.Faults.{Rose}
use Rattle.las_outside.specs.Files.{FileMap, IsMissing}
use Rattle.las_outside.specs.Outside.{Outside}
use Rattle.las_outside.specs.Sinks.{SinkView, Puts, with_fault, with_more, written_after}
use Rattle.las_outside.proofs.Public.{with_more-none}
use Rattle.las_words.specs.Says.{usage}
use Rattle.laz_file.specs.Endings.{AreEnding, OutputFile, at_end, named, with_all}
use Rattle.laz_file.proofs.Public.{done_texts, all_done, named_done}
use Rattle.las_run.specs.declared.stop.Stop.{Stop}
use Rattle.las_run.specs.Endings.{is_done, Cause, Done, Memory, Usage, Unread, Unwritten, Refused, Differs, HasTooMany, Ending, ends_at_once, status_of, files_of, AreLeft, IsLeft}
use Rattle.las_run.specs.Runs.{RunOf, Task, inputs_of}
use Rattle.las_run.specs.Ends.{Change, EndsAs, IsLeftBy, IsQuiet, IsTheEnding, Ends, cause_of}
use Rattle.las_run.specs.Lines.{line_of}

-- nothing was created
pub nothing_left : (outputs : List OutputFile) (files : FileMap) → IsLeft outputs files files
nothing_left outputs files = (0, [], inl tt, refl)

-- what stands if all is done is left
pub left_if_done : (ending : Ending) (files : FileMap) → ending.cause ≡ Done → IsLeft ending.outputs files (files_of ending files)
left_if_done ending files is =
    let all : take (length ending.outputs) ending.outputs ≡ ending.outputs = take_all (length ending.outputs) ending.outputs (omega arith) in (
      length ending.outputs,
      done_texts ending.outputs,
      inr (subst (λ (os : List OutputFile). AreEnding os (done_texts ending.outputs)) (sym all) (all_done ending.outputs)),
      ap (λ (c : Cause). with_all files (map (at_end (is_done c)) ending.outputs)) is
          ∙ ap (with_all files) (named_done ending.outputs)
          ∙ ap (λ (os : List OutputFile). with_all files (named os (done_texts ending.outputs))) (sym all),
    )

-- of an ending without outputs nothing is left
pub left_of_none : (outputs : List OutputFile) (files now : FileMap) → outputs ≡ [] → IsLeft outputs files now → now ≡ files
left_of_none outputs files now none left =
    go (take left.0 outputs) left.1 (ap (take left.0) none ∙ take_none left.0) left.2 left.3
  where
    take_none : (k : ℕ) → take k (let xs : List OutputFile = [] in xs) ≡ []
    take_none zero = refl
    take_none (suc k) = refl

    go : (os : List OutputFile) (texts : List (List ℕ)) → os ≡ [] → AreLeft os texts → now ≡ with_all files (named os texts) → now ≡ files
    go [] texts is are stands = stands
    go (o ∷ os) texts is are stands = absurd (cc)

-- one of some elements of which P holds
pub any_of : (xs : List (List ℕ)) (x : List ℕ) (P : List ℕ → Type 0) → Contains xs x → P x → Any P xs
any_of xs x P is holds = (is.0, x, is.1, is.2, holds)

-- The ending of a run, and what is left of it.
module _ (task : Task) (change : Change) where
  -- an ending at once, if no other is defined
  pub at_once : (cause : Cause) → ((files : FileMap) → change.files.held ≡ Some files → IsTheEnding task files (ends_at_once cause)) → change.files_now.held ≡ change.files.held → change.out_now ≡ change.out → EndsAs task change cause
  at_once cause defined same quiet files known = (ends_at_once cause, defined files known, refl, same ∙ known, quiet ∙ with_more-none change.out)

  pub left_before : change.files_now.held ≡ change.files.held → IsLeftBy task change
  left_before same files ending known defined = (files, same ∙ known, nothing_left ending.outputs files)

  left_at_once : (cause : Cause) → EndsAs task change cause → change.files_now ≡ change.files → IsLeftBy task change
  left_at_once cause ends same = left_before (ap (λ (o : Outside). o.held) same)

  pub left : (cause : Cause) → Ends task change cause → IsLeftBy task change
  left Done e = e.1
  left Memory e = e.0
  left (Usage i) e = left_at_once (Usage i) e.2 e.1
  left (Unread name) e = e.left
  left Unwritten e = e.1
  left (Refused name r) e = e.2
  left (Differs name field) e = e.2
  left (HasTooMany surplus) e = e.1

  pub wrong_words : (cause : Cause) → Ends task change cause → status_of cause ≡ 2 → (index : ℕ) × (task.said ≡ usage index)
  wrong_words Done e is = absurd (omega (arith, is))
  wrong_words Memory e is = absurd (omega (arith, is))
  wrong_words (Usage i) e is = (i, e.0)
  wrong_words (Unread name) e is = absurd (omega (arith, is))
  wrong_words Unwritten e is = absurd (omega (arith, is))
  wrong_words (Refused name r) e is = absurd (omega (arith, is))
  wrong_words (Differs name field) e is = absurd (omega (arith, is))
  wrong_words (HasTooMany surplus) e is = absurd (omega (arith, is))

  pub read_cause : (cause : Cause) → Ends task change cause → status_of cause ≡ 3 → Any (IsMissing change.files.held) (inputs_of task.said) ⊎ Rose change.files.read_faults change.files_now.read_faults
  read_cause Done e is = absurd (omega (arith, is))
  read_cause Memory e is = absurd (omega (arith, is))
  read_cause (Usage i) e is = absurd (omega (arith, is))
  read_cause (Unread name) e is = elim e.cause [
    | inl missing ↦ inl (any_of (inputs_of task.said) name (IsMissing change.files.held) missing.0 missing.1)
    | inr failed ↦ inr failed
  ]
  read_cause Unwritten e is = absurd (omega (arith, is))
  read_cause (Refused name r) e is = absurd (omega (arith, is))
  read_cause (Differs name field) e is = absurd (omega (arith, is))
  read_cause (HasTooMany surplus) e is = absurd (omega (arith, is))

  pub write_cause : (cause : Cause) → Ends task change cause → status_of cause ≡ 4 → Rose change.files.write_faults change.files_now.write_faults ⊎ Rose change.out.faults change.out_now.faults
  write_cause Done e is = absurd (omega (arith, is))
  write_cause Memory e is = absurd (omega (arith, is))
  write_cause (Usage i) e is = absurd (omega (arith, is))
  write_cause (Unread name) e is = absurd (omega (arith, is))
  write_cause Unwritten e is = elim e.0 [
    | inl write ↦ inl write.0
    | inr put ↦ inr put.rose
  ]
  write_cause (Refused name r) e is = absurd (omega (arith, is))
  write_cause (Differs name field) e is = absurd (omega (arith, is))
  write_cause (HasTooMany surplus) e is = absurd (omega (arith, is))

  -- ---- standard output
  quiet_unless : (cause : Cause) → Ends task change cause → (status_of cause ≡ 0) ⊎ ((status_of cause ≡ 4) ⊎ IsQuiet change)
  quiet_unless Done e = inl refl
  quiet_unless Memory e = inr (inr e.1)
  quiet_unless (Usage i) e = inr (inr e.3)
  quiet_unless (Unread name) e = inr (inr e.quiet)
  quiet_unless Unwritten e = inr (inl refl)
  quiet_unless (Refused name r) e = inr (inr e.4)
  quiet_unless (Differs name field) e = inr (inr e.4)
  quiet_unless (HasTooMany surplus) e = inr (inr e.3)

  pub quiet_but : (cause : Cause) → Ends task change cause → (status_of cause ≡ 0) ⊎ ((status_of cause ≡ 4) ⊎ (change.out_now ≡ change.out))
  quiet_but cause e = quiet_unless cause e

  abbrev pub IsPut : Ending → Type 0
  IsPut ending = (n : ℕ) × (change.out_now.written ≡ written_after change.out.written (take n ending.text))

  nothing_put : (ending : Ending) → IsQuiet change → IsPut ending
  nothing_put ending quiet = (0, ap (λ (o : SinkView). o.written) (quiet ∙ with_more-none change.out ∙ ap (with_more change.out) (sym (take_0 ending.text))))
    where
      take_0 : (text : List ℕ) → take 0 text ≡ []
      take_0 [] = refl
      take_0 (x ∷ text) = refl

  all_put : (files : FileMap) (ending : Ending) (cause : Cause) → EndsAs task change cause → change.files.held ≡ Some files → RunOf task files ending → IsPut ending
  all_put files ending cause ends known defined =
      let h = ends files known in
      let is : h.0 ≡ ending = sym (h.1.only ending defined) in
      let whole : take (length ending.text) ending.text ≡ ending.text = take_all (length ending.text) ending.text (omega arith) in
      (length ending.text, ap (λ (o : SinkView). o.written) (h.4 ∙ ap (λ (e : Ending). with_more change.out e.text) is ∙ ap (with_more change.out) (sym whole)))

  pub put_of : (cause : Cause) (files : FileMap) (ending : Ending) → Ends task change cause → change.files.held ≡ Some files → RunOf task files ending → IsPut ending
  put_of Done files ending e known defined = all_put files ending Done e.0 known defined
  put_of Memory files ending e known defined = nothing_put ending e.1
  put_of (Usage i) files ending e known defined = nothing_put ending e.3
  put_of (Unread name) files ending e known defined = nothing_put ending e.quiet
  put_of Unwritten files ending e known defined = elim e.0 [
    | inl write ↦ nothing_put ending write.2
    | inr put ↦
        let h = put.known files known in
        let is : h.0 ≡ ending = sym (h.1.only ending defined) in
        (h.5.0, ap (λ (o : SinkView). o.written) (h.5.1 ∙ ap (λ (e : Ending). with_fault (with_more change.out (take h.5.0 e.text))) is))
  ]
  put_of (Refused name r) files ending e known defined = nothing_put ending e.4
  put_of (Differs name field) files ending e known defined = nothing_put ending e.4
  put_of (HasTooMany surplus) files ending e known defined = nothing_put ending e.3

-- the text of a stop was put
pub says : (inputs : List (List ℕ)) (stop other : Stop) (text : List ℕ) (old new : SinkView) → stop ≡ other → text ≡ line_of (cause_of inputs (Err other)) → Puts text old new → Puts (line_of (cause_of inputs (Err stop))) old new
says inputs stop other text old new is same puts =
    subst (λ (s : Stop). Puts (line_of (cause_of inputs (Err s))) old new) (sym is) (subst (λ (t : List ℕ). Puts t old new) same puts)

pub says_done : (inputs : List (List ℕ)) (outcome : Result (Unit {0}) Stop) (u : Unit {0}) (old new : SinkView) → outcome ≡ Ok u → new ≡ old → Puts (line_of (cause_of inputs outcome)) old new
says_done inputs outcome u old new is same =
    subst (λ (o : Result (Unit {0}) Stop). Puts (line_of (cause_of inputs o)) old new) (sym is) (inl (same ∙ with_more-none old))
