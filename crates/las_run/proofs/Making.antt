-- What a call that makes files says of its outcome, as what a command makes of its input.
use Rattle.std.proofs.Common.{◌≡◌, ◌≢◌, ◌⊎◌, inl, inr, ℕ, Bool, List, [], ◌∷◌, map, take, Option, Some, None, is_none}
use Rattle.std.proofs.Common.{Result, Ok, Err, refl, sym, ◌∙◌, ap, subst, arith}
use Rattle.std.specs.Prelude.{IsErrOf, OnOk}
use Rattle.std.specs.FinMap as finmap
use Rattle.las_header.specs.declared.refusal.Refusal.{Refusal}
use Rattle.las_header.specs.declared.refusal.Refusal.TheVariants.{BadChunk, RawRange, TooManyParts}
use Rattle.las_info.specs.declared.reporting.ReportFault.{ReportFault}
use Rattle.las_info.specs.declared.reporting.ReportFault.TheVariants as report
use Rattle.las_outside.specs.Faults.{Rose}
use Rattle.las_outside.specs.Files.{FileMap, WhereKnown, with_file}
use Rattle.las_outside.specs.Sinks.{SinkView, with_fault, with_more}
use Rattle.las_outside.proofs.Public.{with_more-none}
use Rattle.laz_forms.specs.declared.fault.Fault.{Fault}
use Rattle.laz_forms.specs.declared.fault.Fault.TheVariants as file
use Rattle.laz_forms.specs.Outputs as points
use Rattle.laz_forms.proofs.Public.{known_then}
use Rattle.laz_file.specs.Copying.{LeavesUnfinished}
use Rattle.laz_file.specs.Endings.{EndsMaking, IsOnlyProduct, LeavesFiles, LeavesOf, MakesAs, MakesOutput, OutputFile}
use Rattle.laz_file.specs.Endings.{Product, at_end, output_file, with_all}
use Rattle.las_run.specs.Endings.{ComesAtOpening, Done, Ending, IsLeft, files_of, is_done}
use Rattle.las_run.specs.Tools.{EndsBy, cause_by, ending_of, ending_with}
use Rattle.las_run.specs.Ends.{Change, EndingsHaveOutput, EndsCommand, IsOnlyEnding, LeavesEnding, MakesEnding}
use Rattle.las_run.specs.Ends.{MakesOne, quiet, stop_by, stopped_report}
use Rattle.las_run.proofs.Endings.{nothing_left}

-- what stands of an output that was left unfinished
pub left_of_output : (out : points.Output) (records : List ℕ) (held now : Option FileMap) (files : FileMap) → LeavesUnfinished out records held now → held ≡ Some files → (after : FileMap) × (now ≡ Some after) × IsLeft (output_file out records ∷ []) files after
left_of_output out records held now files (inl same) known = (files, same ∙ known, nothing_left (output_file out records ∷ []) files)
left_of_output out records held now files (inr left) known = (finmap.insert files out.name left.0, left.2 ∙ ap (λ (h : Option FileMap). with_file h out.name left.0) known, (1, left.0 ∷ [], inr (inr (left.1, tt)), refl))

-- ---- refusals that come while records are read
pub chunk_late : (cause : Refusal) → (i : ℕ) × (cause ≡ BadChunk i) → ComesAtOpening cause → ⊥
chunk_late cause bad first = subst ComesAtOpening bad.1 first

pub part_late : (cause : Refusal) → ((i : ℕ) × (cause ≡ BadChunk i)) ⊎ (cause ≡ TooManyParts) → ComesAtOpening cause → ⊥
part_late cause (inl bad) first = chunk_late cause bad first
part_late cause (inr many) first = subst ComesAtOpening many first

pub record_late : (cause : Refusal) → ((i : ℕ) × (cause ≡ BadChunk i)) ⊎ ((k : ℕ) × (cause ≡ RawRange k))
    → ComesAtOpening cause → ⊥
record_late cause (inl bad) first = chunk_late cause bad first
record_late cause (inr raw) first = subst ComesAtOpening raw.1 first

-- ---- what is made, as an ending
same_done : (input : List ℕ) (refusal : Option Refusal) → is_done (cause_by input refusal) ≡ is_none refusal
same_done input None = refl
same_done input (Some refusal) = refl

left_weaker : (files : List OutputFile) (old now : FileMap) → LeavesFiles files old now → IsLeft files old now
left_weaker files old now left = (left.0, left.1, by left.2, left.3)
  where
    by : {A B C : Type 0} → A ⊎ (B × C) → A ⊎ C
    by (inl a) = inl a
    by (inr bc) = inr bc.1

-- Each ending that a command makes of its input is that of one of these products, with a text. If the work ends so that
-- it is silent, there is no text.
pub record IsToldBy (Makes : List ℕ → Product → Type 0) (input : List ℕ) (Silent : Option Refusal → Type 0) (Ends : List ℕ → Ending → Type 0) : Type 0 where
  pub product : (file : List ℕ) (ending : Ending) → Ends file ending → (product : Product) × (text : List ℕ)
      × Makes file product × (ending ≡ ending_with input product text) × (Silent product.refusal → text ≡ [])
  pub silent : (file : List ℕ) (product : Product) → Makes file product → Silent product.refusal
      → Ends file (ending_of input product)

-- a command that puts no text
pub by_product : (Makes : List ℕ → Product → Type 0) (input : List ℕ)
    → IsToldBy Makes input (λ refusal. Unit {0}) (EndsBy Makes input)
by_product Makes input = record {
  product = λ file ending ends. (ends.0, [], ends.1, ends.2, λ silent. refl);
  silent = λ file product makes silent. (product, makes, refl);
}

module _ {Makes : List ℕ → Product → Type 0} {input : List ℕ} {Silent : Option Refusal → Type 0} {Ends : List ℕ → Ending → Type 0} (told : IsToldBy Makes input Silent Ends) (change : Change) where
  only_ending : (file : List ℕ) (product : Product) → Silent product.refusal → IsOnlyProduct (Makes file) product
      → IsOnlyEnding (Ends file) (ending_of input product)
  only_ending file product silent one = record {
    makes = told.silent file product one.makes silent;
    only = λ other ends.
        let m = told.product file other ends in
        let same : m.0 ≡ product = one.only m.0 m.2 in
        m.3 ∙ ap (ending_with input m.0) (m.4 (subst (λ (p : Product). Silent p.refusal) (sym same) silent))
        ∙ ap (ending_of input) same;
  }

  makes_as : (refusal : Option Refusal) → Silent refusal → change.out_now ≡ change.out
      → MakesAs Makes input change.files change.files_now refusal
      → MakesEnding Ends input change (cause_by input refusal)
  makes_as refusal silent quiet makes = known_then change.files.held input _ _
      (λ file h. (
        ending_of input h.0,
        only_ending file h.0 (subst Silent (sym h.2) silent) h.1,
        (ap (cause_by input) h.2, quiet ∙ with_more-none change.out),
        λ files known. h.3 files known ∙ ap (λ (b : Bool). Some (with_all files (map (at_end b) h.0.files))) (sym (same_done input h.0.refusal)),
      )) makes

  pub leaves : LeavesOf Makes input change.files change.files_now → LeavesEnding Ends input change
  leaves left = known_then change.files.held input _ _
      (λ file h files ending known ends.
      let m = told.product file ending ends in
      let l = h files m.0 known m.2 in
      (l.0, l.1, subst (λ (e : Ending). IsLeft e.outputs files l.0) (sym m.3) (left_weaker m.0.files files l.0 l.2)))
      left

  outputs : MakesOutput Makes input change.files → EndingsHaveOutput Ends input change
  outputs some = known_then change.files.held input _ _
      (λ file h ending ends. let m = told.product file ending ends in subst (λ (e : Ending). e.outputs ≢ []) (sym m.3) (h m.0 m.2)) some

  pub ends_done : (T : Type 0) (x : T) → Silent None → change.out_now ≡ change.out
      → EndsMaking Makes input change.files change.files_now (Ok x) → EndsCommand Ends input change (Ok tt)
  ends_done T x silent quiet ends = (makes_as None silent quiet ends.0, leaves ends.1)

  -- a refusal comes while the records are read
  pub ends_stopped : (T : Type 0) (fault : Fault) → ((cause : Refusal) → Silent (Some cause))
      → change.out_now ≡ change.out → ((cause : Refusal) → fault ≡ file.Refused cause → ComesAtOpening cause → ⊥)
      → EndsMaking {T = T} Makes input change.files change.files_now (Err fault)
      → EndsCommand Ends input change (Err (stop_by 0 fault))
  ends_stopped T (file.Refused cause) silent quiet later ends = (
    refl,
    makes_as (Some cause) (silent cause) quiet ends.0,
    leaves ends.1,
    (λ first. absurd (later cause refl first)),
    quiet,
  )
  ends_stopped T file.Read silent quiet later ends = (refl, ends.0, leaves ends.1, quiet)
  ends_stopped T file.Write silent quiet later ends = (inl (ends.0, outputs ends.1, quiet), leaves ends.2)
  ends_stopped T file.Memory silent quiet later ends = (leaves ends, quiet)

-- ---- a text that is put when all is done
module _ (Ends : List ℕ → Ending → Type 0) (input : List ℕ) (change : Change) (text : List ℕ) where
  -- The one ending of a file is that all is done, with this text, and the files are its own.
  abbrev pub HasText : (file : List ℕ) → Type 0
  HasText file =
      (ending : Ending) × IsOnlyEnding (Ends file) ending × (ending.cause ≡ Done) × (ending.text ≡ text)
      × ((files : FileMap) → change.files.held ≡ Some files → change.files_now.held ≡ Some (files_of ending files))

  one_made : WhereKnown change.files.held input HasText → (P : Ending → Type 0)
      → ((ending : Ending) → ending.cause ≡ Done → ending.text ≡ text → P ending) → MakesOne Ends input change P
  one_made has P to = known_then change.files.held input HasText _ (λ file h. (h.0, h.1, to h.0 h.2 h.3, h.4)) has

  pub ends_put : (outcome : Result (Unit {0}) ReportFault) → WhereKnown change.files.held input HasText
      → LeavesEnding Ends input change → OnOk outcome (change.out_now ≡ with_more change.out text)
      → (IsErrOf outcome report.Failed → (n : ℕ) × (change.out_now ≡ with_fault (with_more change.out (take n text))))
      → (IsErrOf outcome report.Failed → text ≢ []) → (IsErrOf outcome report.Memory → change.out_now ≡ change.out)
      → EndsCommand Ends input change (stopped_report outcome)
  ends_put (Ok done) has left put failed some memory = (
    one_made has (λ ending. (ending.cause ≡ Done) × (change.out_now ≡ with_more change.out ending.text))
        (λ ending cause t. (cause, put ∙ ap (with_more change.out) (sym t))),
    left,
  )
  ends_put (Err report.Failed) has left put failed some memory =
      let f = failed refl in (
        inr (
          subst (λ (s : SinkView). Rose change.out.faults s.faults) (sym f.1) (omega arith),
          one_made has (λ ending. (ending.cause ≡ Done) × (ending.text ≢ [])
              × ((n : ℕ) × (change.out_now ≡ with_fault (with_more change.out (take n ending.text)))))
              (λ ending cause t. (
                cause,
                (λ empty. some refl (sym t ∙ empty)),
                (f.0, f.1 ∙ ap (λ (x : List ℕ). with_fault (with_more change.out (take f.0 x))) (sym t)),
              )),
        ),
        left,
      )
  ends_put (Err report.Memory) has left put failed some memory = (left, memory refl)
