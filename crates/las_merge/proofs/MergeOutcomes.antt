-- What merging says of its outcome, at each of its ends.
use Rattle.std.proofs.Common.{◌≡◌, inl, inr, ℕ, ◌^◌, ◌<◌, ◌≤◌, List, [], length, Option, Result, Ok, Err, sym, ◌∙◌}
use Rattle.std.proofs.Common.{ap, subst, is_some}
use Rattle.std.specs.Prelude.{IfErr, IsErrAnd, OnOk}
use Rattle.std.proofs.lemmas.Result.{IfErr-weaker, on_ok_weaker}
use Rattle.las_outside.specs.Faults.{Rose}
use Rattle.las_outside.specs.Files.{with_file}
use Rattle.las_outside.specs.Frames.{IsCalm, OnlyReads, OnlyWrites}
use Rattle.las_outside.specs.Outside.{Later, Outside}
use Rattle.las_outside.proofs.Public.{calm-trans, later-trans}
use Rattle.laz_forms.specs.declared.fault.Fault.TheVariants as fault
use Rattle.laz_forms.specs.Outputs.{finished}
use Rattle.laz_writer.specs.Writing.{Stands, WriterSeen}
use Rattle.laz_file.proofs.Public.{err_at}
use Rattle.las_merge.specs.declared.fault.MergeFault.{MergeFault}
use Rattle.las_merge.specs.declared.fault.MergeFault.TheVariants.{At, Unequal, TooManyPoints, TooManyChunks, Write}
use Rattle.las_merge.specs.Copying.{CopiesAll, EndsMerging, FailsBeginning, output_of_merge}
use Rattle.las_merge.specs.Opening.{AreOpen, EndsOpening, InputSeen, first_read, input_names, points_read}
use Rattle.las_merge.specs.Outcomes.{SaysMerging}
use Rattle.las_merge.proofs.Again.{never_known, none_after, none_before}
use Rattle.las_merge.proofs.Ends.{AreOther, before_by, can_by, first_before, many_by, refused_by, unequal_by}
use Rattle.las_merge.proofs.Known.{files_of}
use Rattle.las_merge.proofs.Whole.{at_number, can_merge, ends_mid, left_begun, merged_all, merged_bad, merged_left}
use Rattle.las_merge.proofs.Whole.{names_are}

pub same_fault : {e w : MergeFault} → ◌≡◌ {A = Result (Unit {0}) MergeFault} (Err e) (Err w) → e ≡ w
same_fault is = cc

-- what holds of a fault holds of the outcome that it is
pub err_is : (P : Result (Unit {0}) MergeFault → Type 0) (r : Result (Unit {0}) MergeFault) (e : MergeFault)
    → IsErrAnd r (λ x. x ≡ e) → P (Err e) → P r
err_is P (Ok x) e is p = absurd is
err_is P (Err x) e is p = subst (λ (y : MergeFault). P (Err y)) (sym is) p

module _ (names : List (List ℕ)) (output : List ℕ) (chunk : Option ℕ) (old : Outside) where
  -- An input was not opened, or differs, or there are too many records.
  pub says_opening : (new : Outside) → OnlyReads old new → (e : MergeFault) → EndsOpening names old new e
      → SaysMerging names output chunk old new (Err e)
  says_opening new reads e ends =
      let P : MergeFault → Type 0 = EndsOpening names old new in
      record {
        merged = tt;
        refused = λ number cause is known holds.
            let d = subst P (same_fault is) ends in
            inl (refused_by old.held known holds names number cause d.0 d.1 d.2, reads.held);
        unequal = λ number field is.
            let d = subst P (same_fault is) ends in (
              d.2.within,
              reads.held,
              λ known holds. unequal_by old.held known holds names number field d.0 d.1 d.2 d.3 d.4 d.5 d.6,
            );
        too_many = λ is.
            let d = subst P (same_fault is) ends in
            (reads.held, λ known holds. many_by old.held known holds names d.0 d.1 d.2 d.3);
        at = λ number cause is.
            let d = subst P (same_fault is) ends in
            (d.1.within, λ known holds. before_by old.held known holds names number d.0 d.1);
        read = λ number is. elim (subst P (same_fault is) ends).2 [
          | inl missing ↦ inl (missing, reads.held)
          | inr rose ↦ inr rose
        ];
        write = λ is. absurd (subst P (same_fault is) ends);
        never = λ number is. (subst P (same_fault is) ends).2;
        few_chunks = λ is. subst P (same_fault is) ends;
        left = λ known holds. inl reads.held;
        calm = tt;
        later = reads.later;
      }

  module _ (readers : List InputSeen) (opened : AreOpen old.held names readers) (all : length readers ≡ length names)
      (head : List ℕ) (some : 1 ≤ length names) (head_is : head ≡ first_read readers)
      (few : points_read readers < 2 ^ 32) (mid now : Outside) (reads : OnlyReads old mid)
      (begun : OnlyWrites mid now) where
    -- The output was not begun.
    pub says_beginning : (e : MergeFault) → FailsBeginning mid now (output_of_merge output head chunk) e
        → SaysMerging names output chunk old now (Err e)
    says_beginning e fails =
        let P : MergeFault → Type 0 = FailsBeginning mid now (output_of_merge output head chunk) in
        record {
          merged = tt;
          refused = λ number cause is. absurd (subst P (same_fault is) fails);
          unequal = λ number field is. absurd (subst P (same_fault is) fails);
          too_many = λ is. absurd (subst P (same_fault is) fails);
          at = λ number cause is. absurd (subst P (same_fault is) fails);
          read = λ number is. absurd (subst P (same_fault is) fails);
          write = λ is. (
            subst (λ (n : ℕ). Rose n now.write_faults) reads.writes (subst P (same_fault is) fails).0,
            λ known holds.
                (files_of known (input_names readers), can_by old.held known holds names readers opened all few),
          );
          never = λ number is. subst P (same_fault is) fails;
          few_chunks = λ is. subst P (same_fault is) fails;
          left = λ known holds. left_begun old.held names readers opened all output head chunk some head_is known holds
              few mid now e reads.held fails;
          calm = tt;
          later = later-trans old mid now reads.later begun.later;
        }

    module _ (opening : IsCalm old mid) (beginning : IsCalm mid now) (other : AreOther names output)
        (w : WriterSeen) (s : Stands mid now w (output_of_merge output head chunk) []) (new : Outside)
        (outcome : Result (Unit {0}) MergeFault) where
      abbrev Ends : MergeFault → Type 0
      Ends e = EndsMerging now.held mid.held now new (input_names readers) (output_of_merge output head chunk) e

      known_now : is_some now.held ≡ is_some old.held
      known_now = begun.later.known ∙ ap is_some reads.held

      within_names : (number : ℕ) → number < length (input_names readers) → number < length names
      within_names number = subst (λ (ns : List (List ℕ)). number < length ns)
          (names_are old.held names readers opened all)

      -- The output was begun.
      pub says_filling : OnOk outcome ((records : List ℕ) × CopiesAll now.held (input_names readers) records
          × (new.held ≡ with_file mid.held output (finished (output_of_merge output head chunk) records)))
          → IfErr outcome Ends → OnOk outcome (IsCalm now new) → Later now new
          → SaysMerging names output chunk old new outcome
      says_filling done ends filled later = record {
        merged = on_ok_weaker outcome (λ f known holds. merged_all old.held names readers opened all output head chunk some
            head_is other mid now w reads.held s known holds few f.0 new.held f.1 f.2) done;
        refused = λ number cause is known holds. elim (err_at Ends outcome (At number (fault.Refused cause)) ends is) [
          | inl e ↦ inr (merged_bad old.held names readers opened all output head chunk some head_is other mid now w
              reads.held s known holds few number cause e.0 new.held e.1 e.2)
          | inr e ↦ absurd (never_known old.held now.held known holds known_now e.1)
        ];
        unequal = λ number field is.
            let e = err_at Ends outcome (Unequal number field) ends is in (
              within_names number e.0,
              none_after new.held old.held (later.known ∙ known_now) (none_before now.held old.held known_now e.1),
              λ known holds. absurd (never_known old.held now.held known holds known_now e.1),
            );
        too_many = λ is. absurd (err_at Ends outcome TooManyPoints ends is);
        at = λ number cause is.
            let e = err_at Ends outcome (At number cause) ends is in
            let within = within_names number
            (at_number now.held mid.held now new (input_names readers) (output_of_merge output head chunk) number cause e)
            in (
              within,
              λ known holds. first_before known names (files_of known names) number
                  (can_merge old.held names readers opened all output head chunk some head_is other mid now w
                  reads.held s known holds few) within,
            );
        read = λ number is. inr (subst (λ (n : ℕ). Rose n new.read_faults) (beginning.reads ∙ opening.reads)
            (err_at Ends outcome (At number fault.Read) ends is).1);
        write = λ is. (
          subst (λ (n : ℕ). Rose n new.write_faults) (beginning.writes ∙ opening.writes)
              (err_at Ends outcome Write ends is).0,
          λ known holds. (
            files_of known names,
            can_merge old.held names readers opened all output head chunk some head_is other mid now w reads.held s
                known holds few,
          ),
        );
        never = λ number is. err_at Ends outcome (At number fault.Write) ends is;
        few_chunks = λ is. err_at Ends outcome TooManyChunks ends is;
        left = IfErr-weaker outcome Ends _
            (λ e here known holds. merged_left old.held names readers opened all output head chunk some head_is other
            mid now w reads.held s known holds few new.held
            (ends_mid mid now new (input_names readers) w (output_of_merge output head chunk) s e here)) ends;
        calm = on_ok_weaker outcome
            (λ c. calm-trans old mid new opening (calm-trans mid now new beginning c)) filled;
        later = later-trans old now new (later-trans old mid now reads.later begun.later) later;
      }
