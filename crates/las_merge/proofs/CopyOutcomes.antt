-- What copying the chunks of inputs says of its outcome, if nothing is written.
use Rattle.std.proofs.Common.{inl, inr, ℕ, List, Err, subst}
use Rattle.las_outside.specs.Frames.{OnlyReads}
use Rattle.las_outside.specs.Outside.{Outside}
use Rattle.las_merge.specs.declared.fault.MergeFault.{MergeFault}
use Rattle.las_merge.specs.declared.fault.MergeFault.TheVariants.{At, Unequal, TooManyPoints, TooManyChunks}
use Rattle.las_merge.specs.declared.fault.MergeFault.TheVariants.{Write, Memory}
use Rattle.las_merge.specs.Inputs.{IfKnown}
use Rattle.las_merge.specs.Listing.{EndsListing}
use Rattle.las_merge.specs.Outcomes.{SaysCopying}
use Rattle.las_merge.specs.Packed.{IsKeptFromCopying, IsNoFault}
use Rattle.las_merge.proofs.KeptPacked.{before_packed, kept_by_ends}
use Rattle.las_merge.proofs.MergeOutcomes.{same_fault}

-- a fault that is no input's own, and not of writing
abbrev IsOfAll : MergeFault → Type 0
IsOfAll (At number cause) = ⊥
IsOfAll (Unequal number field) = ⊥
IsOfAll TooManyPoints = Unit {0}
IsOfAll TooManyChunks = Unit {0}
IsOfAll Write = ⊥
IsOfAll Memory = Unit {0}

module _ (names : List (List ℕ)) (output : List ℕ) (old new : Outside) (reads : OnlyReads old new) where
  -- An input was not opened, is plain, or differs.
  pub says_listing : (e : MergeFault) → EndsListing names old new e → SaysCopying names output old new (Err e)
  says_listing e ends =
      let P : MergeFault → Type 0 = EndsListing names old new in
      record {
        copied = tt;
        kept = λ kind. (reads.held, λ known is. kept_by_ends known names old new is e kind ends);
        unequal = λ number field is. (subst P (same_fault is) ends).2.within;
        at = λ number cause is.
            let d = subst P (same_fault is) ends in
            (d.1.within, λ known holds. before_packed known names old.held holds number d.0 d.1 d.2);
        read = λ number is. elim (subst P (same_fault is) ends).3 [
          | inl missing ↦ inl (missing, reads.held)
          | inr rose ↦ inr rose
        ];
        write = λ is. absurd (subst P (same_fault is) ends);
        never = λ number is. (subst P (same_fault is) ends).3;
        left = λ known holds. inl reads.held;
        calm = tt;
        later = reads.later;
      }

  -- There are too many records, or too many chunks, or memory is short.
  says_of_all : (e : MergeFault) → IsOfAll e
      → (IsNoFault e → IfKnown old.held (λ known. IsKeptFromCopying known names e))
      → SaysCopying names output old new (Err e)
  says_of_all e of_all many = record {
    copied = tt;
    kept = λ kind. (reads.held, many kind);
    unequal = λ number field is. absurd (subst IsOfAll (same_fault is) of_all);
    at = λ number cause is. absurd (subst IsOfAll (same_fault is) of_all);
    read = λ number is. absurd (subst IsOfAll (same_fault is) of_all);
    write = λ is. absurd (subst IsOfAll (same_fault is) of_all);
    never = λ number is. subst IsOfAll (same_fault is) of_all;
    left = λ known holds. inl reads.held;
    calm = tt;
    later = reads.later;
  }

  pub says_points : IfKnown old.held (λ known. IsKeptFromCopying known names TooManyPoints)
      → SaysCopying names output old new (Err TooManyPoints)
  says_points many = says_of_all TooManyPoints tt (λ kind. many)

  pub says_chunks : IfKnown old.held (λ known. IsKeptFromCopying known names TooManyChunks)
      → SaysCopying names output old new (Err TooManyChunks)
  says_chunks many = says_of_all TooManyChunks tt (λ kind. many)

  pub says_memory : SaysCopying names output old new (Err Memory)
  says_memory = says_of_all Memory tt (λ kind. absurd kind)
