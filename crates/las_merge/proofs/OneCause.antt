-- What keeps inputs from being joined, merged or copied, is one cause.
use Rattle.std.proofs.Common.{◌≡◌, inl, inr, ℕ, ◌<◌, List, length, refl, ◌∙◌, ap, subst, arith}
use Rattle.std.proofs.lemmas.Bool.{cases_lt}
use Rattle.las_header.specs.declared.refusal.Refusal.{Refusal}
use Rattle.laz_forms.specs.declared.fault.Fault.{Fault}
use Rattle.laz_forms.specs.declared.fault.Fault.TheVariants as fault
use Rattle.las_merge.specs.declared.field.Field.{Field}
use Rattle.las_merge.specs.declared.fault.MergeFault.{MergeFault}
use Rattle.las_merge.specs.declared.fault.MergeFault.TheVariants.{At, Unequal, TooManyPoints, TooManyChunks, Write}
use Rattle.las_merge.specs.declared.fault.MergeFault.TheVariants.{Memory}

-- The input of this number keeps the inputs from being joined: no list of first inputs reaches past it.
pub record Halts (IsFirst : List (List ℕ) → Type 0) (number : ℕ) : Type 0 where
  pub files : List (List ℕ)
  pub first : IsFirst files
  pub number_is : length files ≡ number
  pub past : (other : List (List ℕ)) → IsFirst other → number < length other → ⊥

-- the number of the input that a cause is about, or of all inputs
abbrev pub number_of : (all : ℕ) → MergeFault → ℕ
number_of all (At number cause) = number
number_of all (Unequal number field) = number
number_of all TooManyPoints = all
number_of all TooManyChunks = all
number_of all Write = 0
number_of all Memory = 0

-- Of two causes, one excludes the other, or both are the same.
pub record Excludes (all : ℕ) (IsFirst : List (List ℕ) → Type 0) (IsKept : MergeFault → Type 0) : Type 0 where
  pub halts : (cause : MergeFault) → IsKept cause → Halts IsFirst (number_of all cause)
  pub at_within : (number : ℕ) (cause : Fault) → IsKept (At number cause) → number < all
  pub unequal_within : (number : ℕ) (field : Field) → IsKept (Unequal number field) → number < all
  pub both_refused : (number : ℕ) (cause worse : Refusal) → IsKept (At number (fault.Refused cause))
      → IsKept (At number (fault.Refused worse)) → worse ≡ cause
  pub both_unequal : (number : ℕ) (field worse : Field) → IsKept (Unequal number field)
      → IsKept (Unequal number worse) → worse ≡ field
  pub refused_missing : (number : ℕ) (cause : Refusal) → IsKept (At number (fault.Refused cause))
      → IsKept (At number fault.Read) → ⊥
  pub refused_unequal : (number : ℕ) (cause : Refusal) (field : Field)
      → IsKept (At number (fault.Refused cause)) → IsKept (Unequal number field) → ⊥
  pub missing_unequal : (number : ℕ) (field : Field) → IsKept (At number fault.Read)
      → IsKept (Unequal number field) → ⊥
  pub points_chunks : IsKept TooManyPoints → IsKept TooManyChunks → ⊥
  pub not_writing : (number : ℕ) → IsKept (At number fault.Write) → ⊥
  pub not_memory : (number : ℕ) → IsKept (At number fault.Memory) → ⊥
  pub not_write : IsKept Write → ⊥
  pub not_short : IsKept Memory → ⊥

module _ (all : ℕ) (IsFirst : List (List ℕ) → Type 0) (IsKept : MergeFault → Type 0)
    (h : Excludes all IsFirst IsKept) where
  same_number : (one other : MergeFault) → IsKept one → IsKept other → number_of all other ≡ number_of all one
  same_number one other k l =
      let f = h.halts one k in
      let s = h.halts other l in
      elim (cases_lt (number_of all one) (number_of all other)) [
        | inl less ↦ absurd (f.past s.files s.first (omega (arith, less, s.number_is)))
        | inr more ↦ elim (cases_lt (number_of all other) (number_of all one)) [
          | inl less ↦ absurd (s.past f.files f.first (omega (arith, less, f.number_is)))
          | inr same ↦ omega (arith, more, same)
        ]
      ]

  -- ---- two causes of one number

  both_at : (number : ℕ) (cause worse : Fault) → IsKept (At number cause) → IsKept (At number worse)
      → worse ≡ cause
  both_at number (fault.Refused cause) (fault.Refused worse) k l =
      ap fault.Refused (h.both_refused number cause worse k l)
  both_at number (fault.Refused cause) fault.Read k l = absurd (h.refused_missing number cause k l)
  both_at number (fault.Refused cause) fault.Write k l = absurd (h.not_writing number l)
  both_at number (fault.Refused cause) fault.Memory k l = absurd (h.not_memory number l)
  both_at number fault.Read (fault.Refused worse) k l = absurd (h.refused_missing number worse l k)
  both_at number fault.Read fault.Read k l = refl
  both_at number fault.Read fault.Write k l = absurd (h.not_writing number l)
  both_at number fault.Read fault.Memory k l = absurd (h.not_memory number l)
  both_at number fault.Write worse k l = absurd (h.not_writing number k)
  both_at number fault.Memory worse k l = absurd (h.not_memory number k)

  at_unequal : (number : ℕ) (cause : Fault) (field : Field) → IsKept (At number cause)
      → IsKept (Unequal number field) → ⊥
  at_unequal number (fault.Refused cause) field k l = h.refused_unequal number cause field k l
  at_unequal number fault.Read field k l = h.missing_unequal number field k l
  at_unequal number fault.Write field k l = h.not_writing number k
  at_unequal number fault.Memory field k l = h.not_memory number k

  one_cause : (one other : MergeFault) → IsKept one → IsKept other → number_of all other ≡ number_of all one
      → other ≡ one
  one_cause (At n cause) (At m worse) k l same = ap (λ (i : ℕ). At i worse) same
      ∙ ap (λ (f : Fault). At n f) (both_at n cause worse k (subst (λ (i : ℕ). IsKept (At i worse)) same l))
  one_cause (At n cause) (Unequal m field) k l same =
      absurd (at_unequal n cause field k (subst (λ (i : ℕ). IsKept (Unequal i field)) same l))
  one_cause (At n cause) TooManyPoints k l same = absurd (omega (arith, same, h.at_within n cause k))
  one_cause (At n cause) TooManyChunks k l same = absurd (omega (arith, same, h.at_within n cause k))
  one_cause (At n cause) Write k l same = absurd (h.not_write l)
  one_cause (At n cause) Memory k l same = absurd (h.not_short l)
  one_cause (Unequal n field) (At m worse) k l same =
      absurd (at_unequal n worse field (subst (λ (i : ℕ). IsKept (At i worse)) same l) k)
  one_cause (Unequal n field) (Unequal m worse) k l same = ap (λ (i : ℕ). Unequal i worse) same
      ∙ ap (λ (f : Field). Unequal n f)
      (h.both_unequal n field worse k (subst (λ (i : ℕ). IsKept (Unequal i worse)) same l))
  one_cause (Unequal n field) TooManyPoints k l same = absurd (omega (arith, same, h.unequal_within n field k))
  one_cause (Unequal n field) TooManyChunks k l same = absurd (omega (arith, same, h.unequal_within n field k))
  one_cause (Unequal n field) Write k l same = absurd (h.not_write l)
  one_cause (Unequal n field) Memory k l same = absurd (h.not_short l)
  one_cause TooManyPoints (At m worse) k l same = absurd (omega (arith, same, h.at_within m worse l))
  one_cause TooManyPoints (Unequal m worse) k l same = absurd (omega (arith, same, h.unequal_within m worse l))
  one_cause TooManyPoints TooManyPoints k l same = refl
  one_cause TooManyPoints TooManyChunks k l same = absurd (h.points_chunks k l)
  one_cause TooManyPoints Write k l same = absurd (h.not_write l)
  one_cause TooManyPoints Memory k l same = absurd (h.not_short l)
  one_cause TooManyChunks (At m worse) k l same = absurd (omega (arith, same, h.at_within m worse l))
  one_cause TooManyChunks (Unequal m worse) k l same = absurd (omega (arith, same, h.unequal_within m worse l))
  one_cause TooManyChunks TooManyPoints k l same = absurd (h.points_chunks l k)
  one_cause TooManyChunks TooManyChunks k l same = refl
  one_cause TooManyChunks Write k l same = absurd (h.not_write l)
  one_cause TooManyChunks Memory k l same = absurd (h.not_short l)
  one_cause Write other k l same = absurd (h.not_write k)
  one_cause Memory other k l same = absurd (h.not_short k)

  pub by_one : (one other : MergeFault) → IsKept one → IsKept other → other ≡ one
  by_one one other k l = one_cause one other k l (same_number one other k l)

  -- ---- a cause, and inputs that can be joined

  pub not_both : (files : List (List ℕ)) → IsFirst files → length files ≡ all → (IsKept TooManyPoints → ⊥)
      → (IsKept TooManyChunks → ⊥) → (cause : MergeFault) → IsKept cause → ⊥
  not_both files first long few chunks (At n cause) k =
      (h.halts (At n cause) k).past files first (omega (arith, h.at_within n cause k, long))
  not_both files first long few chunks (Unequal n field) k =
      (h.halts (Unequal n field) k).past files first (omega (arith, h.unequal_within n field k, long))
  not_both files first long few chunks TooManyPoints k = few k
  not_both files first long few chunks TooManyChunks k = chunks k
  not_both files first long few chunks Write k = h.not_write k
  not_both files first long few chunks Memory k = h.not_short k
