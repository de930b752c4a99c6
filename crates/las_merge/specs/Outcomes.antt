-- What merging, by records or by copied chunks, says of its outcome.
use Rattle.std.specs.Prelude.{◌≡◌, ℕ, ◌<◌, List, length, Option, Result, IfErr, IsErrOf, OnErr, OnOk}
use Rattle.las_header.specs.declared.refusal.Refusal.{Refusal}
use Rattle.las_outside.specs.Faults.{Rose}
use Rattle.las_outside.specs.Frames.{IsCalm}
use Rattle.las_outside.specs.Outside.{Later, Outside}
use Rattle.laz_forms.specs.declared.fault.Fault.{Fault}
use Rattle.laz_forms.specs.declared.fault.Fault.TheVariants as fault
use Rattle.laz_copied.specs.Copied.{Chunk}
use Rattle.las_merge.specs.declared.fault.MergeFault.{MergeFault}
use Rattle.las_merge.specs.declared.fault.MergeFault.TheVariants.{At, Unequal, TooManyPoints, TooManyChunks, Write}
use Rattle.las_merge.specs.declared.field.Field.{Field}
use Rattle.las_merge.specs.Inputs.{CanBeMerged, IfKnown, IsKeptBy, IsReached, IsUnread, item_at}
use Rattle.las_merge.specs.Merging.{IsLeftIn, IsMerged, IsRefusedIn}
use Rattle.las_merge.specs.Packed.{CanCopyInputs, CanCopyFrom, IsCopied, IsKeptFromCopying, IsLeftOfCopy, IsNoFault}
use Rattle.las_merge.specs.Packed.{IsReachedPacked}

-- What merging the inputs of these names by their records says of its outcome.
pub record SaysMerging (names : List (List ℕ)) (output : List ℕ) (chunk : Option ℕ) (old now : Outside)
    (outcome : Result (Unit {0}) MergeFault) : Type 0 where
  -- The output has the records of all inputs.
  pub merged : OnOk outcome (IfKnown old.held (λ known. IsMerged known names output chunk old.held now.held))
  -- An input is refused when it is opened, or a chunk of it is bad.
  pub refused : (number : ℕ) (cause : Refusal) → IsErrOf outcome (At number (fault.Refused cause))
      → IfKnown old.held (λ known. IsRefusedIn known names output chunk number cause old.held now.held)
  -- An input differs from the first, or there are too many records. Then no file has changed.
  pub unequal : (number : ℕ) (field : Field) → IsErrOf outcome (Unequal number field)
      → (number < length names) × (now.held ≡ old.held)
      × IfKnown old.held (λ known. IsKeptBy known names (Unequal number field))
  pub too_many : IsErrOf outcome TooManyPoints
      → (now.held ≡ old.held) × IfKnown old.held (λ known. IsKeptBy known names TooManyPoints)
  -- A read that failed is an input's, and so is a missing input: those before it are held, accepted when they are
  -- opened, and like the first.
  pub at : (number : ℕ) (cause : Fault) → IsErrOf outcome (At number cause)
      → (number < length names) × IfKnown old.held (λ known. IsReached known names number)
  pub read : (number : ℕ) → IsErrOf outcome (At number fault.Read) → IsUnread (item_at names number) old now
  pub write : IsErrOf outcome Write
      → Rose old.write_faults now.write_faults × IfKnown old.held (λ known. CanBeMerged known names)
  pub never : (number : ℕ) → IsErrOf outcome (At number fault.Write) → ⊥
  pub few_chunks : IsErrOf outcome TooManyChunks → ⊥
  -- The output is begun only if the inputs can be merged, and then it is left unfinished.
  pub left : OnErr outcome (IfKnown old.held (λ known. IsLeftIn known names output chunk old.held now.held))
  pub calm : OnOk outcome (IsCalm old now)
  pub later : Later old now

-- What copying the chunks of the inputs of these names says of its outcome.
pub record SaysCopying (names : List (List ℕ)) (output : List ℕ) (old now : Outside)
    (outcome : Result (Unit {0}) MergeFault) : Type 0 where
  -- The output has the chunks of all inputs.
  pub copied : OnOk outcome (IfKnown old.held (λ known.
      (files : List (List ℕ)) × (parts : List (List Chunk)) × CanCopyFrom known names files parts
      × IsCopied output files parts old.held now.held))
  -- Something keeps the inputs from being copied. Then no file has changed.
  pub kept : IfErr outcome (λ cause. IsNoFault cause
      → (now.held ≡ old.held) × IfKnown old.held (λ known. IsKeptFromCopying known names cause))
  pub unequal : (number : ℕ) (field : Field) → IsErrOf outcome (Unequal number field) → number < length names
  -- A read that failed is an input's, and so is a missing input: those before it are held, accepted when they are
  -- opened, packed, and like the first.
  pub at : (number : ℕ) (cause : Fault) → IsErrOf outcome (At number cause)
      → (number < length names) × IfKnown old.held (λ known. IsReachedPacked known names number)
  pub read : (number : ℕ) → IsErrOf outcome (At number fault.Read) → IsUnread (item_at names number) old now
  pub write : IsErrOf outcome Write
      → Rose old.write_faults now.write_faults × IfKnown old.held (λ known. CanCopyInputs known names)
  pub never : (number : ℕ) → IsErrOf outcome (At number fault.Write) → ⊥
  -- The output is begun only if the inputs can be copied, and then a prefix of it is left.
  pub left : OnErr outcome (IfKnown old.held (λ known. IsLeftOfCopy known names output old.held now.held))
  pub calm : OnOk outcome (IsCalm old now)
  pub later : Later old now
