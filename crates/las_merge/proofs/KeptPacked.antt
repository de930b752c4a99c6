-- What keeps packed inputs from being copied is one cause.
use Rattle.std.proofs.Common.{◌≡◌, inl, inr, ℕ, zero, suc, ◌<◌, ◌≤◌, List, [], ◌∷◌, length, Option, Some, refl, sym, ◌∙◌, ap, subst, arith}
use Rattle.std.specs.Prelude.{All}
use Rattle.std.specs.FinMap as finmap
use Rattle.las_header.specs.declared.refusal.Refusal.{Refusal}
use Rattle.las_header.specs.Fields.{head_of, is_packed}
use Rattle.las_outside.specs.Faults.{Rose}
use Rattle.las_outside.specs.Files.{FileMap, IsMissing, WhereKnown}
use Rattle.las_outside.specs.Outside.{Outside}
use Rattle.laz_forms.specs.declared.fault.Fault.{Fault}
use Rattle.laz_forms.specs.declared.fault.Fault.TheVariants as fault
use Rattle.laz_forms.specs.Refusing.{IsRefusal}
use Rattle.laz_reader.specs.Reading.{EndsReading}
use Rattle.laz_forms.proofs.Public.{known_then}
use Rattle.las_merge.specs.declared.field.Field.{Field}
use Rattle.las_merge.specs.declared.fault.MergeFault.{MergeFault}
use Rattle.las_merge.specs.declared.fault.MergeFault.TheVariants.{At, Unequal, TooManyPoints, TooManyChunks, Write, Memory}
use Rattle.las_merge.specs.Fields.{first_difference}
use Rattle.las_merge.specs.Inputs.{item_at}
use Rattle.las_merge.specs.Listing.{EndsListing, FailsNextPacked, FailsToList, IsPackedInput}
use Rattle.las_merge.specs.Opening.{AreOpen, InputSeen, IsItsFile, IsOpen, OpensTo, merge_fault, first_read, input_names}
use Rattle.las_merge.specs.Packed.{AreFirstPacked, IsKeptFromCopying, IsNoFault, IsPacked, IsRefusedToCopy, ReachesPacked}
use Rattle.las_merge.proofs.Known.{file_length, file_of, files_of, first_by, held_at, name_length, read_first, read_head}

-- ---- a fault of the next input is one of all inputs
fails_since : (name : List ℕ) (start old new : Outside) → old.held ≡ start.held → old.read_faults ≡ start.read_faults → (f : Fault) → FailsToList name old new f → FailsToList name start new f
fails_since name start old new held reads (fault.Refused cause) h = subst (λ (o : Option FileMap). WhereKnown o name (λ file. IsRefusedToCopy file cause)) held h
fails_since name start old new held reads fault.Read (inl missing) = inl (subst (λ (o : Option FileMap). IsMissing o name) held missing)
fails_since name start old new held reads fault.Read (inr rose) = inr (subst (λ (n : ℕ). Rose n new.read_faults) reads rose)
fails_since name start old new held reads fault.Write h = h
fails_since name start old new held reads fault.Memory h = h

-- opening the next input failed
pub fails_open : (old new : Outside) (name : List ℕ) (number : ℕ) (inputs : List InputSeen) → number ≡ length inputs → (f : Fault) → ((cause : Refusal) → f ≡ fault.Refused cause → WhereKnown old.held name (λ file. IsRefusal file (Some cause)))
    → EndsReading (IsMissing old.held name) old new f → FailsNextPacked name inputs old new (merge_fault number f)
fails_open old new name number inputs is (fault.Refused cause) refused ends = (is, known_then old.held name (λ file. IsRefusal file (Some cause)) (λ file. IsRefusedToCopy file cause) (λ file r. inr r) (refused cause refl))
fails_open old new name number inputs is fault.Read refused ends = (is, ends)
fails_open old new name number inputs is fault.Write refused ends = absurd ends
fails_open old new name number inputs is fault.Memory refused ends = (is, tt)

pub next_ends_packed : (names : List (List ℕ)) (readers : List InputSeen) (name : List ℕ) (start old new : Outside) → AreOpen start.held names readers → All IsPackedInput readers → length readers < length names → name ≡ item_at names (length readers) → old.held ≡ start.held
    → old.read_faults ≡ start.read_faults → (f : MergeFault) → FailsNextPacked name readers old new f → EndsListing names start new f
next_ends_packed names readers name start old new all packed within named held reads (At number cause) h =
    let at : name ≡ item_at names number = named ∙ ap (λ (k : ℕ). item_at names k) (sym h.0) in (
      readers,
      record { opened = all; number_is = sym h.0; within = omega (arith, within, h.0) },
      packed,
      subst (λ (n : List ℕ). FailsToList n start new cause) at (fails_since name start old new held reads cause h.1),
    )
next_ends_packed names readers name start old new all packed within named held reads (Unequal number field) h =
    let at : name ≡ item_at names number = named ∙ ap (λ (k : ℕ). item_at names k) (sym h.0) in (
      readers,
      h.2.0,
      record { opened = all; number_is = sym h.0; within = omega (arith, within, h.0) },
      omega (arith, h.0, h.1),
      packed,
      h.2.1 ∙ at,
      subst (λ (o : Option FileMap). IsOpen o h.2.0) held h.2.2,
      h.2.3,
      h.2.4,
    )
next_ends_packed names readers name start old new all packed within named held reads TooManyPoints h = absurd h
next_ends_packed names readers name start old new all packed within named held reads TooManyChunks h = absurd h
next_ends_packed names readers name start old new all packed within named held reads Write h = absurd h
next_ends_packed names readers name start old new all packed within named held reads Memory h = absurd h

-- ---- files that are known
module _ (known : FileMap) where
  pub packed_files : (readers : List InputSeen) → All (IsOpen (Some known)) readers → All IsPackedInput readers → All IsPacked (files_of known (input_names readers))
  packed_files [] opened packed k d lt = absurd (omega (arith, lt))
  packed_files (r ∷ rs) opened packed zero d lt = ap is_packed (sym (read_head known r (opened 0 r (omega arith)))) ∙ packed 0 r (omega arith)
  packed_files (r ∷ rs) opened packed (suc k) d lt = packed_files rs (λ i e less. opened (suc i) e (omega (arith, less))) (λ i e less. packed (suc i) e (omega (arith, less))) k d (omega (arith, lt))

  module _ (names : List (List ℕ)) where
    count_files : (readers : List InputSeen) → length (files_of known (input_names readers)) ≡ length readers
    count_files readers = file_length known (input_names readers) ∙ name_length known readers

    pub first_packed : (readers : List InputSeen) → AreOpen (Some known) names readers → All IsPackedInput readers → AreFirstPacked known names (files_of known (input_names readers))
    first_packed readers o packed = record { first = first_by known names readers o; packed = packed_files readers o.opened packed }

    reaches : (number : ℕ) (readers : List InputSeen) → OpensTo (Some known) names number readers → All IsPackedInput readers → ReachesPacked known names number (files_of known (input_names readers))
    reaches number readers o packed = record { first = first_packed readers o.opened packed; number_is = count_files readers ∙ o.number_is; within = o.within }

    refused_at : (number : ℕ) (cause : Refusal) (readers : List InputSeen) → OpensTo (Some known) names number readers → All IsPackedInput readers → WhereKnown (Some known) (item_at names number) (λ file. IsRefusedToCopy file cause)
        → IsKeptFromCopying known names (At number (fault.Refused cause))
    refused_at number cause readers o packed k =
        let h = held_at known (item_at names number) (λ file. IsRefusedToCopy file cause) k in
        (files_of known (input_names readers), file_of known (item_at names number), reaches number readers o packed, h.0, h.1)

    unequal_at : (number : ℕ) (field : Field) (readers : List InputSeen) (reader : InputSeen) → OpensTo (Some known) names number readers → 1 ≤ number → All IsPackedInput readers → reader.name ≡ item_at names number → IsOpen (Some known) reader → IsPackedInput reader
        → first_difference (first_read readers) reader.head.bytes ≡ Some field → IsKeptFromCopying known names (Unequal number field)
    unequal_at number field readers reader o some packed named open_one packed_one differs =
        let h = held_at known reader.name (IsItsFile reader) open_one.stands in
        let head = read_head known reader open_one in (
          files_of known (input_names readers),
          file_of known reader.name,
          reaches number readers o packed,
          some,
          ap (λ (n : List ℕ). finmap.get known n) (sym named) ∙ h.0,
          h.1.accepted,
          ap is_packed (sym head) ∙ packed_one,
          ap (λ (first : List ℕ). first_difference first (head_of (file_of known reader.name))) (sym (read_first known readers o.opened.opened (omega (arith, some, o.number_is))))
              ∙ ap (λ (h : List ℕ). first_difference (first_read readers) h) (sym head) ∙ differs,
        )

    pub kept_by_ends : (old new : Outside) → old.held ≡ Some known → (f : MergeFault) → IsNoFault f → EndsListing names old new f → IsKeptFromCopying known names f
    kept_by_ends old new is (At number (fault.Refused cause)) kind d =
        refused_at number cause d.0 (subst (λ (h : Option FileMap). OpensTo h names number d.0) is d.1) d.2 (subst (λ (h : Option FileMap). WhereKnown h (item_at names number) (λ file. IsRefusedToCopy file cause)) is d.3)
    kept_by_ends old new is (At number fault.Read) kind d = absurd kind
    kept_by_ends old new is (At number fault.Write) kind d = absurd kind
    kept_by_ends old new is (At number fault.Memory) kind d = absurd kind
    kept_by_ends old new is (Unequal number field) kind d =
        unequal_at number field d.0 d.1 (subst (λ (h : Option FileMap). OpensTo h names number d.0) is d.2) d.3 d.4 d.5 (subst (λ (h : Option FileMap). IsOpen h d.1) is d.6) d.7 d.8
    kept_by_ends old new is TooManyPoints kind d = absurd d
    kept_by_ends old new is TooManyChunks kind d = absurd d
    kept_by_ends old new is Write kind d = absurd d
    kept_by_ends old new is Memory kind d = absurd d

    pub before_packed : (held : Option FileMap) → held ≡ Some known → (number : ℕ) (readers : List InputSeen) → OpensTo held names number readers → All IsPackedInput readers
        → (before : List (List ℕ)) × AreFirstPacked known names before × (length before ≡ number)
    before_packed held is number readers o packed =
        let here = subst (λ (h : Option FileMap). OpensTo h names number readers) is o in
        (files_of known (input_names readers), first_packed readers here.opened packed, count_files readers ∙ o.number_is)
