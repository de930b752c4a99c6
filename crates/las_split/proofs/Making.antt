-- How splitting a file ends, as a call that makes files.
use Rattle.std.proofs.Common.{◌≡◌, ◌≢◌, ℕ, List, [], ◌∷◌, map, take, Option, Some, None, is_none, Result, Ok, Err, IfOk, IfErr, OnOk, refl, sym, ◌∙◌, ap, subst}
use Rattle.std.specs.Prelude.{IsErrAnd}
use Rattle.std.specs.FinMap as finmap
use Rattle.las_filter.specs.declared.rule.Rule.{Rule}
use Rattle.las_header.specs.declared.refusal.Refusal.{Refusal}
use Rattle.las_outside.specs.Files.{FileMap, WhereKnown}
use Rattle.las_outside.specs.Frames.{IsCalm}
use Rattle.las_outside.specs.Outside.{Outside}
use Rattle.laz_forms.specs.declared.fault.Fault.{Fault}
use Rattle.laz_forms.specs.declared.fault.Fault.TheVariants.{Refused, Read, Write, Memory}
use Rattle.laz_forms.specs.FileFaults.{HasCause}
use Rattle.laz_forms.proofs.Public.{known_then}
use Rattle.laz_file.specs.Endings.{EndsMaking, IsOnlyProduct, LeavesFiles, LeavesOf, MakesAs, MakesOutput, OutputFile, Product, at_end, named, with_all}
use Rattle.laz_file.proofs.Public.{ends_err, left_done}
use Rattle.las_split.specs.Files.{with_files}
use Rattle.las_split.specs.Outputs.{LeavesParts, Splits, part_files}
use Rattle.las_split.specs.Splitting.{OnlySplits, SplitsTo}

files_known : (files : FileMap) (ps : List (List ℕ × List ℕ)) → with_files (Some files) ps ≡ Some (with_all files ps)
files_known files [] = refl
files_known files (p ∷ ps) = files_known (finmap.insert files p.0 p.1) ps

left_known : (parts : List OutputFile) (held now : Option FileMap) (files : FileMap) → LeavesParts parts held now → held ≡ Some files → (after : FileMap) × (now ≡ Some after) × LeavesFiles parts files after
left_known parts held now files left known =
    let ps = named (take left.0 parts) left.1 in
    (with_all files ps, left.3 ∙ ap (λ (h : Option FileMap). with_files h ps) known ∙ files_known files ps, (left.0, left.1, left.2, refl))

-- what splitting gives alone is one product
pub only_parts : (stem end : List ℕ) (rule : Rule) (file : List ℕ) (records : List (List ℕ)) (refusal : Option Refusal) → OnlySplits rule file records refusal
    → IsOnlyProduct (Splits stem end rule file) (record { files = part_files stem end rule file records; refusal = refusal })
only_parts stem end rule file records refusal only = record {
  makes = (records, refusal, only.are, refl);
  only = λ other makes.
      let product : (records : List (List ℕ)) → Option Refusal → Product = λ records refusal. record { files = part_files stem end rule file records; refusal = refusal } in
      let same = only.only makes.0 makes.1 makes.2 in
      makes.3 ∙ ap (λ (rs : List (List ℕ)). product rs makes.1) same.0 ∙ ap (product records) same.1;
}

module _ (stem end : List ℕ) (rule : Rule) (name : List ℕ) (old new : Outside) where
  -- all is done, or a refusal has ended it
  abbrev pub IsSplit : Option Refusal → (file : List ℕ) → Type 0
  IsSplit refusal file =
      (records : List (List ℕ)) × OnlySplits rule file records refusal × (new.held ≡ with_files old.held (map (at_end (is_none refusal)) (part_files stem end rule file records)))

  split_as : (refusal : Option Refusal) → WhereKnown old.held name (IsSplit refusal) → MakesAs (Splits stem end rule) name old new refusal
  split_as refusal split = known_then old.held name (IsSplit refusal) _
      (λ file h. (
        record { files = part_files stem end rule file h.0; refusal = refusal },
        only_parts stem end rule file h.0 refusal h.1,
        refl,
        λ files known.
            let ps = map (at_end (is_none refusal)) (part_files stem end rule file h.0) in
            h.2 ∙ ap (λ (o : Option FileMap). with_files o ps) known ∙ files_known files ps,
      )) split

  -- what is left
  abbrev pub Leaves : (file : List ℕ) → Type 0
  Leaves file = (records : List (List ℕ)) (refusal : Option Refusal) → SplitsTo rule file records refusal → LeavesParts (part_files stem end rule file records) old.held new.held

  left_of : WhereKnown old.held name Leaves → LeavesOf (Splits stem end rule) name old new
  left_of leaves = known_then old.held name Leaves _
      (λ file h files product known makes.
      let l = left_known (part_files stem end rule file makes.0) old.held new.held files (h makes.0 makes.1 makes.2) known in
      (l.0, l.1, subst (λ (p : Product). LeavesFiles p.files files l.0) (sym makes.3) l.2)) leaves

  -- records are in parts
  abbrev pub HasRecords : (file : List ℕ) → Type 0
  HasRecords file = (records : List (List ℕ)) (refusal : Option Refusal) → SplitsTo rule file records refusal → records ≢ []

  some_parts : (file : List ℕ) (records : List (List ℕ)) → records ≢ [] → part_files stem end rule file records ≢ []
  some_parts file [] some = absurd (some refl)
  some_parts file (r ∷ rs) some = λ none. absurd (cc)

  some_output : WhereKnown old.held name HasRecords → MakesOutput (Splits stem end rule) name old
  some_output some = known_then old.held name HasRecords _
      (λ file h product makes. subst (λ (p : Product). p.files ≢ []) (sym makes.3) (some_parts file makes.0 (h makes.0 makes.1 makes.2))) some

  by_fault : (T : Type 0) (fault : Fault) → HasCause old new fault → WhereKnown old.held name Leaves → (fault ≡ Write → WhereKnown old.held name HasRecords) → EndsMaking {T = T} (Splits stem end rule) name old new (Err fault)
  by_fault T (Refused cause) has left some = absurd has
  by_fault T Read has left some = (has, left_of left)
  by_fault T Write has left some = (has, some_output (some refl), left_of left)
  by_fault T Memory has left some = left_of left

  -- a call failed
  pub ends_fault : (T : Type 0) (outcome : Result T Fault) (fault : Fault) → IsErrAnd outcome (λ e. e ≡ fault) → HasCause old new fault → WhereKnown old.held name Leaves → (fault ≡ Write → WhereKnown old.held name HasRecords) → EndsMaking (Splits stem end rule) name old new outcome
  ends_fault T outcome fault is has left some = ends_err (Splits stem end rule) name old new T outcome fault is (by_fault T fault has left some)

  -- the records were refused
  pub ends_refused : (T : Type 0) (cause : Refusal) → WhereKnown old.held name (IsSplit (Some cause)) → WhereKnown old.held name Leaves → EndsMaking {T = T} (Splits stem end rule) name old new (Err (Refused cause))
  ends_refused T cause split left = (split_as (Some cause) split, left_of left)

  -- all parts were finished, or not
  pub ends_finishing : (T : Type 0) (outcome : Result T Fault) → IfOk outcome (λ x. WhereKnown old.held name (IsSplit None)) → OnOk outcome (IsCalm old new) → IfErr outcome (HasCause old new) → IfErr outcome (λ fault. WhereKnown old.held name Leaves)
      → IfErr outcome (λ fault. fault ≡ Write → WhereKnown old.held name HasRecords) → EndsMaking (Splits stem end rule) name old new outcome
  ends_finishing T (Ok x) split calm has left some =
      let made = split_as None split in
      (made, left_done (Splits stem end rule) name old new made, calm)
  ends_finishing T (Err fault) split calm has left some = by_fault T fault has left some
