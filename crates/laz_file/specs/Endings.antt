-- How a call ends that makes files of a file: what it makes, and what stands of it if all is done, after a refusal, and
-- after a fault.
use Rattle.std.specs.Prelude.{◌≡◌, ◌≢◌, ◌⊎◌, ℕ, ◌≤◌, Bool, true, false, List, [], ◌∷◌, length, map, take, Option}
use Rattle.std.specs.Prelude.{Some, None, is_none, Result, Ok, Err}
use Rattle.std.specs.FinMap as finmap
use Rattle.las_header.specs.declared.refusal.Refusal.{Refusal}
use Rattle.las_outside.specs.Drafts.{IsUnfinished, Patch, with_patches}
use Rattle.las_outside.specs.Faults.{Rose}
use Rattle.las_outside.specs.Files.{FileMap, WhereKnown}
use Rattle.las_outside.specs.Frames.{IsCalm}
use Rattle.las_outside.specs.Outside.{Outside}
use Rattle.laz_forms.specs.declared.fault.Fault.{Fault}
use Rattle.laz_forms.specs.declared.fault.Fault.TheVariants.{Refused, Read, Write, Memory}
use Rattle.laz_forms.specs.Outputs.{Output, draft_of, patches_of, stopped}

-- ---- what is made

-- A file that is written: its name, its draft, the patches of the draft in order, and what stands of it after a refusal
-- ended the work.
pub record OutputFile : Type 0 where
  pub name : List ℕ
  pub draft : List ℕ
  pub patches : List Patch
  pub stopped : List ℕ

-- an output of these records, one after another
abbrev pub output_file : Output → (records : List ℕ) → OutputFile
output_file out records = record {
  name = out.name;
  draft = draft_of out records;
  patches = patches_of out records;
  stopped = stopped out records;
}

-- What is made of a file: the outputs, in the order in which they are created, and the refusal that ends the work, if
-- there is one.
pub record Product : Type 0 where
  pub files : List OutputFile
  pub refusal : Option Refusal

-- one output: of all records, or of those before a refusal
abbrev pub writes : Output → (records : List ℕ) → Option Refusal → Product
writes out records refusal = record { files = output_file out records ∷ []; refusal = refusal }

-- ---- what stands of it

-- names with bytes put into files, one after another
abbrev pub with_all : FileMap → List (List ℕ × List ℕ) → FileMap
with_all files [] = files
with_all files (p ∷ ps) = with_all (finmap.insert files p.0 p.1) ps

-- the name and the bytes of a file at the end: finished if all is done, and else as it was stopped
abbrev pub at_end : (done : Bool) → OutputFile → List ℕ × List ℕ
at_end true file = (file.name, with_patches file.draft file.patches)
at_end false file = (file.name, file.stopped)

-- the files after a product is made
abbrev pub files_after : Product → FileMap → FileMap
files_after product files = with_all files (map (at_end (is_none product.refusal)) product.files)

-- these texts are the files', each of them a prefix of its draft
abbrev pub AreBegun : List OutputFile → (texts : List (List ℕ)) → Type 0
AreBegun [] [] = Unit {0}
AreBegun [] (t ∷ ts) = ⊥
AreBegun (o ∷ os) [] = ⊥
AreBegun (o ∷ os) (t ∷ ts) = ((n : ℕ) × (t ≡ take n o.draft)) × AreBegun os ts

-- these texts are the files', each of them its draft
abbrev pub AreDrafts : List OutputFile → (texts : List (List ℕ)) → Type 0
AreDrafts [] [] = Unit {0}
AreDrafts [] (t ∷ ts) = ⊥
AreDrafts (o ∷ os) [] = ⊥
AreDrafts (o ∷ os) (t ∷ ts) = (t ≡ o.draft) × AreDrafts os ts

-- these texts are the files' while one after another is finished: the first are, the next is a prefix of its draft, or
-- its draft after some of its patches, and each other one is its draft
abbrev pub AreEnding : List OutputFile → (texts : List (List ℕ)) → Type 0
AreEnding [] [] = Unit {0}
AreEnding [] (t ∷ ts) = ⊥
AreEnding (o ∷ os) [] = ⊥
AreEnding (o ∷ os) (t ∷ ts) =
    ((t ≡ with_patches o.draft o.patches) × AreEnding os ts) ⊎ (IsUnfinished o.draft o.patches t × AreDrafts os ts)

-- files' names with texts
abbrev pub named : List OutputFile → (texts : List (List ℕ)) → List (List ℕ × List ℕ)
named [] ts = []
named (o ∷ os) [] = []
named (o ∷ os) (t ∷ ts) = (o.name, t) ∷ named os ts

-- What is left of outputs that are all created before one is finished: the first of them were created, and each of
-- these is a prefix of its draft; or all were created, and they were being finished in their order. Every other file is
-- as before.
abbrev pub LeavesFiles : List OutputFile → (old now : FileMap) → Type 0
LeavesFiles files old now =
    (k : ℕ) × (texts : List (List ℕ))
    × (AreBegun (take k files) texts ⊎ ((length files ≤ k) × AreEnding (take k files) texts))
    × (now ≡ with_all old (named (take k files) texts))

-- ---- how a call ends

-- This product is made, and no other is.
pub record IsOnlyProduct (Makes : Product → Type 0) (product : Product) : Type 0 where
  pub makes : Makes product
  pub only : (other : Product) → Makes other → other ≡ product

-- If the files are known: of the file of this name one product is made and no other, its refusal is this one, and the
-- files are its own.
abbrev pub MakesAs : (Makes : (file : List ℕ) → Product → Type 0) → (name : List ℕ) → (old now : Outside)
    → Option Refusal → Type 0
MakesAs Makes name old now refusal = WhereKnown old.held name (λ file.
    (product : Product) × IsOnlyProduct (Makes file) product × (product.refusal ≡ refusal)
    × ((files : FileMap) → old.held ≡ Some files → now.held ≡ Some (files_after product files)))

-- If the files are known: what stands is left of every product that is made of the file.
abbrev pub LeavesOf : (Makes : (file : List ℕ) → Product → Type 0) → (name : List ℕ) → (old now : Outside) → Type 0
LeavesOf Makes name old now = WhereKnown old.held name (λ file.
    (files : FileMap) (product : Product) → old.held ≡ Some files → Makes file product
    → (after : FileMap) × (now.held ≡ Some after) × LeavesFiles product.files files after)

-- If the files are known: every product that is made of the file has an output.
abbrev pub MakesOutput : (Makes : (file : List ℕ) → Product → Type 0) → (name : List ℕ) → (old : Outside) → Type 0
MakesOutput Makes name old =
    WhereKnown old.held name (λ file. (product : Product) → Makes file product → product.files ≢ [])

-- How a call ends that makes files of the file of this name. If all is done, or the file is refused while its records
-- are read, the files of the one product stand, and no call has failed if all is done. Else a call that reads or one
-- that writes has failed, or memory is short, and an unfinished part of the product is left.
abbrev pub EndsMaking : {T : Type 0} → (Makes : (file : List ℕ) → Product → Type 0) → (name : List ℕ)
    → (old now : Outside) → Result T Fault → Type 0
EndsMaking Makes name old now (Ok _) =
    MakesAs Makes name old now None × LeavesOf Makes name old now × IsCalm old now
EndsMaking Makes name old now (Err (Refused cause)) =
    MakesAs Makes name old now (Some cause) × LeavesOf Makes name old now
EndsMaking Makes name old now (Err Read) = Rose old.read_faults now.read_faults × LeavesOf Makes name old now
EndsMaking Makes name old now (Err Write) =
    Rose old.write_faults now.write_faults × MakesOutput Makes name old × LeavesOf Makes name old now
EndsMaking Makes name old now (Err Memory) = LeavesOf Makes name old now
