-- The inputs of a merge, and what keeps them from being merged.
use Rattle.std.specs.Prelude.{◌≡◌, ◌⊎◌, ℕ, ◌^◌, ◌<◌, ◌≤◌, List, [], length, map, slice_index_or, Option, Some, None}
use Rattle.std.specs.Prelude.{All, String, string_bytes}
use Rattle.std.specs.FinMap as finmap
use Rattle.std.specs.declared.alloc.Global.{Global}
use Rattle.las_header.specs.Fields.{head_of}
use Rattle.las_outside.specs.Faults.{Rose}
use Rattle.las_outside.specs.Files.{FileMap, IsMissing}
use Rattle.las_outside.specs.Outside.{Outside}
use Rattle.laz_forms.specs.declared.fault.Fault.TheVariants as fault
use Rattle.laz_forms.specs.Refusing.{IsAcceptedFile, IsRefusal}
use Rattle.laz_copied.specs.Copied.{first_head, points_of_files}
use Rattle.las_merge.specs.declared.fault.MergeFault.{MergeFault}
use Rattle.las_merge.specs.declared.fault.MergeFault.TheVariants.{At, Unequal, TooManyPoints, TooManyChunks, Write}
use Rattle.las_merge.specs.declared.fault.MergeFault.TheVariants.{Memory}
use Rattle.las_merge.specs.Fields.{first_difference}

-- names as their bytes
abbrev pub names_of : List (String Global) → List (List ℕ)
names_of names = map string_bytes names

-- the name, and the file, of a number
abbrev pub item_at : List (List ℕ) → ℕ → List ℕ
item_at items number = slice_index_or items number []

-- The first inputs are these files: they are held, each is accepted when it is opened, and none differs from the first.
pub record AreFirstInputs (known : FileMap) (names files : List (List ℕ)) : Type 0 where
  pub within : length files ≤ length names
  pub held : (k : ℕ) → k < length files → finmap.get known (item_at names k) ≡ Some (item_at files k)
  pub accepted : All IsAcceptedFile files
  pub alike : All (λ file. first_difference (first_head files) (head_of file) ≡ None) files

-- The inputs are these files, and they can be merged: they have fewer than 2^32 records.
pub record CanMerge (known : FileMap) (names files : List (List ℕ)) : Type 0 where
  pub first : AreFirstInputs known names files
  pub all : length files ≡ length names
  pub few : points_of_files files < 2 ^ 32

abbrev pub CanBeMerged : (known : FileMap) → (names : List (List ℕ)) → Type 0
CanBeMerged known names = (merged : List (List ℕ)) × CanMerge known names merged

-- A merge comes to the input of this number: those before it are held, accepted and like the first.
abbrev pub IsReached : (known : FileMap) → (names : List (List ℕ)) → (number : ℕ) → Type 0
IsReached known names number =
    (before : List (List ℕ)) × AreFirstInputs known names before × (length before ≡ number)

-- The inputs before this one are these files.
pub record Reaches (known : FileMap) (names : List (List ℕ)) (number : ℕ) (files : List (List ℕ)) : Type 0 where
  pub first : AreFirstInputs known names files
  pub number_is : length files ≡ number
  pub within : number < length names

-- What keeps inputs from being merged, before an output is created: the first input that is not held, is refused when
-- it is opened, or differs from the first; or, if there is none, that they have too many records.
abbrev pub IsKeptBy : FileMap → (names : List (List ℕ)) → MergeFault → Type 0
IsKeptBy known names (At number (fault.Refused cause)) =
    (files : List (List ℕ)) × (file : List ℕ) × Reaches known names number files
    × (finmap.get known (item_at names number) ≡ Some file) × IsRefusal file (Some cause)
IsKeptBy known names (At number fault.Read) =
    (files : List (List ℕ)) × Reaches known names number files × (finmap.get known (item_at names number) ≡ None)
IsKeptBy known names (At number fault.Write) = ⊥
IsKeptBy known names (At number fault.Memory) = ⊥
IsKeptBy known names (Unequal number field) =
    (files : List (List ℕ)) × (file : List ℕ) × Reaches known names number files × (1 ≤ number)
    × (finmap.get known (item_at names number) ≡ Some file) × IsAcceptedFile file
    × (first_difference (first_head files) (head_of file) ≡ Some field)
IsKeptBy known names TooManyPoints =
    (files : List (List ℕ)) × AreFirstInputs known names files × (length files ≡ length names) × (2 ^ 32 ≤ points_of_files files)
IsKeptBy known names TooManyChunks = ⊥
IsKeptBy known names Write = ⊥
IsKeptBy known names Memory = ⊥

-- An input could not be read: it is missing, and no file has changed, or a read failed.
abbrev pub IsUnread : (name : List ℕ) → (old new : Outside) → Type 0
IsUnread name old new = (IsMissing old.held name × (new.held ≡ old.held)) ⊎ Rose old.read_faults new.read_faults

-- P of the files, if they are known
abbrev pub IfKnown : Option FileMap → (FileMap → Type 0) → Type 0
IfKnown held P = (known : FileMap) → held ≡ Some known → P known
