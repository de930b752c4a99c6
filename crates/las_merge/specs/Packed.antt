-- Packed inputs whose chunks are copied, and what keeps them from being copied.
use Rattle.std.specs.Prelude.{◌≡◌, ◌⊎◌, ℕ, ◌^◌, ◌<◌, ◌≤◌, true, false, List, length, take, Option, Some, None, All}
use Rattle.std.specs.Prelude.{◌+◌, [], ◌∷◌}
use Rattle.std.specs.List.{concat}
use Rattle.std.specs.FinMap as finmap
use Rattle.las_header.specs.declared.refusal.Refusal.{Refusal}
use Rattle.las_header.specs.declared.refusal.Refusal.TheVariants.{NotPacked}
use Rattle.las_header.specs.Fields.{head_of, is_packed}
use Rattle.las_outside.specs.Files.{FileMap, with_file}
use Rattle.laz_table.specs.declared.limits.TheConstants.{MAX_CHUNKS}
use Rattle.laz_forms.specs.declared.fault.Fault.TheVariants as fault
use Rattle.laz_reader.specs.Asking.{asked_for_chunks}
use Rattle.laz_forms.specs.Refusing.{IsAcceptedFile, IsRefusal}
use Rattle.laz_copied.specs.Copied.{Chunk, HaveChunks, byte_lists_in, copied_file, first_head, all_of, points_of_files}
use Rattle.las_merge.specs.declared.fault.MergeFault.{MergeFault}
use Rattle.las_merge.specs.declared.fault.MergeFault.TheVariants.{At, Unequal, TooManyPoints, TooManyChunks, Write}
use Rattle.las_merge.specs.declared.fault.MergeFault.TheVariants.{Memory}
use Rattle.las_merge.specs.Fields.{first_difference}
use Rattle.las_merge.specs.Inputs.{AreFirstInputs, item_at}

-- a packed file
abbrev pub IsPacked : (file : List ℕ) → Type 0
IsPacked file = is_packed (head_of file) ≡ true

-- The first inputs are these files, as for merging, and all of them are packed.
pub record AreFirstPacked (known : FileMap) (names files : List (List ℕ)) : Type 0 where
  pub first : AreFirstInputs known names files
  pub packed : All IsPacked files

-- The inputs before this one are these files, all packed.
pub record ReachesPacked (known : FileMap) (names : List (List ℕ)) (number : ℕ) (files : List (List ℕ)) : Type 0 where
  pub first : AreFirstPacked known names files
  pub number_is : length files ≡ number
  pub within : number < length names

-- The inputs are these files with these chunks, and the chunks can be copied into one file: they have fewer than 2^32
-- records and at most 2^24 chunks in all.
pub record CanCopyFrom (known : FileMap) (names files : List (List ℕ)) (parts : List (List Chunk)) : Type 0 where
  pub first : AreFirstPacked known names files
  pub all : length files ≡ length names
  pub few : points_of_files files < 2 ^ 32
  pub have : HaveChunks files parts
  pub chunks : length (all_of parts) ≤ MAX_CHUNKS

abbrev pub CanCopyInputs : (known : FileMap) → (names : List (List ℕ)) → Type 0
CanCopyInputs known names = (files : List (List ℕ)) × (parts : List (List Chunk)) × CanCopyFrom known names files parts

-- Copying comes to the input of this number: those before it are held, accepted, packed and like the first.
abbrev pub IsReachedPacked : (known : FileMap) → (names : List (List ℕ)) → (number : ℕ) → Type 0
IsReachedPacked known names number =
    (before : List (List ℕ)) × AreFirstPacked known names before × (length before ≡ number)

-- The output has all chunks of these files.
abbrev pub IsCopied : (name : List ℕ) → (files : List (List ℕ)) → (parts : List (List Chunk))
    → (was now : Option FileMap) → Type 0
IsCopied name files parts was now = now ≡ with_file was name (copied_file files (all_of parts))

-- The files are as before, or the chunks of the inputs can be copied and the output is a prefix of what they give.
abbrev pub IsLeftOfCopy : (known : FileMap) → (names : List (List ℕ)) → (name : List ℕ) → (was now : Option FileMap)
    → Type 0
IsLeftOfCopy known names name was now =
    (now ≡ was)
    ⊎ ((files : List (List ℕ)) × (parts : List (List Chunk)) × CanCopyFrom known names files parts
    × ((n : ℕ) × (now ≡ with_file was name (take n (copied_file files (all_of parts))))))

-- at most, how many bytes packed files are asked for whose chunks are copied: each for its head, two pointers and its
-- table, and for its chunks
abbrev pub asked_to_copy : (files : List (List ℕ)) → (parts : List (List Chunk)) → ℕ
asked_to_copy [] parts = 0
asked_to_copy (file ∷ files) [] = 0
asked_to_copy (file ∷ files) (part ∷ parts) =
    length (head_of file) + asked_for_chunks (length part) + length (concat (byte_lists_in part)) + asked_to_copy files parts

-- An input is refused for this cause: as a plain one, or when it is opened.
abbrev pub IsRefusedToCopy : (file : List ℕ) → Refusal → Type 0
IsRefusedToCopy file cause =
    ((cause ≡ NotPacked) × IsAcceptedFile file × (is_packed (head_of file) ≡ false)) ⊎ IsRefusal file (Some cause)

-- What keeps inputs from being copied, before an output is created: the first input that is not held, is refused when
-- it is opened, is plain, or differs from the first; or, if there is none, that they have too many records; or, if they
-- have not, too many chunks.
abbrev pub IsKeptFromCopying : FileMap → (names : List (List ℕ)) → MergeFault → Type 0
IsKeptFromCopying known names (At number (fault.Refused cause)) =
    (files : List (List ℕ)) × (file : List ℕ) × ReachesPacked known names number files
    × (finmap.get known (item_at names number) ≡ Some file) × IsRefusedToCopy file cause
IsKeptFromCopying known names (At number fault.Read) =
    (files : List (List ℕ)) × ReachesPacked known names number files
    × (finmap.get known (item_at names number) ≡ None)
IsKeptFromCopying known names (At number fault.Write) = ⊥
IsKeptFromCopying known names (At number fault.Memory) = ⊥
IsKeptFromCopying known names (Unequal number field) =
    (files : List (List ℕ)) × (file : List ℕ) × ReachesPacked known names number files × (1 ≤ number)
    × (finmap.get known (item_at names number) ≡ Some file) × IsAcceptedFile file × IsPacked file
    × (first_difference (first_head files) (head_of file) ≡ Some field)
IsKeptFromCopying known names TooManyPoints =
    (files : List (List ℕ)) × AreFirstPacked known names files × (length files ≡ length names)
    × (2 ^ 32 ≤ points_of_files files)
IsKeptFromCopying known names TooManyChunks =
    (files : List (List ℕ)) × (parts : List (List Chunk)) × AreFirstPacked known names files
    × (length files ≡ length names) × (points_of_files files < 2 ^ 32) × HaveChunks files parts
    × (MAX_CHUNKS < length (all_of parts))
IsKeptFromCopying known names Write = ⊥
IsKeptFromCopying known names Memory = ⊥

-- The answer is of the inputs as they are, and no fault of the outside.
abbrev pub IsNoFault : MergeFault → Type 0
IsNoFault (At number (fault.Refused cause)) = Unit {0}
IsNoFault (At number fault.Read) = ⊥
IsNoFault (At number fault.Write) = ⊥
IsNoFault (At number fault.Memory) = ⊥
IsNoFault (Unequal number field) = Unit {0}
IsNoFault TooManyPoints = Unit {0}
IsNoFault TooManyChunks = Unit {0}
IsNoFault Write = ⊥
IsNoFault Memory = ⊥
