-- Laws of endings.
use Rattle.std.specs.Prelude.{◌≡◌, ℕ, ◌^◌, ◌<◌, ◌≤◌, All, true, false, List, [], length, map, Option, Some, None}
use Rattle.std.specs.FinMap as finmap
use Rattle.std.specs.List.{concat}
use Rattle.las_filter.specs.declared.rule.Rule.{Rule}
use Rattle.las_filter.specs.declared.rule.Rule.TheVariants.{Every}
use Rattle.las_header.specs.declared.limits.TheConstants.{MAX_PLAIN_OFFSET}
use Rattle.las_header.specs.Fields.{head_of, is_packed, record_length_of}
use Rattle.las_header.specs.Heads.{IsHead}
use Rattle.las_header.specs.Plain.{plain_head}
use Rattle.las_header.specs.Vlrs.{laszip_vlrs_of}
use Rattle.las_outside.specs.Files.{FileMap}
use Rattle.las_words.specs.Asked.{Asked, Work, lasmerge, make, reads}
use Rattle.las_words.specs.Says.{Said, asks, usage}
use Rattle.las_merge.specs.Copying.{output_with}
use Rattle.las_merge.specs.Existing.{HoldBytes}
use Rattle.las_split.specs.Outputs.{part_files}
use Rattle.las_split.specs.Splitting.{SplitsTo}
use Rattle.laz_range.specs.Span.{IsBytes}
use Rattle.laz_forms.specs.Laws.{CanBePacked}
use Rattle.laz_forms.specs.Outputs.{finished}
use Rattle.laz_forms.specs.Packing.{packed_file}
use Rattle.laz_forms.specs.Refusing.{IsAcceptedFile}
use Rattle.las_run.specs.Endings.{Done, Ending, files_of}
use Rattle.las_run.specs.Runs.{RunOf, Task}
use Rattle.las_run.specs.Tools.{MergesIn, Splits}

-- At most one ending is defined for a task, whatever the bytes of the files are.
abbrev pub EndsInOneWay : Type 0
EndsInOneWay = (task : Task) (files : FileMap) (one other : Ending) → HoldBytes files
    → RunOf task files one → RunOf task files other → one ≡ other

-- One is defined, for every task, whatever the files hold.
abbrev pub SomeEndingIsDefined : Type 0
SomeEndingIsDefined = (task : Task) (files : FileMap) → (ending : Ending) × RunOf task files ending

-- the name of the input of a command that has one
abbrev pub input_of : Work → Option (List ℕ)
input_of (reads input own) = Some input
input_of (lasmerge options) = None
input_of (make options) = None

-- An ending is defined for wrong words, and for those of a command whose one input is not held.
abbrev pub WrongWordsEnd : Type 0
WrongWordsEnd = (task : Task) (files : FileMap) (index : ℕ) → task.said ≡ usage index
    → (ending : Ending) × RunOf task files ending

abbrev pub MissingInputsEnd : Type 0
MissingInputsEnd = (task : Task) (files : FileMap) (asked : Asked) (name : List ℕ) → task.said ≡ asks asked
    → input_of asked.work ≡ Some name → finmap.get files name ≡ None → (ending : Ending) × RunOf task files ending

-- One is defined for one input whose head says that it is plain, and for the packed form of an accepted plain file.
abbrev pub PlainInputsEnd : Type 0
PlainInputsEnd = (task : Task) (files : FileMap) (asked : Asked) (name file : List ℕ) → task.said ≡ asks asked
    → input_of asked.work ≡ Some name → finmap.get files name ≡ Some file → is_packed (head_of file) ≡ false
    → (ending : Ending) × RunOf task files ending

abbrev pub PackedFormsEnd : Type 0
PackedFormsEnd = (task : Task) (files : FileMap) (asked : Asked) (name file : List ℕ) (chunk : ℕ)
    → task.said ≡ asks asked → input_of asked.work ≡ Some name → finmap.get files name ≡ Some (packed_file file chunk)
    → CanBePacked file chunk → (ending : Ending) × RunOf task files ending

-- the ending of `lassplit` of a file with these records, if all of them are in parts
abbrev pub split_ending : (stem end : List ℕ) → Rule → (file : List ℕ) → (records : List (List ℕ)) → Ending
split_ending stem end rule file records =
    record { cause = Done; outputs = part_files stem end rule file records; text = [] }

-- Whole records under a plain head: each has its length, and they are fewer than 2^32.
pub record AreWhole (head : List ℕ) (records : List (List ℕ)) : Type 0 where
  pub head_is : IsHead head
  pub plain : is_packed head ≡ false
  pub none : laszip_vlrs_of head ≡ []
  pub near : length head ≤ MAX_PLAIN_OFFSET
  pub head_bytes : IsBytes head
  pub each : All (λ r. length r ≡ record_length_of head) records
  pub bytes : All IsBytes records
  pub few : length records < 2 ^ 32

-- the names of the outputs of an ending, in order
abbrev pub names_made : Ending → List (List ℕ)
names_made ending = map (λ o. o.name) ending.outputs

-- all records of some under a plain head, as the one output of a merge
abbrev pub whole_output : (name head : List ℕ) → (size : Option ℕ) → (records : List (List ℕ)) → List ℕ
whole_output name head size records = finished (output_with name head size) (concat records)

-- After this ending of a split a merge of the parts is done, and makes the whole of them.
abbrev pub MergesWhole : FileMap → (output file : List ℕ) → (size : Option ℕ) → (records : List (List ℕ)) → Ending
    → Type 0
MergesWhole known output file size records split =
    (merge : Ending) × MergesIn size (names_made split) output (files_of split known) merge × (merge.cause ≡ Done)
    × (files_of merge (files_of split known)
    ≡ finmap.insert (files_of split known) output (whole_output output (plain_head file) size records))

-- `lassplit` of a file into parts of n records ends with these parts. Where they stand, `lasmerge` of their names, in
-- their order, is done: its output has all records of the file, under its plain head with their counts, plain or
-- packed.
abbrev pub PartsOfSplitMerge : Type 0
PartsOfSplitMerge = (known : FileMap) (input stem end output file : List ℕ) (n : ℕ) (size : Option ℕ)
    (records : List (List ℕ)) → 0 < n → 1 ≤ length records → AreWhole (plain_head file) records
    → SplitsTo (Every n) file records None
    → Splits input stem end (Every n) file (split_ending stem end (Every n) file records)
    × MergesWhole known output file size records (split_ending stem end (Every n) file records)

-- All records of an accepted plain file that go into parts are whole records under its head.
abbrev pub PlainRecordsAreWhole : Type 0
PlainRecordsAreWhole = (file : List ℕ) (rule : Rule) (records : List (List ℕ)) → IsAcceptedFile file
    → is_packed (head_of file) ≡ false → IsBytes file → SplitsTo rule file records None
    → AreWhole (plain_head file) records

-- So are those of an accepted packed file, if its plain head has an offset within its limit.
abbrev pub PackedRecordsAreWhole : Type 0
PackedRecordsAreWhole = (file : List ℕ) (rule : Rule) (records : List (List ℕ)) → IsAcceptedFile file
    → is_packed (head_of file) ≡ true → IsBytes file → length (plain_head file) ≤ MAX_PLAIN_OFFSET
    → SplitsTo rule file records None → AreWhole (plain_head file) records

-- what words say, but for the number of workers
abbrev pub with_one_worker : Said → Said
with_one_worker (asks asked) = asks (record asked { workers = 1 })
with_one_worker (usage index) = usage index

-- Tasks that differ in the number of workers alone have one ending.
abbrev pub WorkersDoNotMatter : Type 0
WorkersDoNotMatter = (task other : Task) (files : FileMap) (ending : Ending)
    → with_one_worker task.said ≡ with_one_worker other.said → task.taps ≡ other.taps
    → RunOf task files ending → RunOf other files ending
