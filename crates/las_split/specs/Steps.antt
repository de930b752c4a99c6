-- What the steps of splitting do to parts.
use Rattle.std.specs.Prelude.{◌≡◌, ◌⊎◌, ℕ, ◌+◌, ◌<◌, ◌≤◌, List, [], ◌∷◌, ◌++◌, length, take, slice_get, Bool, false}
use Rattle.std.specs.Prelude.{map, IfOk, OnOk, Result}
use Rattle.std.specs.Prelude.{slice_index_or, Option, Some, None}
use Rattle.las_outside.specs.Files.{FileMap}
use Rattle.las_split.specs.declared.parts.Parts.{Parts}
use Rattle.las_split.specs.declared.splitter.Splitter.{Splitter}
use Rattle.las_split.specs.Parts.{number_by, numbers_of_parts}
use Rattle.las_split.specs.Sorting.{AreGathered, FitAfter, InParts, LeavesPrefixes, PushedSo, SplitTask, task_in}
use Rattle.las_split.specs.Sorting.{SortsBlock, SortsPoint, TakesBlock, is_among}
use Rattle.las_split.specs.Splitting.{OpensTooMany}
use Rattle.las_header.specs.Plain.{cut_all}
use Rattle.las_split.specs.Files.{with_files}
use Rattle.las_split.specs.Outputs.{all_finished, outputs_under}
use Rattle.laz_file.specs.Endings.{OutputFile}

-- The parts of some records are opened, and some of the records are in them.
abbrev pub AreIn : SplitTask → (was now : Option FileMap) → Parts → (opened written : List (List ℕ)) → Type 0
AreIn task was now parts opened written = InParts task was now parts.numbers parts.writers.items opened written

-- The records of a block after some records have their parts, and are gathered for them.
abbrev pub HaveTheirParts : SplitTask → (was now : Option FileMap) → Parts → (records block : List (List ℕ)) → Type 0
HaveTheirParts task was now parts records block =
    AreIn task was now parts (records ++ block) records × AreGathered task parts.numbers parts.gathered records block

-- ---- all that parts can stand for

-- P of each state in which parts stand before a record that has this number: the files before all of them, the records
-- whose parts are opened, those that are written, and the record.
abbrev pub OfRecord : Splitter → (held : Option FileMap) → Parts → (number : ℕ)
    → (P : Option FileMap → (opened written : List (List ℕ)) → (point : List ℕ) → Type 0) → Type 0
OfRecord splitter held parts number P =
    (was : Option FileMap) (opened written more : List (List ℕ)) (point : List ℕ)
    → AreIn (task_in splitter) was held parts opened written
    → number ≡ number_by splitter.rule.now (length opened) point → opened ≡ written ++ more
    → P was opened written point

-- The same after some records, if the next has this index, and after some of a block beside them.
abbrev pub OfRecords : Splitter → (held : Option FileMap) → Parts → (index : ℕ)
    → (P : Option FileMap → (records : List (List ℕ)) → Type 0) → Type 0
OfRecords splitter held parts index P =
    (was : Option FileMap) (records : List (List ℕ)) → AreIn (task_in splitter) was held parts records records
    → index ≡ length records → P was records

abbrev pub OfBlock : Splitter → (held : Option FileMap) → Parts → (index : ℕ)
    → (P : Option FileMap → (records block : List (List ℕ)) → Type 0) → Type 0
OfBlock splitter held parts index P =
    (was : Option FileMap) (records block : List (List ℕ))
    → HaveTheirParts (task_in splitter) was held parts records block → index ≡ length records + length block
    → P was records block

-- P of each task and state in which parts have all records of which they were opened.
abbrev pub OfParts : (held : Option FileMap) → Parts
    → (P : SplitTask → Option FileMap → (records : List (List ℕ)) → Type 0) → Type 0
OfParts held parts P =
    (task : SplitTask) (was : Option FileMap) (records : List (List ℕ)) → AreIn task was held parts records records
    → P task was records

-- There is such a state.
abbrev pub HaveSplit : Splitter → (held : Option FileMap) → Parts → (index : ℕ) → Type 0
HaveSplit splitter held parts index =
    (was : Option FileMap) × (records : List (List ℕ))
    × AreIn (task_in splitter) was held parts records records × (index ≡ length records)

abbrev pub HaveParts : (held : Option FileMap) → Parts → Type 0
HaveParts held parts =
    (task : SplitTask) × (was : Option FileMap) × (records : List (List ℕ)) × AreIn task was held parts records records

abbrev pub HaveBlock : Splitter → (held : Option FileMap) → Parts → (index : ℕ) → Type 0
HaveBlock splitter held parts index =
    (was : Option FileMap) × (records : List (List ℕ)) × (block : List (List ℕ))
    × HaveTheirParts (task_in splitter) was held parts records block × (index ≡ length records + length block)

-- P of each state in which the records of a block are gathered, and the first of the parts have theirs, or none has yet.
abbrev pub OfPushed : (held : Option FileMap) → Parts → (place : ℕ)
    → (P : SplitTask → Option FileMap → (records block : List (List ℕ)) → Type 0) → Type 0
OfPushed held parts place P =
    (task : SplitTask) (was : Option FileMap) (records block : List (List ℕ))
    → PushedSo task was held parts.numbers parts.writers.items place records block
    → AreGathered task parts.numbers parts.gathered records block → P task was records block

abbrev pub OfSorted : (held : Option FileMap) → Parts
    → (P : SplitTask → Option FileMap → (records block : List (List ℕ)) → Type 0) → Type 0
OfSorted held parts P =
    (task : SplitTask) (was : Option FileMap) (records block : List (List ℕ))
    → HaveTheirParts task was held parts records block → FitAfter task records block → P task was records block

-- ---- what a step does

-- The part of the next record is opened if it was not, and stands at a place. There is no place if that would be one
-- part too many, and nothing has changed.
abbrev pub OpensOrRefuses : SplitTask → (was now : Option FileMap) → (old new : Parts) → (opened written : List (List ℕ))
    → (number : ℕ) → (point : List ℕ) → (place : Option ℕ) → Type 0
OpensOrRefuses task was now old new opened written number point None =
    AreIn task was now new opened written × OpensTooMany task.rule opened point × (new.gathered ≡ old.gathered)
    × (new.numbers ≡ old.numbers)
OpensOrRefuses task was now old new opened written number point (Some place) =
    AreIn task was now new (opened ++ point ∷ []) written × (slice_get new.numbers place ≡ Some number)

-- What is left if a call fails at a record: the parts of those before it, or its own too.
abbrev pub LeavesRecord : SplitTask → (was now : Option FileMap) → (opened : List (List ℕ)) → (point : List ℕ) → Type 0
LeavesRecord task was now opened point =
    LeavesPrefixes task was now opened ⊎ LeavesPrefixes task was now (opened ++ point ∷ [])

-- The first of more records after a block were sorted: all of them, or those before one that opens one part too many.
pub record SortsMore (task : SplitTask) (was now : Option FileMap) (parts : Parts) (records block more : List (List ℕ))
    (taken : ℕ) : Type 0 where
  pub within : taken ≤ length more
  pub sorted : HaveTheirParts task was now parts records (block ++ take taken more)
  pub ends : taken < length more
      → OpensTooMany task.rule (records ++ (block ++ take taken more)) (slice_index_or more taken [])

-- What is left if a call fails while more records after a block are sorted.
abbrev pub LeavesMore : SplitTask → (was now : Option FileMap) → (records block more : List (List ℕ)) → Type 0
LeavesMore task was now records block more =
    (first : List (List ℕ)) × (rest : List (List ℕ)) × (more ≡ first ++ rest)
    × LeavesPrefixes task was now (records ++ (block ++ first))

-- ---- what the calls promise of each state in which parts stand: the parts as they were and are, and what is held

-- The part of a number is opened if it was not.
abbrev pub OpensPlace : {E : Type 0} → Result (Option ℕ) E → Splitter → (held now : Option FileMap) → (old new : Parts)
    → (number : ℕ) → Type 0
OpensPlace result splitter held now old new number =
    OfRecord splitter held old number (λ was opened written point.
    IfOk result (OpensOrRefuses (task_in splitter) was now old new opened written number point))

-- What is gathered for the parts, a text of each, still is, and nothing for a part that is opened.
abbrev pub KeepsGathered : {X E : Type 0} → Result X E → (old new : Parts) → (number : ℕ) → Type 0
KeepsGathered result old new number =
    (text : ℕ → List ℕ) → old.gathered ≡ map text old.numbers
    → (is_among number old.numbers ≡ false → text number ≡ [])
    → IfOk result (λ found. new.gathered ≡ map text new.numbers)

-- A record is sorted after others of its block.
abbrev pub SortsNext : {E : Type 0} → Result Bool E → Splitter → (held now : Option FileMap) → (old new : Parts)
    → (index : ℕ) → (point : List ℕ) → Type 0
SortsNext result splitter held now old new index point =
    OfBlock splitter held old index (λ was records block.
    IfOk result (SortsPoint (task_in splitter) was now new.numbers new.writers.items new.gathered records block point))

-- The records of a group are sorted after others of their block.
abbrev pub SortsGroup : {E : Type 0} → Result ℕ E → Splitter → (held now : Option FileMap) → (old new : Parts)
    → (index : ℕ) → (group : List ℕ) → Type 0
SortsGroup result splitter held now old new index group =
    OfBlock splitter held old index (λ was records block.
    IfOk result (SortsMore (task_in splitter) was now new records block (cut_all splitter.size group)))

-- Those of a block are sorted after all records before it.
abbrev pub SortsRecords : {E : Type 0} → Result ℕ E → Splitter → (held now : Option FileMap) → (old new : Parts)
    → (index : ℕ) → (block : List ℕ) → Type 0
SortsRecords result splitter held now old new index block =
    OfRecords splitter held old index (λ was records.
    IfOk result (SortsBlock (task_in splitter) was now new.numbers new.writers.items new.gathered records
    (cut_all splitter.size block)))

-- They are also pushed into their parts.
abbrev pub TakesRecords : {E : Type 0} → Result Bool E → Splitter → (held now : Option FileMap) → (old new : Parts)
    → (index : ℕ) → (block : List ℕ) → Type 0
TakesRecords result splitter held now old new index block =
    OfRecords splitter held old index (λ was records.
    IfOk result (TakesBlock (task_in splitter) was now new.numbers new.writers.items records
    (cut_all splitter.size block)))

-- There is a state in which the records of a block are gathered, and the first of the parts have theirs; or none has.
abbrev pub HavePushed : (held : Option FileMap) → Parts → (place : ℕ) → Type 0
HavePushed held parts place =
    (task : SplitTask) × (was : Option FileMap) × (records : List (List ℕ)) × (block : List (List ℕ))
    × PushedSo task was held parts.numbers parts.writers.items place records block
    × AreGathered task parts.numbers parts.gathered records block × FitAfter task records block

abbrev pub HaveSorted : (held : Option FileMap) → Parts → Type 0
HaveSorted held parts =
    (task : SplitTask) × (was : Option FileMap) × (records : List (List ℕ)) × (block : List (List ℕ))
    × HaveTheirParts task was held parts records block × FitAfter task records block

-- The part at a place has its records, too.
abbrev pub PushesPlace : {E : Type 0} → Result (Unit {0}) E → (held now : Option FileMap) → (old new : Parts)
    → (place : ℕ) → Type 0
PushesPlace result held now old new place =
    OfPushed held old place (λ task was records block.
    OnOk result (PushedSo task was now new.numbers new.writers.items (place + 1) records block))

-- the outputs of all parts of some records
abbrev pub outputs_in : SplitTask → (records : List (List ℕ)) → List OutputFile
outputs_in task records = outputs_under task.stem task.end task.head task.rule records

-- They are all finished, and have these numbers.
abbrev pub FinishesParts : SplitTask → (records : List (List ℕ)) → (was now : Option FileMap) → (numbers : List ℕ)
    → Type 0
FinishesParts task records was now numbers =
    (numbers ≡ numbers_of_parts task.rule records) × (now ≡ with_files was (all_finished (outputs_in task records)))
