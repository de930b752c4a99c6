-- A command with its options, and what holds of one that words ask for. Names are bytes, and a plan is its two lists.
use Rattle.std.specs.Prelude.{◌≡◌, ◌≢◌, ℕ, ◌^◌, ◌<◌, ◌≤◌, Bool, true, false, List, All, length, string_bytes}
use Rattle.std.specs.List.{AllPairs, list_any}
use Rattle.std.specs.Str.{bytes_eq}
use Rattle.las_filter.specs.Changes.{HasClass}
use Rattle.las_filter.specs.Kept.{Steps, steps_of}
use Rattle.las_filter.specs.Parts.{IsRule, part_name}
use Rattle.las_filter.specs.declared.rule.Rule.{Rule}
use Rattle.las_header.specs.Limits.{IsChunkSize}
use Rattle.las_outside.specs.Limits.{AreWorkers}
use Rattle.las_thin.specs.Sieving.{HasItsStep, IsStep, Settings}
use Rattle.las_words.specs.declared.command.Command.{Command}
use Rattle.las_words.specs.declared.command.Command.TheVariants as command
use Rattle.las_words.specs.Texts.{texts}

-- ---- the options of each command, but for its input if it has one, and for the number of workers
pub record LaszipOptions : Type 0 where
  pub output : List ℕ
  pub chunk : ℕ

pub record Las2lasOptions : Type 0 where
  pub output : List ℕ
  pub plan : Steps
  pub packed : Bool
  pub chunk : ℕ
  pub start : ℕ
  pub stop : ℕ
  pub sieve : Settings
  pub tallies : List (List ℕ)

pub record LasinfoOptions : Type 0 where
  pub tallies : List (List ℕ)

pub record LassplitOptions : Type 0 where
  pub stem : List ℕ
  pub end : List ℕ
  pub rule : Rule

pub record LasmergeOptions : Type 0 where
  pub inputs : List (List ℕ)
  pub output : List ℕ
  pub packed : Bool
  pub chunk : ℕ
  pub copy : Bool

pub record MakeOptions : Type 0 where
  pub output : List ℕ
  pub packed : List ℕ
  pub points : ℕ
  pub seed : ℕ
  pub format : ℕ
  pub extra : ℕ
  pub chunk : ℕ

-- what is done with one input
pub data OneInput : Type 0 where
  laszip : LaszipOptions → OneInput
  las2las : Las2lasOptions → OneInput
  lasinfo : LasinfoOptions → OneInput
  lassplit : LassplitOptions → OneInput

-- what a command does: something with one input, with several, or with none
pub data Work : Type 0 where
  reads : (input : List ℕ) → OneInput → Work
  lasmerge : LasmergeOptions → Work
  make : MakeOptions → Work

-- a command
pub record Asked : Type 0 where
  pub work : Work
  pub workers : ℕ

-- ---- the command that the code reads
abbrev pub work_by : Command → Work
work_by (command.Laszip input output chunk workers) =
    reads (string_bytes input) (laszip (record { output = string_bytes output; chunk = chunk }))
work_by (command.Las2las input output plan packing workers start stop step pick unique tallies) =
    reads (string_bytes input) (las2las (record {
      output = string_bytes output;
      plan = steps_of plan;
      packed = packing.packed;
      chunk = packing.chunk;
      start = start;
      stop = stop;
      sieve = record { step = step; pick = pick; unique = unique };
      tallies = texts tallies.items;
    }))
work_by (command.Lasinfo input tallies workers) =
    reads (string_bytes input) (lasinfo (record { tallies = texts tallies.items }))
work_by (command.Lassplit input stem end rule workers) =
    reads (string_bytes input)
    (lassplit (record { stem = string_bytes stem; end = string_bytes end; rule = rule }))
work_by (command.Lasmerge inputs output packing workers copy) =
    lasmerge (record {
      inputs = texts inputs.items;
      output = string_bytes output;
      packed = packing.packed;
      chunk = packing.chunk;
      copy = copy;
    })
work_by (command.Make output packed points seed format extra chunk workers) =
    make (record {
      output = string_bytes output;
      packed = string_bytes packed;
      points = points;
      seed = seed;
      format = format;
      extra = extra;
      chunk = chunk;
    })

abbrev pub workers_by : Command → ℕ
workers_by (command.Laszip input output chunk workers) = workers
workers_by (command.Las2las input output plan packing workers start stop step pick unique tallies) = workers
workers_by (command.Lasinfo input tallies workers) = workers
workers_by (command.Lassplit input stem end rule workers) = workers
workers_by (command.Lasmerge inputs output packing workers copy) = workers
workers_by (command.Make output packed points seed format extra chunk workers) = workers

abbrev pub asked_by : Command → Asked
asked_by command = record { work = work_by command; workers = workers_by command }

-- ---- what holds of a command that words ask for
-- these are names of taps, and no name stands twice
pub record AreChosen (names tallies : List (List ℕ)) : Type 0 where
  pub there : All (λ tally. list_any (bytes_eq tally) names ≡ true) tallies
  pub distinct : AllPairs (λ tally other. bytes_eq tally other ≡ false) tallies

-- a sieve's cells are of a side in its range, and there are some unless the first record of a cell stays
pub record IsSieve (sieve : Settings) : Type 0 where
  pub side : IsStep sieve.step
  pub cells : HasItsStep sieve.step sieve.pick

-- the inputs of a merge: 1 to 32, none of which is the output
pub record AreInputs (inputs : List (List ℕ)) (output : List ℕ) : Type 0 where
  pub some : 1 ≤ length inputs
  pub few : length inputs ≤ 32
  pub others : All (λ name. name ≢ output) inputs

-- what files are made of: their numbers are in their ranges
pub record IsMade (options : MakeOptions) : Type 0 where
  pub few : options.points ≤ 10000000
  pub short : options.seed < 2 ^ 32
  pub known : options.format ≤ 3
  pub small : options.extra ≤ 192

-- names that must differ do, and numbers are in their ranges
abbrev pub IsSoundFor : (names : List (List ℕ)) → (input : List ℕ) → OneInput → Type 0
IsSoundFor names input (laszip options) = (bytes_eq options.output input ≡ false) × IsChunkSize options.chunk
IsSoundFor names input (las2las options) =
    (bytes_eq options.output input ≡ false) × IsChunkSize options.chunk × All HasClass options.plan.changes
    × (options.start ≤ options.stop) × IsSieve options.sieve × AreChosen names options.tallies
IsSoundFor names input (lasinfo options) = AreChosen names options.tallies
IsSoundFor names input (lassplit options) =
    IsRule options.rule
    × ((number : ℕ) → number < 2 ^ 32 → part_name options.stem options.end number ≢ input)

abbrev pub IsSoundWork : (names : List (List ℕ)) → Work → Type 0
IsSoundWork names (reads input own) = IsSoundFor names input own
IsSoundWork names (lasmerge options) = AreInputs options.inputs options.output × IsChunkSize options.chunk
IsSoundWork names (make options) = (options.output ≢ options.packed) × IsMade options × IsChunkSize options.chunk

-- the same, and the number of workers is in its range
abbrev pub IsSoundAsked : (names : List (List ℕ)) → Asked → Type 0
IsSoundAsked names asked = IsSoundWork names asked.work × AreWorkers asked.workers
