-- What each command makes of an input that is accepted: how the run ends then.
use Rattle.std.specs.Prelude.{◌≡◌, ◌⊎◌, ℕ, Bool, true, false, if◌then◌else◌, List, [], ◌∷◌, find, length}
use Rattle.std.specs.Prelude.{Option, Some, None, codes, min}
use Rattle.std.specs.Fmt.{decimal}
use Rattle.std.specs.List.{concat, filter_map, flat_map}
use Rattle.std.specs.Str.{bytes_eq}
use Rattle.las_filter.specs.Kept.{Steps}
use Rattle.las_convert.specs.Converting.{ConvertsTo, converted_output, writes_kept}
use Rattle.las_thin.specs.declared.pick.Pick.{Pick}
use Rattle.las_thin.specs.Sieving as sieve
use Rattle.las_header.specs.declared.refusal.Refusal.{Refusal}
use Rattle.las_header.specs.declared.refusal.Refusal.TheVariants.{BadChunk}
use Rattle.las_header.specs.Fields.{head_of, is_packed, points_of}
use Rattle.laz_file.specs.Copying.{Packs, Unpacks, packed_output}
use Rattle.laz_file.specs.Endings.{Product, output_file}
use Rattle.laz_forms.specs.Outputs as points
use Rattle.laz_forms.specs.Packing.{packed_file}
use Rattle.laz_forms.specs.Ranges.{Range}
use Rattle.laz_forms.specs.Records.{AreRecordsOf}
use Rattle.las_info.specs.Report.{report_text, tally_text}
use Rattle.las_info.specs.Summaries.{summary_of}
use Rattle.las_info.specs.Tallies.{TapSeen, shown_all}
use Rattle.laz_forms.specs.Pieces.{ArePieces, Piece}
use Rattle.laz_table.specs.VlrCauses.{chunk_size_of}
use Rattle.las_filter.specs.declared.rule.Rule.{Rule}
use Rattle.las_merge.specs.declared.fault.MergeFault.{MergeFault}
use Rattle.las_merge.specs.declared.fault.MergeFault.TheVariants.{At, Unequal, TooManyPoints, TooManyChunks, Write}
use Rattle.las_merge.specs.declared.fault.MergeFault.TheVariants as merge
use Rattle.las_merge.specs.Inputs.{CanMerge, IsKeptBy, item_at}
use Rattle.las_merge.specs.Merging.{BadPlace, MergesTo, merged_output}
use Rattle.las_merge.specs.Packed.{CanCopyFrom, IsKeptFromCopying}
use Rattle.laz_copied.specs.Copied.{Chunk, all_of, copied_file}
use Rattle.las_make.specs.declared.settings.Settings.{Settings}
use Rattle.las_make.specs.Made.{made_file, made_records}
use Rattle.las_make.specs.Making.{made_output}
use Rattle.las_outside.specs.Files.{FileMap}
use Rattle.las_split.specs.Outputs as parts
use Rattle.las_survey.specs.Surveying.{surveyed}
use Rattle.laz_forms.specs.declared.fault.Fault.TheVariants as file
use Rattle.las_words.specs.declared.command.Packing.{Packing}
use Rattle.las_words.specs.Asked.{Las2lasOptions, LasmergeOptions, MakeOptions}
use Rattle.las_run.specs.declared.conversion.Conversion.{Conversion}
use Rattle.las_run.specs.declared.stop.Surplus.TheVariants.{Chunks, Points}
use Rattle.las_run.specs.Endings.{Cause, Done, Memory, Unread, Unwritten, Refused, Differs, HasTooMany}
use Rattle.las_run.specs.Endings.{Ending, ends_at_once}
use Rattle.las_run.specs.Lines.{line_feed}

-- all is done, or the input is refused
abbrev pub cause_by : (input : List ℕ) → Option Refusal → Cause
cause_by input None = Done
cause_by input (Some refusal) = Refused input refusal

-- the ending of a run that makes this of its input, and puts this text
abbrev pub ending_with : (input : List ℕ) → Product → (text : List ℕ) → Ending
ending_with input product text =
    record { cause = cause_by input product.refusal; outputs = product.files; text = text }

-- the same without a text
abbrev pub ending_of : (input : List ℕ) → Product → Ending
ending_of input product = ending_with input product []

-- A run makes one of these products of its input.
abbrev pub EndsBy : (Makes : (file : List ℕ) → Product → Type 0) → (input : List ℕ) → (file : List ℕ) → Ending → Type 0
EndsBy Makes input file ending =
    (product : Product) × Makes file product × (ending ≡ ending_of input product)

-- `laszip` packs a plain input, and unpacks a packed one up to its first bad chunk. It goes by the contents of its
-- input, and not by the names.
abbrev pub ZipsIf : (packed : Bool) → (output : List ℕ) → (chunk : ℕ) → (file : List ℕ) → Product → Type 0
ZipsIf true output chunk file product = Unpacks output file product
ZipsIf false output chunk file product = Packs output chunk file product

abbrev pub ZipsTo : (output : List ℕ) → (chunk : ℕ) → (file : List ℕ) → Product → Type 0
ZipsTo output chunk file product = ZipsIf (is_packed (head_of file)) output chunk file product

abbrev pub Zips : (input output : List ℕ) → (chunk : ℕ) → (file : List ℕ) → Ending → Type 0
Zips input output chunk file ending = EndsBy (ZipsTo output chunk) input file ending

-- the chunk size of an output, if it is packed
abbrev pub chunk_if : (packed : Bool) → (chunk : ℕ) → Option ℕ
chunk_if packed chunk = if packed then Some chunk else None

-- places from `start` on and before `stop`, cut to those of the records under a head, and of a file's records
abbrev pub range_under : (start stop : ℕ) → (head : List ℕ) → Range
range_under start stop head = record { start = min start (points_of head); stop = min stop (points_of head) }

abbrev pub range_in : (start stop : ℕ) → (file : List ℕ) → Range
range_in start stop file = range_under start stop (head_of file)

-- the first tap of each of these names
abbrev pub chosen_taps : List TapSeen → (tallies : List (List ℕ)) → List TapSeen
chosen_taps taps tallies = filter_map (λ name. find (λ tap. bytes_eq tap.name name) taps) tallies

-- what the taps print that were shown some records
abbrev pub tallies_text : List TapSeen → (records : List (List ℕ)) → List ℕ
tallies_text taps records = flat_map (λ tap. tally_text tap.name (shown_all tap records).tally) taps

-- what the chosen taps print of the records that are kept, if all is done
abbrev pub kept_text : List TapSeen → (file records : List ℕ) → Option Refusal → List ℕ
kept_text taps file records None = tallies_text taps (points.records_after (head_of file) records)
kept_text taps file records (Some cause) = []

-- the ending of `las2las` with these kept records, up to this refusal
abbrev pub converted : (size : Option ℕ) → (chosen : List TapSeen) → (input output : List ℕ) → Pick
    → (file records : List ℕ) → Option Refusal → Ending
converted size chosen input output pick file records refusal =
    ending_with input (writes_kept pick (converted_output output file size) records refusal)
    (kept_text chosen file records refusal)

-- `las2las` writes what stays of the records of a range when they are filtered and thinned, changed, up to the first
-- refusal: in chunks of this size, if there is one. It puts what the chosen taps count of the records that it writes.
abbrev pub ConvertsIn : (size : Option ℕ) → (range : List ℕ → Range) → (chosen : List TapSeen)
    → (input output : List ℕ) → Steps → sieve.Settings → (file : List ℕ) → Ending → Type 0
ConvertsIn size range chosen input output plan settings file ending =
    (records : List ℕ) × (refusal : Option Refusal) × ConvertsTo plan settings file (range file) records refusal
    × (ending ≡ converted size chosen input output settings.pick file records refusal)

-- how a conversion thins records
abbrev pub sieve_in : Conversion → sieve.Settings
sieve_in conversion = record { step = conversion.step; pick = conversion.pick; unique = conversion.unique }

-- the range of a conversion, by the head of its input, and by its input
abbrev pub range_for : Conversion → (head : List ℕ) → Range
range_for conversion head = range_under conversion.start conversion.stop head

-- the chunk size of a conversion's output, if it is packed
abbrev pub chunk_for : Conversion → Option ℕ
chunk_for conversion = chunk_if conversion.packing.packed conversion.packing.chunk

-- What a conversion writes, with these taps chosen.
abbrev pub ConvertsTaken : Conversion → (chosen : List TapSeen) → (input output : List ℕ) → Steps → (file : List ℕ)
    → Ending → Type 0
ConvertsTaken conversion chosen input output plan file ending =
    ConvertsIn (chunk_for conversion) (range_in conversion.start conversion.stop) chosen input output plan
    (sieve_in conversion) file ending

abbrev pub Converts : List TapSeen → (input : List ℕ) → Las2lasOptions → (file : List ℕ) → Ending → Type 0
Converts taps input options file ending =
    ConvertsIn (chunk_if options.packed options.chunk) (range_in options.start options.stop)
    (chosen_taps taps options.tallies) input options.output options.plan options.sieve file ending

-- the options of `las2las` with this conversion
abbrev pub las2las_options : (output : List ℕ) → Steps → Conversion → (tallies : List (List ℕ)) → Las2lasOptions
las2las_options output plan conversion tallies = record {
  output = output;
  plan = plan;
  packed = conversion.packing.packed;
  chunk = conversion.packing.chunk;
  start = conversion.start;
  stop = conversion.stop;
  sieve = sieve_in conversion;
  tallies = tallies;
}

-- the chunk size and the number of chunks of a packed file
abbrev pub chunks_line : (file : List ℕ) → List Piece → Option (ℕ × ℕ)
chunks_line file pieces =
    if is_packed (head_of file) then Some (chunk_size_of (head_of file), length pieces) else None

-- the report of a file with these records
abbrev pub report_of : List TapSeen → (file : List ℕ) → List Piece → (records : List (List ℕ)) → List ℕ
report_of taps file pieces records =
    report_text (head_of file) (chunks_line file pieces) (summary_of records) (tallies_text taps records)

-- what is put of a report: nothing if a chunk is bad
abbrev pub report_if : (report : List ℕ) → (bad : Option ℕ) → List ℕ
report_if report None = report
report_if report (Some i) = []

-- the ending of a report
abbrev pub reports : (input : List ℕ) → (report : List ℕ) → (bad : Option ℕ) → Ending
reports input report bad = ending_with input (surveyed bad) (report_if report bad)

-- `lasinfo` reports what is in its input, and what the chosen taps count of its records.
abbrev pub Reports : List TapSeen → (input : List ℕ) → (tallies : List (List ℕ)) → (file : List ℕ) → Ending → Type 0
Reports taps input tallies file ending =
    (blocks : List (List ℕ)) × (bad : Option ℕ) × (pieces : List Piece) × AreRecordsOf file blocks bad
    × ArePieces file pieces
    × (ending ≡ reports input
    (report_of (chosen_taps taps tallies) file pieces (points.records_after (head_of file) (concat blocks))) bad)

-- `lassplit` writes each part that has a record, in the order of the parts' first records, up to the first refusal.
abbrev pub Splits : (input stem end : List ℕ) → Rule → (file : List ℕ) → Ending → Type 0
Splits input stem end rule file ending = EndsBy (parts.Splits stem end rule) input file ending

-- the options of `lasmerge` with this packing
abbrev pub merge_options : (inputs : List (List ℕ)) → (output : List ℕ) → Packing → (copy : Bool) → LasmergeOptions
merge_options inputs output packing copy =
    record { inputs = inputs; output = output; packed = packing.packed; chunk = packing.chunk; copy = copy }

-- the cause for which inputs are kept from being merged
abbrev pub cause_of_fault : (inputs : List (List ℕ)) → MergeFault → Cause
cause_of_fault inputs (At number (file.Refused cause)) = Refused (item_at inputs number) cause
cause_of_fault inputs (At number file.Read) = Unread (item_at inputs number)
cause_of_fault inputs (At number file.Write) = Unwritten
cause_of_fault inputs (At number file.Memory) = Memory
cause_of_fault inputs (Unequal number field) = Differs (item_at inputs number) field
cause_of_fault inputs TooManyPoints = HasTooMany Points
cause_of_fault inputs TooManyChunks = HasTooMany Chunks
cause_of_fault inputs Write = Unwritten
cause_of_fault inputs merge.Memory = Memory

-- all is done, or a chunk of an input is bad
abbrev pub cause_at : (inputs : List (List ℕ)) → Option BadPlace → Cause
cause_at inputs None = Done
cause_at inputs (Some place) = Refused (item_at inputs place.file) (BadChunk place.chunk)

-- the ending of a merge of these files
abbrev pub merges : (inputs : List (List ℕ)) → (output : List ℕ) → (size : Option ℕ) → (merged : List (List ℕ))
    → (records : List ℕ) → Option BadPlace → Ending
merges inputs output size merged records bad = record {
  cause = cause_at inputs bad;
  outputs = output_file (merged_output output merged size) records ∷ [];
  text = [];
}

-- `lasmerge` writes the records of its inputs, up to the first bad chunk, if nothing keeps them from being merged.
abbrev pub MergesIn : (size : Option ℕ) → (inputs : List (List ℕ)) → (output : List ℕ) → FileMap → Ending → Type 0
MergesIn size inputs output files ending =
    ((fault : MergeFault) × IsKeptBy files inputs fault × (ending ≡ ends_at_once (cause_of_fault inputs fault)))
    ⊎ ((merged : List (List ℕ)) × (records : List ℕ) × (bad : Option BadPlace) × CanMerge files inputs merged
    × MergesTo merged records bad × (ending ≡ merges inputs output size merged records bad))

-- the ending of a merge by copied chunks, with this output: nothing in it is patched
abbrev pub copies : (output : List ℕ) → (text : List ℕ) → Ending
copies output text = record {
  cause = Done;
  outputs = record { name = output; draft = text; patches = []; stopped = text } ∷ [];
  text = [];
}

-- With -copy_chunks it copies the chunks of its inputs, bad ones too, if nothing keeps them from being copied.
abbrev pub CopiesIn : (inputs : List (List ℕ)) → (output : List ℕ) → FileMap → Ending → Type 0
CopiesIn inputs output files ending =
    ((fault : MergeFault) × IsKeptFromCopying files inputs fault
    × (ending ≡ ends_at_once (cause_of_fault inputs fault)))
    ⊎ ((merged : List (List ℕ)) × (parts : List (List Chunk)) × CanCopyFrom files inputs merged parts
    × (ending ≡ copies output (copied_file merged (all_of parts))))

abbrev pub MergesIf : (copy : Bool) → LasmergeOptions → FileMap → Ending → Type 0
MergesIf true options files ending = CopiesIn options.inputs options.output files ending
MergesIf false options files ending =
    MergesIn (chunk_if options.packed options.chunk) options.inputs options.output files ending

abbrev pub Merges : LasmergeOptions → FileMap → Ending → Type 0
Merges options files ending = MergesIf options.copy options files ending

-- what `make` is to make files of
abbrev pub settings_of : MakeOptions → Settings
settings_of options =
    record { points = options.points; seed = options.seed; format = options.format; extra = options.extra }

-- the options of `make` with these settings
abbrev pub options_with : (output packed : List ℕ) → Settings → (chunk : ℕ) → MakeOptions
options_with output packed settings chunk = record {
  output = output;
  packed = packed;
  points = settings.points;
  seed = settings.seed;
  format = settings.format;
  extra = settings.extra;
  chunk = chunk;
}

-- the three lines of `make`
abbrev pub made_text : (points plain packed : ℕ) → List ℕ
made_text points plain packed =
    concat (codes "points " ∷ decimal points ∷ line_feed ∷ codes "plain " ∷ decimal plain ∷ line_feed ∷ codes "packed "
    ∷ decimal packed ∷ line_feed ∷ [])

-- `make` writes a plain file and its packed form, and puts their sizes.
abbrev pub makes : (output packed : List ℕ) → Settings → (chunk : ℕ) → Ending
makes output packed settings chunk =
    let records = concat (made_records settings) in
    record {
      cause = Done;
      outputs = output_file (made_output output settings) records
          ∷ output_file (packed_output packed (made_file settings) chunk) records ∷ [];
      text = made_text settings.points (length (made_file settings))
          (length (packed_file (made_file settings) chunk));
    }
