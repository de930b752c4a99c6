-- What the top call promises of every run.
use Rattle.std.specs.Prelude.{◌≡◌, ◌≤◌, ◌⊎◌, ℕ, List, [], Any, None, Some, take}
use Rattle.las_header.specs.declared.refusal.Refusal.{Refusal}
use Rattle.las_header.specs.declared.refusal.Refusal.TheVariants.{BadChunk}
use Rattle.las_outside.specs.Faults.{Rose}
use Rattle.las_outside.specs.Files.{FileMap, IsMissing}
use Rattle.las_outside.specs.Frames.{IsCalm}
use Rattle.las_outside.specs.Outside.{Later}
use Rattle.las_outside.specs.Sinks.{Puts, written_after}
use Rattle.las_words.specs.Asked.{Las2lasOptions, LasmergeOptions, OneInput, las2las, lasmerge, reads}
use Rattle.las_words.specs.Says as words
use Rattle.laz_forms.specs.Laws.{CanBePacked}
use Rattle.laz_forms.specs.Packing.{packed_file}
use Rattle.laz_forms.specs.Refusing.{IsRefusal}
use Rattle.las_run.specs.Asking.{AsksFor, AsksToMerge, AsksWhole, TakesAll}
use Rattle.las_run.specs.Endings.{Cause, ComesFirst, Done, Refused, Ending, status_of}
use Rattle.las_run.specs.Ends.{Ends, IsTheEnding}
use Rattle.las_run.specs.Headline.{IsLaszip, IsPackedOf, Refuses, Writes, unpacked}
use Rattle.las_run.specs.Lines.{line_of}
use Rattle.las_run.specs.Runs.{IsWritten, inputs_of}
use Rattle.las_run.specs.Seen.{EndsAsDefined, EndsUnlessExcused, IsAsBefore, IsDecided, IsDue, Leaves, RunSeen}
use Rattle.las_run.specs.Seen.{change_of}

pub record KeepsPromises (run : RunSeen) : Type 0 where
  -- ---- `laszip` over known files, whatever its input holds
  -- Every accepted plain file is packed to exactly its packed form.
  pub packs : (zip : IsLaszip run) → CanBePacked zip.file zip.chunk
      → Writes run zip Done (packed_file zip.file zip.chunk)
  -- That form, in chunks of any size, is unpacked to the file again, byte for byte.
  pub gives_back : (zip : IsLaszip run) (file : List ℕ) (chunk : ℕ) → CanBePacked file chunk
      → zip.file ≡ packed_file file chunk → Writes run zip Done file
  -- Every accepted packed file whose chunks hold records is unpacked, whoever wrote it.
  pub unpacks : (zip : IsLaszip run) (blocks : List (List ℕ)) → IsPackedOf zip.file blocks None
      → Writes run zip Done (unpacked zip.file blocks)
  -- Every file that is not accepted is refused for its first cause.
  pub refuses : (zip : IsLaszip run) (refusal : Refusal) → IsRefusal zip.file (Some refusal) → Refuses run zip refusal
  -- A packed file with a bad chunk is refused for the first one, and the records before it are there.
  pub refuses_chunks : (zip : IsLaszip run) (blocks : List (List ℕ)) (chunk : ℕ)
      → IsPackedOf zip.file blocks (Some chunk)
      → Writes run zip (Refused zip.input (BadChunk chunk)) (unpacked zip.file blocks)
  -- ---- what is done
  -- Status 2 comes only from wrong words,
  pub usage : run.status ≡ 2 → (index : ℕ) × (run.task.said ≡ words.usage index)
  -- and wrong words give it, unless memory is short;
  pub wrong : (index : ℕ) → run.task.said ≡ words.usage index → (run.status ≡ 2) ⊎ (run.status ≡ 1)
  -- then no file is asked for anything.
  pub unasked : (index : ℕ) → run.task.said ≡ words.usage index → run.files_now ≡ run.files
  -- Over known files, a status other than 1, 3 and 4 tells the one ending that is defined.
  pub done : (known : FileMap) → run.files.held ≡ Some known → IsDecided run.status
      → (ending : Ending) × IsTheEnding run.task known ending × EndsAsDefined run known ending
  -- Over known files, a run ends as defined, unless memory is short or a count of faults rose.
  pub complete : (known : FileMap) (ending : Ending) → IsDue run known ending → EndsUnlessExcused run known ending
  -- Over known files, and whatever ends the run, `las2las` asks for no more of its input than opening it takes, and the
  -- bytes of those of its pieces that meet the range: of a chunk whose number of bytes no chunk of its number of records
  -- can have none, no piece if it is refused when it is opened, and nothing at all if it is missing. With the lowest or
  -- the highest of a cell the input is read twice, and this is asked for twice.
  pub asks : (input : List ℕ) (options : Las2lasOptions) (workers : ℕ)
      → run.task.said ≡ words.asks (record { work = reads input (las2las options); workers = workers })
      → AsksFor input options.sieve.pick options.start options.stop run.files run.files_now
  -- So do `laszip`, `lasinfo` and `lassplit`, which take all records of their input: no piece is asked for twice.
  pub asks_whole : (input : List ℕ) (own : OneInput) (workers : ℕ)
      → run.task.said ≡ words.asks (record { work = reads input own; workers = workers })
      → TakesAll own → AsksWhole input run.files run.files_now
  -- `lasmerge` asks for no more of its inputs than opening each twice and reading it once takes, or opening each once if
  -- it copies their chunks.
  pub asks_merge : (options : LasmergeOptions) (workers : ℕ)
      → run.task.said ≡ words.asks (record { work = lasmerge options; workers = workers })
      → AsksToMerge options run.files run.files_now
  -- ---- faults, and what is left
  -- If neither memory nor a failure ended the run, none was passed over: no count of faults moved, whether the files are
  -- known or not.
  pub calm : IsDecided run.status → IsCalm run.files run.files_now × (run.out_now.faults ≡ run.out.faults)
  -- Status 3 comes only from an input that is known to be missing, or from a read that failed,
  pub read : run.status ≡ 3 → Any (IsMissing run.files.held) (inputs_of run.task.said)
      ⊎ Rose run.files.read_faults run.files_now.read_faults
  -- and status 4 only from a write that failed, or from standard output.
  pub write : run.status ≡ 4 → Rose run.files.write_faults run.files_now.write_faults
      ⊎ Rose run.out.faults run.out_now.faults
  -- Over known files, whatever ended the run: each output is unfinished or not there, and all else is as before.
  pub left : (known : FileMap) (ending : Ending) → IsDue run known ending → Leaves run known ending
  -- The same without an ending that is given: one is defined, and this is left of it.
  pub left_always : (known : FileMap) → run.files.held ≡ Some known
      → (ending : Ending) × IsDue run known ending × Leaves run known ending
  -- Every name that the command does not write is as before.
  pub others : (known : FileMap) (name : List ℕ) → run.files.held ≡ Some known
      → (IsWritten run.task.said name → ⊥) → IsAsBefore run known name
  -- Nothing has changed if the words are wrong, an input is missing or refused when it is opened, or the inputs can't
  -- be merged;
  pub unchanged : (known : FileMap) (ending : Ending) → IsDue run known ending → ComesFirst ending.cause
      → run.files_now.held ≡ run.files.held
  -- and nothing has if the ending has no output, as that of `las2las` if the lowest or the highest of a cell is to stay
  -- and a chunk is bad.
  pub untouched : (known : FileMap) (ending : Ending) → IsDue run known ending → ending.outputs ≡ []
      → run.files_now.held ≡ run.files.held
  -- Nothing is put on standard output unless the status is 0 or 4,
  pub out : (run.status ≡ 0) ⊎ ((run.status ≡ 4) ⊎ (run.out_now ≡ run.out))
  -- and nothing but a prefix of the text of the ending.
  pub put : (known : FileMap) (ending : Ending) → IsDue run known ending
      → (n : ℕ) × (run.out_now.written ≡ written_after run.out.written (take n ending.text))
  -- No count falls, and known files stay known.
  pub later : Later run.files run.files_now
  -- ---- every run
  -- The status is at most 6.
  pub status : run.status ≤ 6
  -- The run ends for one cause, which has its reason in the words, the files and the counts. The status and the line on
  -- standard error tell it.
  pub ends : (cause : Cause) × (run.status ≡ status_of cause) × Puts (line_of cause) run.err run.err_now
      × Ends run.task (change_of run) cause
