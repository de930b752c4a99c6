-- An ending is defined for every task over files that hold bytes.
use Rattle.std.proofs.Common.{◌≡◌, ◌⊎◌, inl, inr, ℕ, Bool, true, false, List, drop, Option, Some, None, refl}
use Rattle.std.specs.FinMap as finmap
use Rattle.std.specs.List.{concat}
use Rattle.std.specs.Option.{option_map}
use Rattle.las_header.specs.declared.refusal.Refusal.{Refusal}
use Rattle.las_header.specs.declared.refusal.Refusal.TheVariants.{BadChunk}
use Rattle.las_header.specs.Fields.{head_of, is_packed, point_offset_of}
use Rattle.las_info.specs.Tallies.{TapSeen}
use Rattle.las_outside.specs.Files.{FileMap}
use Rattle.las_words.specs.Asked.{LasmergeOptions, OneInput, Work, laszip, las2las, lasinfo, lassplit, lasmerge, make, reads}
use Rattle.las_words.specs.Says.{Said, asks, usage}
use Rattle.laz_file.specs.Copying.{packed_output, plain_output}
use Rattle.laz_forms.specs.Existing.{HasAnAnswer, HasSomeRecords}
use Rattle.laz_forms.specs.Outputs.{records_after}
use Rattle.laz_forms.specs.Refusing.{IsAcceptedFile, IsRefusal}
use Rattle.las_convert.specs.Laws.{ConvertsToSomething}
use Rattle.las_merge.specs.declared.fault.MergeFault.{MergeFault}
use Rattle.las_merge.specs.Existing.{AreKeptOrCopied, AreKeptOrMerged, MergesToSomething}
use Rattle.las_merge.specs.Inputs.{CanMerge, IsKeptBy}
use Rattle.las_merge.specs.Packed.{CanCopyFrom, IsKeptFromCopying}
use Rattle.las_split.specs.Laws.{SplitsToSomething}
use Rattle.las_split.specs.Outputs.{part_files}
use Rattle.laz_copied.specs.Copied.{Chunk, all_of, copied_file}
use Rattle.laz_file.specs.Endings.{Product, writes}
use Rattle.las_run.specs.Endings.{Ending, Refused, Unread, Usage, ends_at_once}
use Rattle.las_run.specs.EndingLaws.{SomeEndingIsDefined}
use Rattle.las_run.specs.Runs.{Accepts, Does, Makes, Opens, RunsAs}
use Rattle.las_run.specs.Tools.{CopiesIn, MergesIf, MergesIn, ZipsIf, cause_of_fault, chosen_taps, chunk_if, converted, copies, makes, merges, range_in, report_of, reports, settings_of, ending_of}
use Rattle.las_run.proofs.Running.{accepts_by}

abbrev SomeIs : (Ending → Type 0) → Type 0
SomeIs Ends = (ending : Ending) × Ends ending

module _ (answers : HasAnAnswer) (records : HasSomeRecords) (converts : ConvertsToSomething) (splits : SplitsToSomething) (merged : AreKeptOrMerged) (merging : MergesToSomething) (copied : AreKeptOrCopied) where
  -- a command with one input makes something of it
  zips_some : (packed : Bool) (output : List ℕ) (chunk : ℕ) (file : List ℕ) → IsAcceptedFile file → ((product : Product) × ZipsIf packed output chunk file product)
  zips_some true output chunk file accepted =
      let r = records file accepted in (writes (plain_output output file) (concat r.0) (option_map BadChunk r.1), (r.0, r.1, r.2, refl))
  zips_some false output chunk file accepted = (writes (packed_output output file chunk) (drop (point_offset_of file) file) None, refl)

  makes_some : (taps : List TapSeen) (input : List ℕ) (own : OneInput) (file : List ℕ) → IsAcceptedFile file → SomeIs (Makes taps input own file)
  makes_some taps input (laszip options) file accepted =
      let p = zips_some (is_packed (head_of file)) options.output options.chunk file accepted in (ending_of input p.0, (p.0, p.1, refl))
  makes_some taps input (las2las options) file accepted =
      let h = converts options.plan options.sieve file (range_in options.start options.stop file) accepted in (converted (chunk_if options.packed options.chunk) (chosen_taps taps options.tallies) input options.output options.sieve.pick file h.0 h.1, (h.0, h.1, h.2, refl))
  makes_some taps input (lasinfo options) file accepted =
      let r = records file accepted in (reports input (report_of (chosen_taps taps options.tallies) file r.2.0 (records_after (head_of file) (concat r.0))) r.1, (r.0, r.1, r.2.0, r.2, r.2.1, refl))
  makes_some taps input (lassplit options) file accepted =
      let h = splits options.rule file accepted in let product : Product = record { files = part_files options.stem options.end options.rule file h.0; refusal = h.1 } in (ending_of input product, (product, (h.0, h.1, h.2, refl), refl))

  accepts_some : (taps : List TapSeen) (input : List ℕ) (own : OneInput) (file : List ℕ) → (answer : Option Refusal) → IsRefusal file answer → SomeIs (Accepts input file (Makes taps input own file))
  accepts_some taps input own file None is = let e = makes_some taps input own file is in accepts_by input file (Makes taps input own file) e.0 None is e.1
  accepts_some taps input own file (Some cause) is = (ends_at_once (Refused input cause), inl (cause, is, refl))

  opens_some : (taps : List TapSeen) (input : List ℕ) (own : OneInput) (o : Option (List ℕ)) → SomeIs (Opens input o (Makes taps input own))
  opens_some taps input own None = (ends_at_once (Unread input), refl)
  opens_some taps input own (Some file) = let a = answers file in accepts_some taps input own file a.0 a.1

  -- and so does a merge of its inputs
  merge_some : (files : FileMap) (size : Option ℕ) (inputs : List (List ℕ)) (output : List ℕ) → ((cause : MergeFault) × IsKeptBy files inputs cause) ⊎ ((all : List (List ℕ)) × CanMerge files inputs all) → SomeIs (MergesIn size inputs output files)
  merge_some files size inputs output (inl kept) = (ends_at_once (cause_of_fault inputs kept.0), inl (kept.0, kept.1, refl))
  merge_some files size inputs output (inr can) =
      let m = merging can.0 can.1.first.accepted in (merges inputs output size can.0 m.0 m.1, inr (can.0, m.0, m.1, can.1, m.2, refl))

  copy_some : (files : FileMap) (inputs : List (List ℕ)) (output : List ℕ) → ((cause : MergeFault) × IsKeptFromCopying files inputs cause) ⊎ ((all : List (List ℕ)) × (parts : List (List Chunk)) × CanCopyFrom files inputs all parts) → SomeIs (CopiesIn inputs output files)
  copy_some files inputs output (inl kept) = (ends_at_once (cause_of_fault inputs kept.0), inl (kept.0, kept.1, refl))
  copy_some files inputs output (inr can) = (copies output (copied_file can.0 (all_of can.1)), inr (can.0, can.1, can.2, refl))

  merges_some : (copy : Bool) (options : LasmergeOptions) (files : FileMap) → SomeIs (MergesIf copy options files)
  merges_some true options files = copy_some files options.inputs options.output (copied files options.inputs)
  merges_some false options files = merge_some files (chunk_if options.packed options.chunk) options.inputs options.output (merged files options.inputs)

  does_some : (taps : List TapSeen) (work : Work) (files : FileMap) → SomeIs (Does taps work files)
  does_some taps (reads input own) files = opens_some taps input own (finmap.get files input)
  does_some taps (lasmerge options) files = merges_some options.copy options files
  does_some taps (make options) files = (makes options.output options.packed (settings_of options) options.chunk, refl)

  runs_some : (taps : List TapSeen) (said : Said) (files : FileMap) → SomeIs (RunsAs taps said files)
  runs_some taps (asks asked) files = does_some taps asked.work files
  runs_some taps (usage index) files = (ends_at_once (Usage index), refl)

  pub some_ending_is_defined : SomeEndingIsDefined
  some_ending_is_defined task files = runs_some task.taps task.said files
