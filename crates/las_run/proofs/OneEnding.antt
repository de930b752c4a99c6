-- At most one ending is defined for a task over files that hold bytes.
use Rattle.std.proofs.Common.{◌≡◌, inl, inr, ℕ, Bool, true, false, List, Option, Some, None, refl, sym, ◌∙◌, ap}
use Rattle.std.specs.FinMap as finmap
use Rattle.std.specs.List.{concat}
use Rattle.std.specs.Option.{option_map}
use Rattle.std.proofs.lemmas.Option.{none-some}
use Rattle.las_header.specs.declared.refusal.Refusal.{Refusal}
use Rattle.las_header.specs.declared.refusal.Refusal.TheVariants.{BadChunk}
use Rattle.las_header.specs.Fields.{head_of, is_packed}
use Rattle.las_info.specs.Tallies.{TapSeen}
use Rattle.las_outside.specs.Files.{FileMap}
use Rattle.las_words.specs.Asked.{LasmergeOptions, OneInput, Work, laszip, las2las, lasinfo, lassplit, lasmerge, make, reads}
use Rattle.las_words.specs.Says.{Said, asks, usage}
use Rattle.laz_range.specs.Span.{IsBytes}
use Rattle.laz_file.specs.Copying.{plain_output}
use Rattle.laz_forms.specs.Laws.{HasOneRecords}
use Rattle.laz_forms.specs.Ranges.{Range}
use Rattle.laz_forms.specs.Refusing.{IsAcceptedFile}
use Rattle.laz_forms.proofs.Public.{refused_once, some_same}
use Rattle.las_convert.specs.Laws.{ConvertsInOneWay}
use Rattle.las_merge.specs.Existing.{HoldBytes}
use Rattle.las_merge.specs.Laws.{MergesInOneWay}
use Rattle.las_split.specs.Laws.{SplitsInOneWay}
use Rattle.laz_file.specs.Endings.{Product, writes}
use Rattle.las_run.specs.Endings.{Ending, Refused, ends_at_once}
use Rattle.las_run.specs.EndingLaws.{EndsInOneWay}
use Rattle.las_run.specs.Runs.{Accepts, Does, Makes, Opens, RunsAs}
use Rattle.las_run.specs.Tools.{MergesIf, ZipsIf, chosen_taps, chunk_if, range_in, ending_of}
use Rattle.las_merge.proofs.Public.{bytes_of_first}
use Rattle.las_split.proofs.Public.{only_parts}
use Rattle.las_run.proofs.Converting.{only_conversion}
use Rattle.las_run.proofs.Copying as copying
use Rattle.las_run.proofs.Merging as merging
use Rattle.las_run.proofs.Reporting.{only_report}

-- ---- an input is opened in one way

one_accepted : (name file : List ℕ) (Makes : Ending → Type 0) (one other : Ending) → (IsAcceptedFile file → Makes one → Makes other → one ≡ other) → Accepts name file Makes one → Accepts name file Makes other → one ≡ other
one_accepted name file Makes one other once (inl r) (inl s) = r.2 ∙ ap (λ (c : Refusal). ends_at_once (Refused name c)) (some_same r.0 s.0 (refused_once file (Some r.0) (Some s.0) r.1 s.1)) ∙ sym s.2
one_accepted name file Makes one other once (inl r) (inr b) = absurd (none-some r.0 (refused_once file None (Some r.0) b.0 r.1))
one_accepted name file Makes one other once (inr a) (inl s) = absurd (none-some s.0 (refused_once file None (Some s.0) a.0 s.1))
one_accepted name file Makes one other once (inr a) (inr b) = once a.0 a.1 b.1

one_opened : (name : List ℕ) (o : Option (List ℕ)) (Makes : List ℕ → Ending → Type 0) (one other : Ending) → ((file : List ℕ) → o ≡ Some file → IsAcceptedFile file → Makes file one → Makes file other → one ≡ other) → Opens name o Makes one → Opens name o Makes other → one ≡ other
one_opened name None Makes one other once is was = is ∙ sym was
one_opened name (Some file) Makes one other once is was = one_accepted name file (Makes file) one other (once file refl) is was

module _ (records : HasOneRecords) (converts : ConvertsInOneWay) (splits : SplitsInOneWay) (merges : MergesInOneWay) where
  zips_once : (packed : Bool) (output : List ℕ) (chunk : ℕ) (file : List ℕ) (one other : Product) → IsBytes file → ZipsIf packed output chunk file one → ZipsIf packed output chunk file other → one ≡ other
  zips_once true output chunk file one other small is was =
      let same = records file was.0 is.0 was.1 is.1 small was.2 is.2 in
      let product : List (List ℕ) → Option ℕ → Product = λ blocks bad. writes (plain_output output file) (concat blocks) (option_map BadChunk bad) in
      is.3 ∙ ap (λ (bs : List (List ℕ)). product bs is.1) same.0 ∙ ap (product was.0) same.1 ∙ sym was.3
  zips_once false output chunk file one other small is was = is ∙ sym was

  -- a command with one input makes one thing of it
  makes_once : (taps : List TapSeen) (input : List ℕ) (own : OneInput) (file : List ℕ) (one other : Ending) → IsAcceptedFile file → IsBytes file → Makes taps input own file one → Makes taps input own file other → one ≡ other
  makes_once taps input (laszip options) file one other accepted small is was =
      is.2 ∙ ap (ending_of input) (zips_once (is_packed (head_of file)) options.output options.chunk file is.0 was.0 small is.1 was.1) ∙ sym was.2
  makes_once taps input (las2las options) file one other accepted small is was =
      let range : List ℕ → Range = range_in options.start options.stop in
      let gives = converts options.plan options.sieve file (range file) is.0 is.1 accepted small is.2 in
      let only = only_conversion (chunk_if options.packed options.chunk) range (chosen_taps taps options.tallies) input options.output options.plan options.sieve file is.0 is.1 gives in
      is.3 ∙ sym (only.only other was)
  makes_once taps input (lasinfo options) file one other accepted small is was =
      let only = only_report taps input options.tallies file is.0 is.1 is.2 (record { are = is.3; only = λ others worse of. records file is.0 others is.1 worse small is.3 of }) is.4 in
      is.5 ∙ sym (only.only other was)
  makes_once taps input (lassplit options) file one other accepted small is was =
      let parts = is.1 in
      let only = only_parts options.stem options.end options.rule file parts.0 parts.1 (splits options.rule file parts.0 parts.1 accepted small parts.2) in
      is.2 ∙ ap (ending_of input) (parts.3 ∙ sym (only.only was.0 was.1)) ∙ sym was.2

  -- and so does a merge of its inputs
  merges_once : (taps : List TapSeen) (copy : Bool) (options : LasmergeOptions) (files : FileMap) (one other : Ending) → HoldBytes files → MergesIf copy options files one → MergesIf copy options files other → one ≡ other
  merges_once taps true options files one other hold (inl k) was = k.2 ∙ sym ((copying.kept_ending taps options 0 files k.0 k.1).only other was)
  merges_once taps true options files one other hold (inr m) was = m.3 ∙ sym ((copying.copied_ending taps options 0 files m.0 m.1 m.2).only other was)
  merges_once taps false options files one other hold (inl k) was = k.2 ∙ sym ((merging.kept_ending taps options 0 files k.0 k.1).only other was)
  merges_once taps false options files one other hold (inr m) was =
      let gives = merges m.0 m.1 m.2 (bytes_of_first files options.inputs m.0 hold m.3.first) m.4 in
      m.5 ∙ sym ((merging.merged_ending taps options 0 files m.0 m.1 m.2 m.3 gives).only other was)

  does_once : (taps : List TapSeen) (work : Work) (files : FileMap) (one other : Ending) → HoldBytes files → Does taps work files one → Does taps work files other → one ≡ other
  does_once taps (reads input own) files one other hold is was =
      one_opened input (finmap.get files input) (Makes taps input own) one other (λ file held accepted made again. makes_once taps input own file one other accepted (hold input file held) made again) is was
  does_once taps (lasmerge options) files one other hold is was = merges_once taps options.copy options files one other hold is was
  does_once taps (make options) files one other hold is was = is ∙ sym was

  runs_once : (taps : List TapSeen) (said : Said) (files : FileMap) (one other : Ending) → HoldBytes files → RunsAs taps said files one → RunsAs taps said files other → one ≡ other
  runs_once taps (asks asked) files one other hold is was = does_once taps asked.work files one other hold is was
  runs_once taps (usage index) files one other hold is was = is ∙ sym was

  pub ends_in_one_way : EndsInOneWay
  ends_in_one_way task files one other hold is was = runs_once task.taps task.said files one other hold is was
