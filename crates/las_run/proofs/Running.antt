-- Which words and files have an ending.
use Rattle.std.proofs.Common.{◌∙◌, ◌≡◌, inl, inr, ℕ, ◌+◌, Bool, true, false, if◌then◌else◌, nat_lt, List, [], ◌∷◌, ◌++◌, drop, map, Option, Some, None, refl, sym, ap, subst, arith}
use Rattle.std.specs.FinMap as finmap
use Rattle.std.specs.List.{concat}
use Rattle.std.specs.Option.{option_map}
use Rattle.las_header.specs.declared.refusal.Refusal.{Refusal}
use Rattle.las_header.specs.declared.refusal.Refusal.TheVariants.{BadChunk, RawRange, TooManyParts}
use Rattle.las_header.specs.Conditions.{IsFirst, conditions}
use Rattle.las_header.specs.Fields.{head_of, is_packed, point_offset_of}
use Rattle.las_header.specs.Refusals.{first_cause}
use Rattle.las_header.proofs.Public.{IsFirst-append_none, IsFirst-append_some, IsFirst-tests}
use Rattle.las_outside.specs.Files.{FileMap}
use Rattle.las_info.specs.Tallies.{TapSeen}
use Rattle.las_words.specs.Asked.{Asked, Las2lasOptions, LasmergeOptions, OneInput, Work, laszip, las2las, lasinfo, lassplit, lasmerge, make, reads}
use Rattle.las_words.specs.Says.{Said, asks, usage}
use Rattle.laz_file.specs.Copying.{packed_output, plain_output}
use Rattle.laz_forms.specs.Outputs.{records_after}
use Rattle.laz_forms.specs.Packing.{packed_file}
use Rattle.laz_forms.specs.Pieces.{ArePieces, ArePiecesIf, Piece, piece_bytes, plain_pieces}
use Rattle.laz_chunk.specs.Layouts.{record_length}
use Rattle.laz_forms.specs.Packing.{record_layout}
use Rattle.laz_forms.specs.Ranges.{Range, part_in, parts_if, parts_in, parts_of, taken_of}
use Rattle.laz_forms.specs.Records.{AreRecordsIn, AreRecordsOf, HoldBlocks, HoldsBlock, HoldsIf, cut_block}
use Rattle.laz_forms.specs.Refusing.{IsRefusal, chunk_causes, tested_causes}
use Rattle.laz_forms.proofs.Public.{hold-plain, packed_accepted, unpacks_again}
use Rattle.las_convert.specs.Adding.{Keeping}
use Rattle.las_convert.specs.Converting.{ConvertsBy, ConvertsOnce, ConvertsTwice}
use Rattle.las_thin.specs.declared.pick.Pick.{Pick}
use Rattle.las_thin.specs.declared.pick.Pick.TheVariants.{First, Lowest, Highest}
use Rattle.las_thin.specs.Kept.{kept_behind}
use Rattle.laz_file.specs.Endings.{writes, Product}
use Rattle.las_run.specs.Endings.{ComesAtOpening, ComesFirst, Ending, Refused, Unread, Usage, ends_at_once}
use Rattle.las_filter.specs.declared.rule.Rule.{Rule}
use Rattle.las_merge.specs.Merging.{BadPlace}
use Rattle.las_split.specs.Outputs.{part_files}
use Rattle.las_split.specs.Splitting.{SplitsTo}
use Rattle.las_convert.proofs.Public.{converts_some}
use Rattle.las_split.proofs.Public.{splits_some}
use Rattle.las_run.specs.Tools.{Converts, range_in, MergesIf, Reports, Splits, ZipsIf, cause_at, cause_by, chosen_taps, chunk_if, converted, report_of, reports, Zips, ending_of}
use Rattle.las_run.specs.Runs.{Accepts, Does, Makes, Opens, OpensIn, RunOf, RunsAs, Task}
use Rattle.las_run.specs.EndingLaws.{MissingInputsEnd, PackedFormsEnd, PlainInputsEnd, WorkersDoNotMatter, WrongWordsEnd, input_of, with_one_worker}
use Rattle.las_run.proofs.Headline.{is_packed_form}

-- ---- some ending
run_of : (task : Task) (files : FileMap) (said : Said) (ending : Ending) → task.said ≡ said → RunsAs task.taps said files ending → RunOf task files ending
run_of task files said ending is run = subst (λ (s : Said). RunsAs task.taps s files ending) (sym is) run

pub wrong_words_end : WrongWordsEnd
wrong_words_end task files index is = (ends_at_once (Usage index), run_of task files (usage index) (ends_at_once (Usage index)) is refl)

-- a command with one input opens it
abbrev MakesOf : List TapSeen → Work → (file : List ℕ) → Ending → Type 0
MakesOf taps (reads input own) file ending = Makes taps input own file ending
MakesOf taps (lasmerge options) file ending = ⊥
MakesOf taps (make options) file ending = ⊥

none_named : {X : Type 0} (name : List ℕ) → ◌≡◌ {A = Option (List ℕ)} None (Some name) → X
none_named name e = absurd (cc)

some_named : (a b : List ℕ) → ◌≡◌ {A = Option (List ℕ)} (Some a) (Some b) → a ≡ b
some_named a b e = cc

opens_one : (taps : List TapSeen) (work : Work) (name : List ℕ) (files : FileMap) (ending : Ending) → input_of work ≡ Some name → OpensIn files name (MakesOf taps work) ending → Does taps work files ending
opens_one taps (reads input own) name files ending is opens = subst (λ (n : List ℕ). OpensIn files n (Makes taps input own) ending) (sym (some_named input name is)) opens
opens_one taps (lasmerge options) name files ending is opens = none_named name is
opens_one taps (make options) name files ending is opens = none_named name is

-- so what is opened is run
opened_runs : (task : Task) (files : FileMap) (asked : Asked) (name : List ℕ) (o : Option (List ℕ)) (ending : Ending) → task.said ≡ asks asked → input_of asked.work ≡ Some name → finmap.get files name ≡ o
    → Opens name o (MakesOf task.taps asked.work) ending → RunOf task files ending
opened_runs task files asked name o ending said is held opens =
    run_of task files (asks asked) ending said
    (opens_one task.taps asked.work name files ending is (subst (λ (f : Option (List ℕ)). Opens name f (MakesOf task.taps asked.work) ending) (sym held) opens))

pub missing_inputs_end : MissingInputsEnd
missing_inputs_end task files asked name said is missing = (ends_at_once (Unread name), opened_runs task files asked name None (ends_at_once (Unread name)) said is missing refl)

-- a plain file is refused or accepted
plain_refusal : (file : List ℕ) (packed : Bool) (tests : Option Refusal) → packed ≡ false → IsFirst (conditions (tested_causes file)) tests → IsFirst (conditions (tested_causes file) ++ chunk_causes packed file) tests
plain_refusal file true tests plain is = absurd (cc)
plain_refusal file false None plain is = IsFirst-append_none (conditions (tested_causes file)) [] None is refl
plain_refusal file false (Some cause) plain is = IsFirst-append_some (conditions (tested_causes file)) [] cause is

pub accepts_by : (name file : List ℕ) (Makes : Ending → Type 0) (ending : Ending) (o : Option Refusal) → IsRefusal file o → Makes ending → (e : Ending) × Accepts name file Makes e
accepts_by name file Makes ending None is makes = (ending, inr (is, makes))
accepts_by name file Makes ending (Some cause) is makes = (ends_at_once (Refused name cause), inl (cause, is, refl))

pub zips_made : (packed : Bool) (input output : List ℕ) (chunk : ℕ) (file : List ℕ) (product : Product) → is_packed (head_of file) ≡ packed → ZipsIf packed output chunk file product → Zips input output chunk file (ending_of input product)
zips_made packed input output chunk file product is makes = (product, subst (λ (b : Bool). ZipsIf b output chunk file product) (sym is) makes, refl)

las2las_ending : (taps : List TapSeen) (input : List ℕ) (options : Las2lasOptions) (file : List ℕ) (blocks : List (List ℕ)) → AreRecordsIn file (range_in options.start options.stop file) blocks None → (ending : Ending) × Converts taps input options file ending
las2las_ending taps input options file blocks are =
    let h = converts_some (kept_behind options.plan options.sieve) file (range_in options.start options.stop file) blocks options.sieve.pick None are in
    (converted (chunk_if options.packed options.chunk) (chosen_taps taps options.tallies) input options.output options.sieve.pick file h.0 h.1, (h.0, h.1, h.2, refl))

-- chunks that hold blocks hold the parts of them that are in a range
held_parts : (file : List ℕ) → is_packed (head_of file) ≡ true → (range : Range) (at : ℕ) (pieces : List Piece) (blocks : List (List ℕ)) → HoldBlocks file pieces blocks → (parts : List (List ℕ)) × HoldBlocks file (parts_in range at pieces) parts
held_parts file packed range at [] blocks hold = ([], tt)
held_parts file packed range at (p ∷ pieces) [] hold = absurd hold
held_parts file packed range at (p ∷ pieces) (b ∷ blocks) hold = by (nat_lt 0 (taken_of range at p.count)) (held_parts file packed range (at + p.count) pieces blocks hold.1)
  where
    part : (block : List ℕ) × HoldsBlock file (part_in range at p) block
    part =
        let whole = subst (λ (packed : Bool). HoldsIf packed file p b) packed hold.0 in
        let block = cut_block (record_length (record_layout (head_of file))) (part_in range at p) whole.0 in
        (block, subst (λ (packed : Bool). HoldsIf packed file (part_in range at p) block) (sym packed) (whole.0, whole.1, refl))

    by : (meets : Bool) → ((parts : List (List ℕ)) × HoldBlocks file (parts_in range (at + p.count) pieces) parts)
        → (parts : List (List ℕ)) × HoldBlocks file (if meets then part_in range at p ∷ parts_in range (at + p.count) pieces else parts_in range (at + p.count) pieces) parts
    by true rest = let first = part in (first.0 ∷ rest.0, (first.1, rest.1))
    by false rest = rest

range_of_form : (file : List ℕ) (range : Range) (blocks : List (List ℕ)) → is_packed (head_of file) ≡ true → AreRecordsOf file blocks None → (parts : List (List ℕ)) × AreRecordsIn file range parts None
range_of_form file range blocks packed are =
    let h = held_parts file packed range 0 are.0 blocks are.2 in
    let hold = subst (λ (b : Bool). HoldBlocks file (parts_if b (head_of file) (point_offset_of file) range are.0) h.0) (sym packed) h.1 in
    (h.0, (are.0, None, are.1, hold, refl))

lassplit_ending : (input stem end : List ℕ) (rule : Rule) (file : List ℕ) (blocks : List (List ℕ)) → AreRecordsOf file blocks None → (ending : Ending) × Splits input stem end rule file ending
lassplit_ending input stem end rule file blocks are =
    let h = splits_some rule file blocks None are in
    let product : Product = record { files = part_files stem end rule file h.0; refusal = h.1 } in
    (ending_of input product, (product, (h.0, h.1, h.2, refl), refl))

plain_records : (file : List ℕ) (packed : Bool) → packed ≡ false → ArePiecesIf packed file (plain_pieces file)
plain_records file true plain = absurd (cc)
plain_records file false plain = refl

reported : (taps : List TapSeen) (input : List ℕ) (tallies : List (List ℕ)) (file : List ℕ) (blocks : List (List ℕ)) (pieces : List Piece) → ArePieces file pieces → HoldBlocks file pieces blocks → (ending : Ending) × Reports taps input tallies file ending
reported taps input tallies file blocks pieces are hold =
    (reports input (report_of (chosen_taps taps tallies) file pieces (records_after (head_of file) (concat blocks))) None, (blocks, None, pieces, (pieces, are, hold), are, refl))

some_plain : (taps : List TapSeen) (input : List ℕ) (own : OneInput) (file : List ℕ) → is_packed (head_of file) ≡ false → (ending : Ending) × Makes taps input own file ending
some_plain taps input (laszip options) file plain =
    let packing = writes (packed_output options.output file options.chunk) (drop (point_offset_of file) file) None in
    (ending_of input packing, zips_made false input options.output options.chunk file packing plain refl)
some_plain taps input (las2las options) file plain =
    let pieces = plain_pieces file in
    let parts = parts_of file (range_in options.start options.stop file) pieces in
    las2las_ending taps input options file (map (piece_bytes file) parts) (pieces, None, plain_records file (is_packed (head_of file)) plain, hold-plain file plain parts, refl)
some_plain taps input (lasinfo options) file plain =
    let pieces = plain_pieces file in
    reported taps input options.tallies file (map (piece_bytes file) pieces) pieces (plain_records file (is_packed (head_of file)) plain) (hold-plain file plain pieces)
some_plain taps input (lassplit options) file plain =
    let pieces = plain_pieces file in
    lassplit_ending input options.stem options.end options.rule file (map (piece_bytes file) pieces) (pieces, plain_records file (is_packed (head_of file)) plain, hold-plain file plain pieces)

some_form : (taps : List TapSeen) (input : List ℕ) (own : OneInput) (file : List ℕ) (blocks : List (List ℕ)) → is_packed (head_of file) ≡ true → AreRecordsOf file blocks None → (ending : Ending) × Makes taps input own file ending
some_form taps input (laszip options) file blocks packed are =
    let unpacking = writes (plain_output options.output file) (concat blocks) None in
    (ending_of input unpacking, zips_made true input options.output options.chunk file unpacking packed (blocks, None, are, refl))
some_form taps input (las2las options) file blocks packed are =
    let h = range_of_form file (range_in options.start options.stop file) blocks packed are in
    las2las_ending taps input options file h.0 h.1
some_form taps input (lasinfo options) file blocks packed are = reported taps input options.tallies file blocks are.0 are.1 are.2
some_form taps input (lassplit options) file blocks packed are = lassplit_ending input options.stem options.end options.rule file blocks are

-- the one input of a command is such a file
made_of : (taps : List TapSeen) (work : Work) (name file : List ℕ) → ((input : List ℕ) (own : OneInput) → (ending : Ending) × Makes taps input own file ending) → input_of work ≡ Some name → (ending : Ending) × MakesOf taps work file ending
made_of taps (reads input own) name file some is = some input own
made_of taps (lasmerge options) name file some is = none_named name is
made_of taps (make options) name file some is = none_named name is

pub plain_inputs_end : PlainInputsEnd
plain_inputs_end task files asked name file said is held plain =
    let tests = first_cause (tested_causes file) in
    let refusal = plain_refusal file (is_packed (head_of file)) tests plain (IsFirst-tests (tested_causes file)) in
    let made = made_of task.taps asked.work name file (λ input own. some_plain task.taps input own file plain) is in
    let h = accepts_by name file (MakesOf task.taps asked.work file) made.0 tests refusal made.1 in
    (h.0, opened_runs task files asked name (Some file) h.0 said is held h.1)

pub packed_forms_end : PackedFormsEnd
packed_forms_end task files asked name file chunk said is held can =
    let form = packed_file file chunk in
    let whole = unpacks_again file chunk can in
    let made = made_of task.taps asked.work name form (λ input own. some_form task.taps input own form whole.0 (is_packed_form file chunk can) whole.1) is in
    (made.0, opened_runs task files asked name (Some form) made.0 said is held (inr (packed_accepted file chunk can, made.1)))

-- ---- the number of workers
one_worker : (taps : List TapSeen) (said : Said) (files : FileMap) (ending : Ending) → RunsAs taps said files ending → RunsAs taps (with_one_worker said) files ending
one_worker taps (asks asked) files ending run = run
one_worker taps (usage index) files ending run = run

any_workers : (taps : List TapSeen) (said : Said) (files : FileMap) (ending : Ending) → RunsAs taps (with_one_worker said) files ending → RunsAs taps said files ending
any_workers taps (asks asked) files ending run = run
any_workers taps (usage index) files ending run = run

pub workers_do_not_matter : WorkersDoNotMatter
workers_do_not_matter task other files ending same taps run =
    any_workers other.taps other.said files ending
    (subst (λ (ts : List TapSeen). RunsAs ts (with_one_worker other.said) files ending) taps
    (subst (λ (s : Said). RunsAs task.taps s files ending) same (one_worker task.taps task.said files ending run)))

-- ---- endings before any output
zips_late : (packed : Bool) (input output : List ℕ) (chunk : ℕ) (file : List ℕ) (product : Product) → ZipsIf packed output chunk file product → ComesFirst (cause_by input product.refusal) → ⊥
zips_late true input output chunk file product makes first = bad_chunks_late makes.1 input (subst ComesFirst (ap (λ (p : Product). cause_by input p.refusal) makes.3) first)
  where
    bad_chunks_late : (bad : Option ℕ) (name : List ℕ) → ComesFirst (cause_by name (option_map BadChunk bad)) → ⊥
    bad_chunks_late None name first = first
    bad_chunks_late (Some i) name first = first
zips_late false input output chunk file product makes first = subst ComesFirst (ap (λ (p : Product). cause_by input p.refusal) makes) first

-- a refusal of records comes after the opening
once_late : (keeping : Keeping) (file : List ℕ) (range : Range) (records : List ℕ) (cause : Refusal) → ConvertsOnce keeping file range records (Some cause) → ComesAtOpening cause → ⊥
once_late keeping file range records (BadChunk i) converts first = first
once_late keeping file range records (RawRange k) converts first = first
once_late keeping file range records cause converts first = converts

twice_late : (keeping : Keeping) (file : List ℕ) (range : Range) (records : List ℕ) (cause : Refusal) → ConvertsTwice keeping file range records (Some cause) → ComesAtOpening cause → ⊥
twice_late keeping file range records (BadChunk i) converts first = first
twice_late keeping file range records (RawRange k) converts first = first
twice_late keeping file range records cause converts first = converts

kept_late : (pick : Pick) (keeping : Keeping) (file : List ℕ) (range : Range) (records input : List ℕ) (refusal : Option Refusal) → ConvertsBy pick keeping file range records refusal → ComesFirst (cause_by input refusal) → ⊥
kept_late pick keeping file range records input None converts first = first
kept_late First keeping file range records input (Some cause) converts first = once_late keeping file range records cause converts first
kept_late Lowest keeping file range records input (Some cause) converts first = twice_late keeping file range records cause converts first
kept_late Highest keeping file range records input (Some cause) converts first = twice_late keeping file range records cause converts first

-- what is made of an accepted input is made before any output only if it has none
abbrev ComesWithout : (Ending → Type 0) → Type 0
ComesWithout Makes = (ending : Ending) → Makes ending → ComesFirst ending.cause → ending.outputs ≡ []

opens_first : (files : FileMap) (name : List ℕ) (Makes : List ℕ → Ending → Type 0) → ((file : List ℕ) → ComesWithout (Makes file)) → ComesWithout (OpensIn files name Makes)
opens_first files name Makes late ending opens first = go (finmap.get files name) opens
  where
    go : (o : Option (List ℕ)) → Opens name o Makes ending → ending.outputs ≡ []
    go None is = ap (λ (e : Ending). e.outputs) is
    go (Some file) (inl r) = ap (λ (e : Ending). e.outputs) r.2
    go (Some file) (inr a) = late file ending a.1 first

reports_first : (taps : List TapSeen) (input : List ℕ) (tallies : List (List ℕ)) (file : List ℕ) → ComesWithout (Reports taps input tallies file)
reports_first taps input tallies file ending makes first = no_outputs makes.1 _ makes.5
  where
    no_outputs : (bad : Option ℕ) (report : List ℕ) → ending ≡ reports input report bad → ending.outputs ≡ []
    no_outputs None report is = ap (λ (e : Ending). e.outputs) is
    no_outputs (Some i) report is = ap (λ (e : Ending). e.outputs) is

-- a refusal while parts are written comes after the opening
split_late : (rule : Rule) (file : List ℕ) (records : List (List ℕ)) (input : List ℕ) (refusal : Option Refusal) → SplitsTo rule file records refusal → ComesFirst (cause_by input refusal) → ⊥
split_late rule file records input None splits first = first
split_late rule file records input (Some cause) splits first = refused_late_split cause splits first
  where
    refused_late_split : (cause : Refusal) → SplitsTo rule file records (Some cause) → ComesAtOpening cause → ⊥
    refused_late_split (BadChunk i) splits first = first
    refused_late_split TooManyParts splits first = first
    refused_late_split cause splits first = splits

-- a bad chunk of a merge comes after the opening
merged_late : (inputs : List (List ℕ)) (bad : Option BadPlace) → ComesFirst (cause_at inputs bad) → ⊥
merged_late inputs None first = first
merged_late inputs (Some place) first = first

makes_first : (taps : List TapSeen) (input : List ℕ) (own : OneInput) (file : List ℕ) → ComesWithout (Makes taps input own file)
makes_first taps input (laszip options) file ending makes first =
    absurd (zips_late (is_packed (head_of file)) input options.output options.chunk file makes.0 makes.1 (subst ComesFirst (ap (λ (e : Ending). e.cause) makes.2) first))
makes_first taps input (las2las options) file ending makes first =
    absurd (kept_late options.sieve.pick (kept_behind options.plan options.sieve) file (range_in options.start options.stop file) makes.0 input makes.1 makes.2 (subst ComesFirst (ap (λ (x : Ending). x.cause) makes.3) first))
makes_first taps input (lasinfo options) file ending makes first = reports_first taps input options.tallies file ending makes first
makes_first taps input (lassplit options) file ending makes first =
    let parts = makes.1 in
    let cause : ending.cause ≡ cause_by input parts.1 = ap (λ (x : Ending). x.cause) makes.2 ∙ ap (λ (p : Product). cause_by input p.refusal) parts.3 in
    absurd (split_late options.rule file parts.0 input parts.1 parts.2 (subst ComesFirst cause first))

merges_first : (copy : Bool) (options : LasmergeOptions) (files : FileMap) → ComesWithout (MergesIf copy options files)
merges_first true options files ending (inl kept) first = ap (λ (e : Ending). e.outputs) kept.2
merges_first true options files ending (inr made) first = absurd (subst ComesFirst (ap (λ (e : Ending). e.cause) made.3) first)
merges_first false options files ending (inl kept) first = ap (λ (e : Ending). e.outputs) kept.2
merges_first false options files ending (inr made) first = absurd (merged_late options.inputs made.2 (subst ComesFirst (ap (λ (e : Ending). e.cause) made.5) first))

does_first : (taps : List TapSeen) (work : Work) (files : FileMap) → ComesWithout (Does taps work files)
does_first taps (reads input own) files ending run first = opens_first files input (Makes taps input own) (makes_first taps input own) ending run first
does_first taps (lasmerge options) files ending run first = merges_first options.copy options files ending run first
does_first taps (make options) files ending run first = absurd (subst ComesFirst (ap (λ (e : Ending). e.cause) run) first)

first_said : (taps : List TapSeen) (said : Said) (files : FileMap) (ending : Ending) → RunsAs taps said files ending → ComesFirst ending.cause → ending.outputs ≡ []
first_said taps (asks asked) files ending run first = does_first taps asked.work files ending run first
first_said taps (usage index) files ending run first = ap (λ (e : Ending). e.outputs) run

-- an ending that comes before any output has none
pub no_outputs_first : (task : Task) (files : FileMap) (ending : Ending) → RunOf task files ending → ComesFirst ending.cause → ending.outputs ≡ []
no_outputs_first task files ending run first = first_said task.taps task.said files ending run first
