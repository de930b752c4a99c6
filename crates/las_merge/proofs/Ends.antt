-- How merging ends, if the files are known.
use Rattle.std.proofs.Common.{◌≡◌, ◌≢◌, inl, inr, ℕ, zero, suc, ◌^◌, ◌<◌, ◌≤◌, List, [], ◌∷◌, ◌++◌, length, take, Option, Some, None, refl, sym, ◌∙◌, ap, subst, arith}
use Rattle.std.specs.Prelude.{All}
use Rattle.std.specs.FinMap as finmap
use Rattle.std.proofs.lemmas.List.{get_or-take}
use Rattle.std.proofs.lemmas.List.Elements.{All-take}
use Rattle.las_header.specs.declared.refusal.Refusal.{Refusal}
use Rattle.las_header.specs.declared.refusal.Refusal.TheVariants.{BadChunk}
use Rattle.las_header.specs.Fields.{head_of}
use Rattle.las_outside.specs.Files.{FileMap, WhereKnown, with_file}
use Rattle.laz_forms.specs.declared.fault.Fault.TheVariants as fault
use Rattle.laz_file.specs.Copying.{LeavesUnfinished}
use Rattle.laz_forms.specs.Outputs.{Output}
use Rattle.laz_forms.specs.Refusing.{IsAcceptedFile, IsRefusal}
use Rattle.laz_file.proofs.Public.{known_before}
use Rattle.las_merge.specs.declared.field.Field.{Field}
use Rattle.las_merge.specs.declared.fault.MergeFault.TheVariants.{At, Unequal, TooManyPoints}
use Rattle.las_merge.specs.Copying.{AreCopied, BeginsWith, CopiesAll, CopiesInto, CopiesTo, LeavesMid, OnlyRecords}
use Rattle.las_merge.specs.Fields.{first_difference}
use Rattle.laz_copied.specs.Copied.{first_head}
use Rattle.las_merge.specs.Inputs.{AreFirstInputs, CanMerge, IsKeptBy, Reaches, item_at}
use Rattle.las_merge.specs.Merging.{LeavesMerged, OnlyMerges}
use Rattle.las_merge.specs.Opening.{AreOpen, InputSeen, IsItsFile, IsOpen, OpensTo, first_read, input_names, points_read}
use Rattle.las_merge.proofs.Known.{file_at, file_length, file_of, files_of, first_by, held_at, name_length, only_by, read_first, read_head, read_points}
use Rattle.las_merge.proofs.Merges.{merges_begin, only_all, only_bad}

-- ---- opened inputs

module _ (known : FileMap) (names : List (List ℕ)) where
  abbrev read_files : List InputSeen → List (List ℕ)
  read_files readers = files_of known (input_names readers)

  count_files : (readers : List InputSeen) → length (read_files readers) ≡ length readers
  count_files readers = file_length known (input_names readers) ∙ name_length known readers

  reaches_by : (number : ℕ) (readers : List InputSeen) → OpensTo (Some known) names number readers → Reaches known names number (read_files readers)
  reaches_by number readers o = record { first = first_by known names readers o.opened; number_is = count_files readers ∙ o.number_is; within = o.within }

  refused_at : (number : ℕ) (cause : Refusal) (readers : List InputSeen) → OpensTo (Some known) names number readers → WhereKnown (Some known) (item_at names number) (λ file. IsRefusal file (Some cause)) → IsKeptBy known names (At number (fault.Refused cause))
  refused_at number cause readers o k =
      let h = held_at known (item_at names number) (λ file. IsRefusal file (Some cause)) k in
      (read_files readers, file_of known (item_at names number), reaches_by number readers o, h.0, h.1)

  unequal_at : (number : ℕ) (field : Field) (readers : List InputSeen) (reader : InputSeen) → OpensTo (Some known) names number readers → 1 ≤ number → reader.name ≡ item_at names number → IsOpen (Some known) reader → first_difference (first_read readers) reader.head.bytes ≡ Some field
      → IsKeptBy known names (Unequal number field)
  unequal_at number field readers reader o some named open_one differs =
      let h = held_at known reader.name (IsItsFile reader) open_one.stands in (
        read_files readers,
        file_of known reader.name,
        reaches_by number readers o,
        some,
        ap (λ (n : List ℕ). finmap.get known n) (sym named) ∙ h.0,
        h.1.accepted,
        ap (λ (first : List ℕ). first_difference first (head_of (file_of known reader.name))) (sym (read_first known readers o.opened.opened (omega (arith, some, o.number_is))))
            ∙ ap (λ (head : List ℕ). first_difference (first_read readers) head) (sym (read_head known reader open_one))
            ∙ differs,
      )

  many_at : (readers : List InputSeen) → AreOpen (Some known) names readers → length readers ≡ length names → 2 ^ 32 ≤ points_read readers → IsKeptBy known names TooManyPoints
  many_at readers o all many = (read_files readers, first_by known names readers o, count_files readers ∙ all, omega (arith, many, read_points known readers o.opened))

  can_at : (readers : List InputSeen) → AreOpen (Some known) names readers → length readers ≡ length names → points_read readers < 2 ^ 32 → CanMerge known names (read_files readers)
  can_at readers o all few = record { first = first_by known names readers o; all = count_files readers ∙ all; few = omega (arith, few, read_points known readers o.opened) }

-- the same of files that are known to hold this
module _ (held : Option FileMap) (known : FileMap) (is : held ≡ Some known) (names : List (List ℕ)) where
  pub refused_by : (number : ℕ) (cause : Refusal) (readers : List InputSeen) → OpensTo held names number readers → WhereKnown held (item_at names number) (λ file. IsRefusal file (Some cause)) → IsKeptBy known names (At number (fault.Refused cause))
  refused_by number cause readers o k =
      refused_at known names number cause readers (subst (λ (h : Option FileMap). OpensTo h names number readers) is o) (subst (λ (h : Option FileMap). WhereKnown h (item_at names number) (λ file. IsRefusal file (Some cause))) is k)

  pub unequal_by : (number : ℕ) (field : Field) (readers : List InputSeen) (reader : InputSeen) → OpensTo held names number readers → 1 ≤ number → reader.name ≡ item_at names number → IsOpen held reader → first_difference (first_read readers) reader.head.bytes ≡ Some field
      → IsKeptBy known names (Unequal number field)
  unequal_by number field readers reader o some named open_one differs =
      unequal_at known names number field readers reader (subst (λ (h : Option FileMap). OpensTo h names number readers) is o) some named (subst (λ (h : Option FileMap). IsOpen h reader) is open_one) differs

  pub many_by : (readers : List InputSeen) → AreOpen held names readers → length readers ≡ length names → 2 ^ 32 ≤ points_read readers → IsKeptBy known names TooManyPoints
  many_by readers o all many = many_at known names readers (subst (λ (h : Option FileMap). AreOpen h names readers) is o) all many

  pub can_by : (readers : List InputSeen) → AreOpen held names readers → length readers ≡ length names → points_read readers < 2 ^ 32 → CanMerge known names (files_of known (input_names readers))
  can_by readers o all few = can_at known names readers (subst (λ (h : Option FileMap). AreOpen h names readers) is o) all few

  pub before_by : (number : ℕ) (readers : List InputSeen) → OpensTo held names number readers → (before : List (List ℕ)) × AreFirstInputs known names before × (length before ≡ number)
  before_by number readers o =
      let here = subst (λ (h : Option FileMap). OpensTo h names number readers) is o in
      (files_of known (input_names readers), first_by known names readers here.opened, count_files known names readers ∙ o.number_is)

  pub first_head_by : (readers : List InputSeen) → AreOpen held names readers → 1 ≤ length readers → first_read readers ≡ first_head (files_of known (input_names readers))
  first_head_by readers o some = read_first known readers (subst (λ (h : Option FileMap). AreOpen h names readers) is o).opened some

-- the first of inputs that can be merged
pub take_length : (n : ℕ) (xs : List (List ℕ)) → n ≤ length xs → length (take n xs) ≡ n
take_length zero xs few = refl
take_length (suc n) [] few = absurd (omega (arith, few))
take_length (suc n) (x ∷ xs) few = omega (arith, take_length n xs (omega (arith, few)))

pub first_take : (known : FileMap) (names : List (List ℕ)) (n : ℕ) (files : List (List ℕ)) → n ≤ length files → AreFirstInputs known names files → AreFirstInputs known names (take n files)
first_take known names zero files few f = record { within = omega arith; held = λ k lt. absurd (omega (arith, lt)); accepted = λ k d lt. absurd (omega (arith, lt)); alike = λ k d lt. absurd (omega (arith, lt)) }
first_take known names (suc n) [] few f = absurd (omega (arith, few))
first_take known names (suc n) (x ∷ xs) few f =
    let long : length (take (suc n) (x ∷ xs)) ≡ suc n = take_length (suc n) (x ∷ xs) few in
    record {
      within = omega (arith, long, few, f.within);
      held = λ k lt. f.held k (omega (arith, lt, long, few)) ∙ ap (λ (file : List ℕ). Some file) (sym (get_or-take (suc n) (x ∷ xs) k [] (omega (arith, lt, long))));
      accepted = All-take IsAcceptedFile (suc n) (x ∷ xs) f.accepted;
      alike = All-take (λ (file : List ℕ). first_difference (first_head (x ∷ xs)) (head_of file) ≡ None) (suc n) (x ∷ xs) f.alike;
    }

pub first_before : (known : FileMap) (names files : List (List ℕ)) (number : ℕ) → CanMerge known names files → number < length names → (before : List (List ℕ)) × AreFirstInputs known names before × (length before ≡ number)
first_before known names files number can within =
    (take number files, first_take known names number files (omega (arith, within, can.all)) can.first, take_length number files (omega (arith, within, can.all)))

-- ---- while the output is written

abbrev pub AreOther : (names : List (List ℕ)) (name : List ℕ) → Type 0
AreOther names name = All (λ n. n ≢ name) names

module _ (was : Option FileMap) (name text : List ℕ) where
  pub to_before : (n part : List ℕ) (end : Option Refusal) → n ≢ name → CopiesTo (with_file was name text) n part end → CopiesTo was n part end
  to_before n part None ne k = known_before was name text n (λ file. OnlyRecords file part None) ne k
  to_before n part (Some cause) ne k = (k.0, k.1, known_before was name text n (λ file. OnlyRecords file part (Some k.0)) ne k.2)

  copied_before : (names parts : List (List ℕ)) → AreOther names name → AreCopied (with_file was name text) names parts → AreCopied was names parts
  copied_before names [] other all = tt
  copied_before [] (p ∷ ps) other all = absurd all
  copied_before (n ∷ ns) (p ∷ ps) other all = (to_before n p None (other 0 [] (omega arith)) all.0, copied_before ns ps (λ k d lt. other (suc k) d (omega (arith, lt))) all.1)

  pub into_before : (names : List (List ℕ)) (number : ℕ) (records : List ℕ) (P Q : (n part : List ℕ) → Type 0) → AreOther names name → ((n part : List ℕ) → n ≢ name → P n part → Q n part) → CopiesInto (with_file was name text) names number records P → CopiesInto was names number records Q
  into_before names number records P Q other to d = record {
    parts = d.parts;
    part = d.part;
    copied = copied_before names d.parts other d.copied;
    number_is = d.number_is;
    within = d.within;
    here = to (item_at names number) d.part (other number [] d.within) d.here;
    records_are = d.records_are;
  }

  pub all_before : (names : List (List ℕ)) (records : List ℕ) → AreOther names name → CopiesAll (with_file was name text) names records → CopiesAll was names records
  all_before names records other d = record { parts = d.parts; copied = copied_before names d.parts other d.copied; all = d.all; records_are = d.records_are }

  pub mid_before : (names : List (List ℕ)) (out : Output) (old now : Option FileMap) → AreOther names name → LeavesMid (with_file was name text) old now names out → LeavesMid was old now names out
  mid_before names out old now other (inl l) = inl (
    l.0,
    l.1,
    into_before names l.0 l.1 (λ n part. WhereKnown (with_file was name text) n (λ file. BeginsWith file part)) (λ n part. WhereKnown was n (λ file. BeginsWith file part)) other (λ n part ne k. known_before was name text n (λ file. BeginsWith file part) ne k) l.2,
    l.3,
  )
  mid_before names out old now other (inr l) = inr (l.0, all_before names l.0 other l.1, l.2)

-- ---- what was merged

module _ (known : FileMap) (names : List (List ℕ)) where
  pub merges_of : (records : List ℕ) → CopiesAll (Some known) names records → OnlyMerges (files_of known names) records None
  merges_of records d =
      subst (λ (t : List ℕ). OnlyMerges (files_of known names) t None) (sym d.records_are)
      (only_all (files_of known names) d.parts (only_by known names d.parts d.copied) (d.all ∙ sym (file_length known names)))

  pub bad_of : (number : ℕ) (records : List ℕ) (cause : Refusal) → CopiesInto (Some known) names number records (λ name part. CopiesTo (Some known) name part (Some cause))
      → (chunk : ℕ) × (cause ≡ BadChunk chunk) × OnlyMerges (files_of known names) records (Some (record { file = number; chunk = chunk }))
  bad_of number records cause d =
      let files = files_of known names in
      let chunk = d.here.0 in
      let here = (held_at known (item_at names number) (λ file. OnlyRecords file d.part (Some chunk)) d.here.2).1 in
      let there : OnlyRecords (item_at files (length d.parts)) d.part (Some chunk) =
      subst (λ (file : List ℕ). OnlyRecords file d.part (Some chunk)) (sym (file_at known names number d.within) ∙ ap (λ (k : ℕ). item_at files k) (sym d.number_is)) here in
      let only = only_bad files d.parts d.part chunk (only_by known names d.parts d.copied) (omega (arith, d.number_is, d.within, file_length known names)) there in (
        chunk,
        d.here.1,
        subst (λ (k : ℕ). OnlyMerges files records (Some (record { file = k; chunk = chunk }))) d.number_is
            (subst (λ (t : List ℕ). OnlyMerges files t (Some (record { file = length d.parts; chunk = chunk }))) (sym d.records_are) only),
      )

  pub leaves_of : (out : Output) (old now : Option FileMap) → LeavesMid (Some known) old now names out → LeavesMerged out (files_of known names) old now
  leaves_of out old now (inl l) records bad m =
      let files = files_of known names in
      let d = l.2 in
      let here = (held_at known (item_at names l.0) (λ file. BeginsWith file d.part) d.here).1 in
      let there : BeginsWith (item_at files (length d.parts)) d.part = subst (λ (file : List ℕ). BeginsWith file d.part) (sym (file_at known names l.0 d.within) ∙ ap (λ (k : ℕ). item_at files k) (sym d.number_is)) here in
      let b = merges_begin files d.parts d.part records bad (only_by known names d.parts d.copied) (omega (arith, d.number_is, d.within, file_length known names)) there m in
      subst (λ (t : List ℕ). LeavesUnfinished out t old now) (ap (λ (t : List ℕ). t ++ b.0) d.records_are ∙ sym b.1) (l.3 b.0)
  leaves_of out old now (inr l) records bad m =
      subst (λ (t : List ℕ). LeavesUnfinished out t old now) (sym ((merges_of l.0 l.1).only records bad m).0) l.2
