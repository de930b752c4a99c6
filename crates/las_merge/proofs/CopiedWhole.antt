-- Whole files that were merged by copying their chunks, or not.
use Rattle.std.proofs.Common.{◌≡◌, ◌≢◌, ◌⊎◌, inl, inr, ℕ, zero, suc, ◌+◌, ◌^◌, ◌<◌, ◌≤◌, Bool, true, false, sum, List}
use Rattle.std.proofs.Common.{[], ◌∷◌, length, map, take, Option, Some, sym, ◌∙◌}
use Rattle.std.proofs.Common.{ap, subst, arith}
use Rattle.std.specs.Prelude.{All, sum_by}
use Rattle.std.specs.List.{AllByRecursion}
use Rattle.std.proofs.lemmas.List.{length-map}
use Rattle.std.proofs.lemmas.List.Elements.{All-take}
use Rattle.las_header.specs.Fields.{is_packed}
use Rattle.las_header.specs.Vlrs.{laszip_vlrs_of}
use Rattle.las_outside.specs.Files.{FileMap, with_file}
use Rattle.las_outside.specs.Outside.{Outside}
use Rattle.laz_table.specs.Table.{table_bytes}
use Rattle.laz_forms.specs.declared.fault.Fault.{Fault}
use Rattle.laz_forms.specs.declared.fault.Fault.TheVariants as fault
use Rattle.laz_forms.specs.Packing.{packed_head}
use Rattle.laz_forms.specs.Pieces.{Piece}
use Rattle.laz_copied.specs.Copied.{Chunk, all_of, copied_file, points_of_files}
use Rattle.las_merge.specs.declared.fault.MergeFault.{MergeFault}
use Rattle.las_merge.specs.declared.fault.MergeFault.TheVariants.{At, Unequal, TooManyPoints, TooManyChunks, Write}
use Rattle.las_merge.specs.declared.fault.MergeFault.TheVariants.{Memory}
use Rattle.las_merge.specs.Appending.{IsCopyFault, PartLiesIn, SourceSeen}
use Rattle.las_merge.specs.Asking.{asked_of_all, asked_to_compare, asked_with_chunks}
use Rattle.las_merge.specs.Listing.{IsListed, IsPackedInput, ListedInput, ListsChunks, all_pieces, chunks_source}
use Rattle.las_merge.specs.Opening.{AreOpen, InputSeen, IsOpen, first_read, input_names, points_read}
use Rattle.las_merge.specs.Packed.{AreFirstPacked, CanCopyFrom, IsKeptFromCopying, IsNoFault, IsPacked, asked_to_copy}
use Rattle.las_merge.specs.Summing.{copied_text, summed_head}
use Rattle.las_merge.proofs.AskedToCopy.{copied_bytes}
use Rattle.las_merge.proofs.Ends.{AreOther, first_take, take_length}
use Rattle.las_merge.proofs.Known.{file_length, first_by, name_length, read_points}
use Rattle.las_merge.proofs.Listed.{IsRead, asked_all, files_in, have_all, length_all, lie_all, list_packed, packed_all}
use Rattle.las_merge.proofs.Listed.{parts_of, read_all, text_by}
use Rattle.las_merge.proofs.Whole.{names_are}
use Rattle.laz_file.specs.Copying.{LeavesPrefix}

-- ---- faults
pub copy_is_fault : (P : ℕ → Type 0) (old new : Outside) (f : MergeFault) → IsCopyFault P old new f → IsNoFault f → ⊥
copy_is_fault P old new (At number (fault.Refused cause)) h kind = h
copy_is_fault P old new (At number fault.Read) h kind = kind
copy_is_fault P old new (At number fault.Write) h kind = h
copy_is_fault P old new (At number fault.Memory) h kind = h
copy_is_fault P old new (Unequal number field) h kind = h
copy_is_fault P old new TooManyPoints h kind = h
copy_is_fault P old new TooManyChunks h kind = h
copy_is_fault P old new Write h kind = kind
copy_is_fault P old new Memory h kind = h

pub copy_within : (P : ℕ → Type 0) (old new : Outside) (number : ℕ) (cause : Fault)
    → IsCopyFault P old new (At number cause) → P number
copy_within P old new number (fault.Refused cause) h = absurd h
copy_within P old new number fault.Read h = h.0
copy_within P old new number fault.Write h = absurd h
copy_within P old new number fault.Memory h = absurd h

-- ---- inputs that were listed
first_packed_by : (inputs : List InputSeen) → 1 ≤ length inputs → All IsPackedInput inputs
    → is_packed (first_read inputs) ≡ true
first_packed_by [] some packed = absurd (omega (arith, some))
first_packed_by (i ∷ is) some packed = packed 0 i (omega arith)

first_one : (held : Option FileMap) (inputs : List InputSeen) → 1 ≤ length inputs → All IsPackedInput inputs
    → All (IsOpen held) inputs → length (laszip_vlrs_of (first_read inputs)) ≡ 1
first_one held [] some packed opened = absurd (omega (arith, some))
first_one held (i ∷ is) some packed opened = (opened 0 i (omega arith)).one (packed 0 i (omega arith))

other_sources : (listed : List ListedInput) (name : List ℕ) → AreOther (input_names (map (λ l. l.input) listed)) name
    → All (λ s. s.name ≢ name) (map chunks_source listed)
other_sources [] name other k d lt = absurd (omega (arith, lt))
other_sources (l ∷ ls) name other zero d lt = other 0 [] (omega arith)
other_sources (l ∷ ls) name other (suc k) d lt = other_sources ls name
    (λ i e less. other (suc i) e (omega (arith, less))) k d (omega (arith, lt))

module _ (held : Option FileMap) (names : List (List ℕ)) (inputs : List InputSeen) (sources : List SourceSeen)
    (many : Bool) (counts sizes : List ℕ) (asked : ℕ) (opened : AreOpen held names inputs)
    (lists : ListsChunks held inputs sources many counts sizes asked)
    (all : length inputs ≡ length names) (some : 1 ≤ length names) where
  packed : All IsPackedInput inputs
  packed = list_packed held inputs sources many counts sizes asked lists

  pub head_packed : is_packed (first_read inputs) ≡ true
  head_packed = first_packed_by inputs (omega (arith, all, some)) packed

  pub head_one : length (laszip_vlrs_of (first_read inputs)) ≡ 1
  head_one = first_one held inputs (omega (arith, all, some)) packed opened.opened

  pub sources_other : (name : List ℕ) → AreOther names name → All (λ s. s.name ≢ name) sources
  sources_other name other =
      subst (λ (ss : List SourceSeen). All (λ s. s.name ≢ name) ss) (sym lists.sources_are)
      (other_sources lists.listed name (subst (λ (ns : List (List ℕ)). AreOther ns name)
      (sym (ap input_names (sym lists.inputs_are) ∙ names_are held names inputs opened all)) other))

  pub sources_lie : All (PartLiesIn held) sources
  sources_lie =
      subst (λ (ss : List SourceSeen). All (PartLiesIn held) ss) (sym lists.sources_are)
      (lie_all held lists.listed (subst (λ (is : List InputSeen). All (IsOpen held) is) lists.inputs_are opened.opened)
      lists.each)

  long : length lists.listed ≡ length names
  long = sym (length-map lists.listed (λ (l : ListedInput). l.input))
      ∙ sym (ap (λ (is : List InputSeen). length is) lists.inputs_are) ∙ all

  pub sources_long : length sources ≡ length names
  sources_long = ap (λ (ss : List SourceSeen). length ss) lists.sources_are ∙ length-map lists.listed chunks_source ∙ long

  -- ---- their files, if these are known
  module _ (known : FileMap) (is : held ≡ Some known) where
    abbrev listed : List ListedInput
    listed = lists.listed

    abbrev pub files : List (List ℕ)
    files = files_in known lists.listed

    abbrev pub parts : List (List Chunk)
    parts = parts_of known lists.listed

    here : AreOpen (Some known) names (map (λ l. l.input) lists.listed)
    here = subst (λ (is : List InputSeen). AreOpen (Some known) names is) lists.inputs_are
        (subst (λ (h : Option FileMap). AreOpen h names inputs) is opened)

    each : All (IsListed (Some known)) lists.listed
    each = subst (λ (h : Option FileMap). All (IsListed h) lists.listed) is lists.each

    read : AllByRecursion (IsRead known) lists.listed
    read = read_all known lists.listed here.opened each

    pub first_files : AreFirstPacked known names files
    first_files = record {
      first = first_by known names (map (λ l. l.input) lists.listed) here;
      packed = packed_all known lists.listed read;
    }

    pub all_files : length files ≡ length names
    all_files =
        let list = map (λ (l : ListedInput). l.input) lists.listed in
        file_length known (input_names list) ∙ name_length known list
        ∙ length-map lists.listed (λ (l : ListedInput). l.input) ∙ long

    points_same : points_of_files files ≡ points_read inputs
    points_same = read_points known (map (λ l. l.input) lists.listed) here.opened
        ∙ sym (ap points_read lists.inputs_are)

    pub many_points : 2 ^ 32 ≤ points_read inputs → IsKeptFromCopying known names TooManyPoints
    many_points h = (files, first_files, all_files, omega (arith, h, points_same))

    pub many_chunks : points_read inputs < 2 ^ 32 → many ≡ true → IsKeptFromCopying known names TooManyChunks
    many_chunks few e = (
      files,
      parts,
      first_files,
      all_files,
      omega (arith, few, points_same),
      have_all known
          lists.listed read,
      omega (arith, lists.many_are e, length_all known lists.listed),
    )

    pub can_copy : points_read inputs < 2 ^ 32 → many ≡ false → CanCopyFrom known names files parts
    can_copy few e = record {
      first = first_files;
      all = all_files;
      few = omega (arith, few, points_same);
      have = have_all known lists.listed read;
      chunks = omega (
        arith,
        lists.few,
        length_all known lists.listed,
        ap length (lists.points_are e),
        length-map
            (all_pieces lists.listed) (λ (p : Piece). p.count),
      );
    }

    pub asked_few : asked + sum_by (λ s. s.size) sources ≤ asked_to_copy files parts
    asked_few =
        let size : SourceSeen → ℕ = λ s. s.size in
        omega (arith, lists.once, ap (sum_by size) lists.sources_are, asked_all known lists.listed read)

    pub asked_whole : sum_by (λ s. s.size) sources + asked_of_all asked_to_compare known names ≤ asked_of_all asked_with_chunks known names
    asked_whole =
        let size : SourceSeen → ℕ = λ s. s.size in
        let same : input_names (map (λ l. l.input) lists.listed) ≡ names = ap input_names (sym lists.inputs_are) ∙ names_are held names inputs opened all in
        omega (
          arith,
          copied_bytes known lists.listed here.opened read,
          ap (sum_by size) lists.sources_are,
          ap (asked_of_all asked_to_compare known) same,
          ap (asked_of_all asked_with_chunks known) same,
        )

    pub text_is : (head table : List ℕ) (place : ℕ) → many ≡ false → head ≡ packed_head (summed_head inputs) 4294967295
        → place ≡ length head + 8 + sum sizes → table ≡ table_bytes counts sizes
        → copied_text held head place sources table ≡ copied_file files (all_of parts)
    text_is head table place e head_is place_is table_is =
        let same : head ≡ packed_head (summed_head (map (λ l. l.input) lists.listed)) 4294967295 = head_is
        ∙ ap (λ (is : List InputSeen). packed_head (summed_head is) 4294967295) lists.inputs_are in
        let there : place ≡ length (packed_head (summed_head (map (λ l. l.input) lists.listed)) 4294967295) + 8 + sum
        sizes = place_is ∙ ap (λ (h : List ℕ). length h + 8 + sum sizes) same in
        (λ i. copied_text (is i) (same i) place (lists.sources_are i) (table_is i))
        ∙ text_by known lists.listed place counts sizes read here.opened (omega (arith, long, some))
        (lists.points_are e) (lists.bytes_are e) there

-- ---- the first of inputs that can be copied
pub before_copied : (known : FileMap) (names files : List (List ℕ)) (parts : List (List Chunk)) (number : ℕ)
    → CanCopyFrom known names files parts → number < length names
    → (before : List (List ℕ)) × AreFirstPacked known names before × (length before ≡ number)
before_copied known names files parts number can within =
    let few : number ≤ length files = omega (arith, within, can.all) in (
      take number files,
      record {
        first = first_take known names number files few can.first.first;
        packed = All-take IsPacked number files can.first.packed;
      },
      take_length number files few,
    )

-- what is left of the output is a prefix of the copied file
pub left_by : (held mid new : Option FileMap) (known : FileMap) (names files : List (List ℕ))
    (parts : List (List Chunk)) (name text : List ℕ) → mid ≡ held → CanCopyFrom known names files parts
    → text ≡ copied_file files (all_of parts) → LeavesPrefix mid new name text
    → (new ≡ held) ⊎ ((merged : List (List ℕ)) × (parts : List (List Chunk)) × CanCopyFrom known names merged parts
    × ((n : ℕ) × (new ≡ with_file held name (take n (copied_file merged (all_of parts))))))
left_by held mid new known names merged chunks name text same can whole (inl before) = inl (before ∙ same)
left_by held mid new known names merged chunks name text same can whole (inr left) =
    inr (merged, chunks, can, (left.0, left.1 ∙ (λ i. with_file (same i) name (take left.0 (whole i)))))
