-- Something comes of a merge: a cause that keeps inputs from being merged or copied, or records and chunks.
use Rattle.std.proofs.Common.{◌≡◌, ◌⊎◌, inl, inr, ℕ, zero, suc, ◌+◌, ◌<◌, ◌≤◌, ◌^◌, Bool, true, false, List, [], ◌∷◌, ◌++◌, length, map, Option, Some, None, refl, sym, ◌∙◌, ap, subst, length-append, arith}
use Rattle.std.specs.Prelude.{All}
use Rattle.std.specs.FinMap as finmap
use Rattle.std.specs.List.{concat}
use Rattle.std.proofs.lemmas.Bool.{cases_lt}
use Rattle.std.proofs.lemmas.List.{get_or_append_left, get_or_default, get_or_push}
use Rattle.std.proofs.lemmas.List.Elements.{All-nil, All-push}
use Rattle.las_header.specs.declared.refusal.Refusal.{Refusal}
use Rattle.las_header.specs.declared.refusal.Refusal.TheVariants.{NotPacked}
use Rattle.las_header.specs.Fields.{head_of, is_packed}
use Rattle.las_outside.specs.Files.{FileMap}
use Rattle.laz_range.specs.Span.{IsBytes}
use Rattle.laz_table.specs.declared.limits.TheConstants.{MAX_CHUNKS}
use Rattle.laz_copied.specs.Copied.{Chunk, HaveChunks, all_of, chunk_at, first_head, points_of_files}
use Rattle.laz_forms.specs.declared.fault.Fault.TheVariants as fault
use Rattle.laz_forms.specs.Existing.{HasAnAnswer, HasPieces, HasSomeRecords}
use Rattle.laz_forms.specs.Records.{AreRecordsOf}
use Rattle.laz_forms.specs.Refusing.{IsAcceptedFile, IsRefusal}
use Rattle.las_merge.specs.declared.field.Field.{Field}
use Rattle.las_merge.specs.declared.fault.MergeFault.{MergeFault}
use Rattle.las_merge.specs.declared.fault.MergeFault.TheVariants.{At, Unequal, TooManyPoints, TooManyChunks}
use Rattle.las_merge.specs.Existing.{AreKeptOrCopied, AreKeptOrMerged, HoldBytes, MergesToSomething}
use Rattle.las_merge.specs.Fields.{first_difference}
use Rattle.las_merge.specs.Inputs.{AreFirstInputs, CanMerge, IsKeptBy, Reaches, item_at}
use Rattle.las_merge.specs.Merging.{BadPlace, HasRecords, MergesTo}
use Rattle.las_merge.specs.Packed.{AreFirstPacked, CanCopyFrom, IsKeptFromCopying, IsPacked, ReachesPacked}
use Rattle.las_merge.proofs.Opened.{no_difference}

-- ---- one input more

abbrev LikeFirst : (files : List (List ℕ)) → (file : List ℕ) → Type 0
LikeFirst files file = first_difference (first_head files) (head_of file) ≡ None

alike_more : (files : List (List ℕ)) (file : List ℕ) → All (LikeFirst files) files → (1 ≤ length files → LikeFirst files file) → All (LikeFirst (files ++ file ∷ [])) (files ++ file ∷ [])
alike_more [] file all here = All-push (LikeFirst (file ∷ [])) [] file (All-nil (LikeFirst (file ∷ []))) (no_difference (head_of file))
alike_more (x ∷ xs) file all here = All-push (LikeFirst (x ∷ xs)) (x ∷ xs) file all (here (omega arith))

module _ (known : FileMap) (names : List (List ℕ)) where
  one_more : (files : List (List ℕ)) (file : List ℕ) → AreFirstInputs known names files → length files < length names → finmap.get known (item_at names (length files)) ≡ Some file → IsAcceptedFile file → (1 ≤ length files → LikeFirst files file) → AreFirstInputs known names (files ++ file ∷ [])
  one_more files file f within held accepted alike =
      let long : length (files ++ file ∷ []) ≡ length files + 1 = omega (arith, length-append files (file ∷ [])) in
      record {
        within = omega (arith, long, within);
        held = λ k lt. elim (cases_lt k (length files)) [
          | inl below ↦ f.held k below ∙ ap (λ (x : List ℕ). Some x) (sym (get_or_append_left files (file ∷ []) [] k below))
          | inr at ↦
              let last : length files ≡ k = omega (arith, at, lt, long) in
              subst (λ (n : ℕ). finmap.get known (item_at names n) ≡ Some file) last held ∙ ap (λ (x : List ℕ). Some x) (sym (get_or_push files file [] k last))
        ];
        accepted = All-push IsAcceptedFile files file f.accepted accepted;
        alike = alike_more files file f.alike alike;
      }

  no_files : AreFirstInputs known names []
  no_files = record { within = omega arith; held = λ k lt. absurd (omega (arith, lt)); accepted = All-nil IsAcceptedFile; alike = All-nil (LikeFirst []) }

  -- ---- inputs that are to be merged

  abbrev Kept : Type 0
  Kept = ((cause : MergeFault) × IsKeptBy known names cause) ⊎ ((files : List (List ℕ)) × AreFirstInputs known names files × (length files ≡ length names))

  -- after these files comes one input more, and then others
  module _ (answers : HasAnAnswer) (n : ℕ) (rest : (files : List (List ℕ)) → length files + n ≡ length names → AreFirstInputs known names files → Kept)
      (files : List (List ℕ)) (end : length files + suc n ≡ length names) (f : AreFirstInputs known names files) where
    reaches : Reaches known names (length files) files
    reaches = record { first = f; number_is = refl; within = omega (arith, end) }

    goes_on : (file : List ℕ) → finmap.get known (item_at names (length files)) ≡ Some file → IsAcceptedFile file → (1 ≤ length files → LikeFirst files file) → Kept
    goes_on file held accepted alike = rest (files ++ file ∷ []) (omega (arith, end, length-append files (file ∷ []))) (one_more files file f (omega (arith, end)) held accepted alike)

    compared : (file : List ℕ) → finmap.get known (item_at names (length files)) ≡ Some file → IsAcceptedFile file → (d : Option Field) → first_difference (first_head files) (head_of file) ≡ d → Kept
    compared file held accepted None same = goes_on file held accepted (λ some. same)
    compared file held accepted (Some field) differs = elim (cases_lt 0 (length files)) [
      | inl some ↦ inl (Unequal (length files) field, (files, file, reaches, omega (arith, some), held, accepted, differs))
      | inr none ↦ goes_on file held accepted (λ some. absurd (omega (arith, some, none)))
    ]

    opened : (file : List ℕ) → finmap.get known (item_at names (length files)) ≡ Some file → (answer : Option Refusal) → IsRefusal file answer → Kept
    opened file held (Some cause) is = inl (At (length files) (fault.Refused cause), (files, file, reaches, held, is))
    opened file held None is = compared file held is (first_difference (first_head files) (head_of file)) refl

    looked_up : (o : Option (List ℕ)) → finmap.get known (item_at names (length files)) ≡ o → Kept
    looked_up None missing = inl (At (length files) fault.Read, (files, reaches, missing))
    looked_up (Some file) held = let a = answers file in opened file held a.0 a.1

    one_input : Kept
    one_input = looked_up (finmap.get known (item_at names (length files))) refl

  kept_or_all : HasAnAnswer → (n : ℕ) (files : List (List ℕ)) → length files + n ≡ length names → AreFirstInputs known names files → Kept
  kept_or_all answers zero files end f = inr (files, f, omega (arith, end))
  kept_or_all answers (suc n) files end f = one_input answers n (kept_or_all answers n) files end f

  merged_or : Kept → ((cause : MergeFault) × IsKeptBy known names cause) ⊎ ((files : List (List ℕ)) × CanMerge known names files)
  merged_or (inl kept) = inl kept
  merged_or (inr all) = elim (cases_lt (points_of_files all.0) (2 ^ 32)) [
    | inl few ↦ inr (all.0, record { first = all.1; all = all.2; few = few })
    | inr many ↦ inl (TooManyPoints, (all.0, all.1, all.2, many))
  ]

pub are_kept_or_merged : HasAnAnswer → AreKeptOrMerged
are_kept_or_merged answers known names = let k = kept_or_all known names answers (length names) [] (omega arith) (no_files known names) in merged_or known names k

-- ---- the records of files

merges_more : (file : List ℕ) (files : List (List ℕ)) (part : List ℕ) → HasRecords file part → (records : List ℕ) (bad : Option BadPlace) → MergesTo files records bad → (all : List ℕ) × (first : Option BadPlace) × MergesTo (file ∷ files) all first
merges_more file files part has records None m = (concat (part ∷ m.0), None, (part ∷ m.0, (has, m.1), refl))
merges_more file files part has records (Some place) m = (
  concat (part ∷ m.parts) ++ concat m.blocks,
  Some (record { file = suc place.file; chunk = place.chunk }),
  record { parts = part ∷ m.parts; blocks = m.blocks; within = omega (arith, m.within); earlier = (has, m.earlier); bad = m.bad; records_are = refl },
)

merge_or : (file : List ℕ) (files : List (List ℕ)) → ((records : List ℕ) × (bad : Option BadPlace) × MergesTo files records bad) → (blocks : List (List ℕ)) (bad : Option ℕ) → AreRecordsOf file blocks bad
    → ((records : List ℕ) × (bad : Option BadPlace) × MergesTo (file ∷ files) records bad)
merge_or file files rest blocks None are = let m = rest in merges_more file files (concat blocks) (blocks, are, refl) m.0 m.1 m.2
merge_or file files rest blocks (Some i) are =
    (concat blocks, Some (record { file = 0; chunk = i }), record { parts = []; blocks = blocks; within = omega arith; earlier = tt; bad = are; records_are = refl })

pub merges_to_something : HasSomeRecords → MergesToSomething
merges_to_something has [] accepted = ([], None, ([], tt, refl))
merges_to_something has (file ∷ files) accepted =
    let r = has file (accepted 0 [] (omega arith)) in merge_or file files (merges_to_something has files (λ k d lt. accepted (suc k) d (omega (arith, lt)))) r.0 r.1 r.2

-- ---- inputs whose chunks are to be copied

module _ (known : FileMap) (names : List (List ℕ)) where
  abbrev KeptPacked : Type 0
  KeptPacked = ((cause : MergeFault) × IsKeptFromCopying known names cause) ⊎ ((files : List (List ℕ)) × AreFirstPacked known names files × (length files ≡ length names))

  module _ (answers : HasAnAnswer) (n : ℕ) (rest : (files : List (List ℕ)) → length files + n ≡ length names → AreFirstPacked known names files → KeptPacked)
      (files : List (List ℕ)) (end : length files + suc n ≡ length names) (f : AreFirstPacked known names files) where
    packed_so_far : ReachesPacked known names (length files) files
    packed_so_far = record { first = f; number_is = refl; within = omega (arith, end) }

    copy_goes_on : (file : List ℕ) → finmap.get known (item_at names (length files)) ≡ Some file → IsAcceptedFile file → IsPacked file → (1 ≤ length files → LikeFirst files file) → KeptPacked
    copy_goes_on file held accepted packed alike =
        rest (files ++ file ∷ []) (omega (arith, end, length-append files (file ∷ [])))
        (record { first = one_more known names files file f.first (omega (arith, end)) held accepted alike; packed = All-push IsPacked files file f.packed packed })

    copy_compared : (file : List ℕ) → finmap.get known (item_at names (length files)) ≡ Some file → IsAcceptedFile file → IsPacked file → (d : Option Field) → first_difference (first_head files) (head_of file) ≡ d → KeptPacked
    copy_compared file held accepted packed None same = copy_goes_on file held accepted packed (λ some. same)
    copy_compared file held accepted packed (Some field) differs = elim (cases_lt 0 (length files)) [
      | inl some ↦ inl (Unequal (length files) field, (files, file, packed_so_far, omega (arith, some), held, accepted, packed, differs))
      | inr none ↦ copy_goes_on file held accepted packed (λ some. absurd (omega (arith, some, none)))
    ]

    copy_by_form : (file : List ℕ) → finmap.get known (item_at names (length files)) ≡ Some file → IsAcceptedFile file → (packed : Bool) → is_packed (head_of file) ≡ packed → KeptPacked
    copy_by_form file held accepted true packed = copy_compared file held accepted packed (first_difference (first_head files) (head_of file)) refl
    copy_by_form file held accepted false plain = inl (At (length files) (fault.Refused NotPacked), (files, file, packed_so_far, held, inl (refl, accepted, plain)))

    copy_opened : (file : List ℕ) → finmap.get known (item_at names (length files)) ≡ Some file → (answer : Option Refusal) → IsRefusal file answer → KeptPacked
    copy_opened file held (Some cause) is = inl (At (length files) (fault.Refused cause), (files, file, packed_so_far, held, inr is))
    copy_opened file held None is = copy_by_form file held is (is_packed (head_of file)) refl

    copy_looked_up : (o : Option (List ℕ)) → finmap.get known (item_at names (length files)) ≡ o → KeptPacked
    copy_looked_up None missing = inl (At (length files) fault.Read, (files, packed_so_far, missing))
    copy_looked_up (Some file) held = let a = answers file in copy_opened file held a.0 a.1

    one_packed_input : KeptPacked
    one_packed_input = copy_looked_up (finmap.get known (item_at names (length files))) refl

  kept_or_all_packed : HasAnAnswer → (n : ℕ) (files : List (List ℕ)) → length files + n ≡ length names → AreFirstPacked known names files → KeptPacked
  kept_or_all_packed answers zero files end f = inr (files, f, omega (arith, end))
  kept_or_all_packed answers (suc n) files end f = one_packed_input answers n (kept_or_all_packed answers n) files end f

chunks_there : HasPieces → (files : List (List ℕ)) → All IsAcceptedFile files → ((parts : List (List Chunk)) × HaveChunks files parts)
chunks_there has [] accepted = ([], tt)
chunks_there has (file ∷ files) accepted =
    let p = has file (accepted 0 [] (omega arith)) in (let r = chunks_there has files (λ k d lt. accepted (suc k) d (omega (arith, lt))) in (map (chunk_at file) p.0 ∷ r.0, ((p.0, p.1, refl), r.1)))

-- the first inputs hold bytes
pub bytes_of_first : (known : FileMap) (names files : List (List ℕ)) → HoldBytes known → AreFirstInputs known names files → All IsBytes files
bytes_of_first known names files hold f k d lt = subst IsBytes (get_or_default files k [] d lt) (hold (item_at names k) (item_at files k) (f.held k lt))

module _ (has : HasPieces) (known : FileMap) (names : List (List ℕ)) where
  abbrev Copied : Type 0
  Copied = ((cause : MergeFault) × IsKeptFromCopying known names cause) ⊎ ((files : List (List ℕ)) × (parts : List (List Chunk)) × CanCopyFrom known names files parts)

  copied_if : (files : List (List ℕ)) (parts : List (List Chunk)) → AreFirstPacked known names files → length files ≡ length names → points_of_files files < 2 ^ 32 → HaveChunks files parts → Copied
  copied_if files parts f all few have = elim (cases_lt MAX_CHUNKS (length (all_of parts))) [
    | inl many ↦ inl (TooManyChunks, (files, parts, f, all, few, have, many))
    | inr chunks ↦ inr (files, parts, record { first = f; all = all; few = few; have = have; chunks = chunks })
  ]

  copied_or : KeptPacked known names → Copied
  copied_or (inl kept) = inl kept
  copied_or (inr all) = elim (cases_lt (points_of_files all.0) (2 ^ 32)) [
    | inl few ↦ let c = chunks_there has all.0 all.1.first.accepted in copied_if all.0 c.0 all.1 all.2 few c.1
    | inr many ↦ inl (TooManyPoints, (all.0, all.1, all.2, many))
  ]

pub are_kept_or_copied : HasAnAnswer → HasPieces → AreKeptOrCopied
are_kept_or_copied answers has known names =
    copied_or has known names (kept_or_all_packed known names answers (length names) [] (omega arith) (record { first = no_files known names; packed = All-nil IsPacked }))
