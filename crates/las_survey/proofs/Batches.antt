-- Blocks whose records are shown to a survey.
use Rattle.std.proofs.Common.{◌≡◌, inl, inr, ℕ, ◌+◌, ◌/◌, ◌<◌, Option, Some, None, Result, Ok, Err, IfErr, OnOk, List}
use Rattle.std.proofs.Common.{[], ◌∷◌, ◌++◌, length, take, refl, sym, ◌∙◌, ap, subst, arith}
use Rattle.std.specs.List.{concat}
use Rattle.std.specs.Option.{option_map}
use Rattle.las_header.specs.Plain.{cut_records}
use Rattle.las_header.specs.Fields.{head_of, record_length_of}
use Rattle.las_info.specs.Surveys.{IsShown, SurveySeen}
use Rattle.las_info.specs.Tallies.{TapSeen}
use Rattle.las_outside.specs.Files.{FileMap, WhereKnown}
use Rattle.las_outside.specs.Frames.{IsCalm}
use Rattle.las_outside.specs.Outside.{Outside}
use Rattle.laz_forms.specs.declared.fault.Fault.{Fault}
use Rattle.laz_forms.specs.declared.fault.Fault.TheVariants.{Refused, Read, Write, Memory}
use Rattle.laz_reader.specs.Reading.{EndsReading, ReaderSeen, ReadsAll, StandsFor}
use Rattle.laz_forms.specs.Records.{HoldOnly, IsBadPiece}
use Rattle.laz_reader.specs.Turns.{MayCome}
use Rattle.laz_file.specs.Copying.{AreOnlyRecords, EndsAfter, HoldFirst}
use Rattle.laz_forms.specs.Outputs.{records_after}
use Rattle.laz_forms.proofs.Public.{known_both, known_then, known_three}
use Rattle.laz_writer.proofs.Public.{no_records}
use Rattle.laz_file.specs.Endings.{EndsMaking, IsOnlyProduct, LeavesOf, MakesAs}
use Rattle.laz_file.proofs.Public.{all_records, left_before, records_before, records_come, stands_ready}
use Rattle.las_header.specs.declared.refusal.Refusal.{Refusal}
use Rattle.las_header.specs.declared.refusal.Refusal.TheVariants.{BadChunk}
use Rattle.las_header.specs.Heads.{HeadView}
use Rattle.las_survey.specs.Surveying.{Surveys, surveyed}

-- the records that bytes are
abbrev pub cut : (size : ℕ) → List ℕ → List (List ℕ)
cut size bytes = cut_records size (length bytes / size) bytes

-- one block more
pub block_shown : (first : ReaderSeen) (size : ℕ) (xs : List (List ℕ)) (block : List ℕ) (taps : List TapSeen) (new : SurveySeen) → 0 < size → size ≡ record_length_of first.head.bytes → MayCome first (concat xs) block
    → IsShown taps (cut size (concat xs) ++ cut size block) new → IsShown taps (cut size (concat (xs ++ block ∷ []))) new
block_shown first size xs block taps new some is come seen =
    subst (λ (rs : List (List ℕ)). IsShown taps rs new) (sym (records_come first size xs block some is come)) seen

-- nothing was shown yet
pub none_read : (size : ℕ) (taps : List TapSeen) (survey : SurveySeen) → 0 < size → IsShown taps [] survey → IsShown taps (cut size []) survey
none_read size taps survey some is = subst (λ (rs : List (List ℕ)). IsShown taps rs survey) (sym (no_records size some)) is

-- ---- the whole file
-- a reader with a crew reads what it would have read without
all_ready : (first ready : ReaderSeen) (buffers : ℕ) → ready ≡ record first { buffers = buffers } → ReadsAll first → ReadsAll ready
all_ready first ready buffers is new =
    let with_crew : ReadsAll (record first { buffers = buffers }) = record { all = new.all; first = new.first } in
    subst ReadsAll (sym is) with_crew

pub all_shown : (held : Option FileMap) (first ready : ReaderSeen) (buffers : ℕ) (blocks : List (List ℕ)) (taps : List TapSeen) (survey : SurveySeen) → ReadsAll first → ready ≡ record first { buffers = buffers } → WhereKnown held first.name (StandsFor first)
    → HoldFirst held ready (length ready.left) blocks → IsShown taps (records_after ready.head.bytes (concat blocks)) survey
    → WhereKnown held first.name (λ file. (bs : List (List ℕ)) × AreOnlyRecords file bs None × IsShown taps (records_after (head_of file) (concat bs)) survey)
all_shown held first ready buffers blocks taps survey new is stands hold shown =
    let here = subst (λ (n : List ℕ). WhereKnown held n (λ file. HoldOnly file (take (length ready.left) ready.left) blocks)) (ap (λ (r : ReaderSeen). r.name) is) hold.hold in
    known_both held first.name (StandsFor first) (λ file. HoldOnly file (take (length ready.left) ready.left) blocks) (λ file. (bs : List (List ℕ)) × AreOnlyRecords file bs None × IsShown taps (records_after (head_of file) (concat bs)) survey)
    (λ file s h.
    let r = stands_ready first ready buffers file is s in
    let head : ready.head.bytes ≡ head_of file = ap (λ (v : HeadView). v.bytes) r.head in
    (blocks, all_records ready file r (all_ready first ready buffers is new) blocks h, subst (λ (b : List ℕ). IsShown taps (records_after b (concat blocks)) survey) head shown))
    stands here

pub bad_shown : (held : Option FileMap) (first ready : ReaderSeen) (buffers n : ℕ) (blocks : List (List ℕ)) (cause : Refusal) → ReadsAll first → ready ≡ record first { buffers = buffers } → WhereKnown held first.name (StandsFor first)
    → HoldFirst held ready n blocks → EndsAfter held ready n (Some cause)
    → (i : ℕ) × (cause ≡ BadChunk i)
    × WhereKnown held first.name (λ file. (bs : List (List ℕ)) × AreOnlyRecords file bs (Some i))
bad_shown held first ready buffers n blocks cause new is stands hold ends =
    let named : ready.name ≡ first.name = ap (λ (r : ReaderSeen). r.name) is in
    let starts = all_ready first ready buffers is new in
    let number : ready.next + n ≡ n = omega (arith, starts.first) in
    let here = subst (λ (m : List ℕ). WhereKnown held m (λ file. HoldOnly file (take n ready.left) blocks)) named hold.hold in
    let bad = subst (λ (m : List ℕ). WhereKnown held m (λ file. IsBadPiece file ready.left n)) named ends.2 in (
      n,
      ends.0 ∙ ap BadChunk number,
      known_three held first.name (StandsFor first) (λ file. HoldOnly file (take n ready.left) blocks)
          (λ file. IsBadPiece file ready.left n) (λ file. (bs : List (List ℕ)) × AreOnlyRecords file bs (Some n))
          (λ file s h b. (
            blocks,
            records_before ready file (stands_ready first ready buffers file is s) starts n blocks
                h b,
          )) stands here bad,
    )

-- ---- how a survey ends
only_survey : (file : List ℕ) (blocks : List (List ℕ)) (bad : Option ℕ) → AreOnlyRecords file blocks bad
    → IsOnlyProduct (Surveys file) (surveyed bad)
only_survey file blocks bad are = record {
  makes = (blocks, bad, are.are, refl);
  only = λ other makes. makes.3 ∙ ap surveyed (are.only makes.0 makes.1 makes.2).1;
}

module _ (name : List ℕ) (P : List ℕ → Type 0) (old new : Outside) (stands : WhereKnown old.held name P) (same : new.held ≡ old.held) where
  abbrev HasRecords : (bad : Option ℕ) → (file : List ℕ) → Type 0
  HasRecords bad file = (blocks : List (List ℕ)) × AreOnlyRecords file blocks bad

  made : (bad : Option ℕ) → WhereKnown old.held name (HasRecords bad)
      → MakesAs Surveys name old new (option_map BadChunk bad)
  made bad has = known_then old.held name (HasRecords bad) _
      (λ file h. (surveyed bad, only_survey file h.0 bad h.1, refl, λ files known. same ∙ known)) has

  pub leaves : LeavesOf Surveys name old new
  leaves = left_before Surveys name old new P stands same

  pub ends_surveying : {T : Type 0} (outcome : Result T Fault)
      → OnOk outcome (WhereKnown old.held name (HasRecords None))
      → ((cause : Refusal) → outcome ≡ Err (Refused cause) → (i : ℕ) × (cause ≡ BadChunk i)
      × WhereKnown old.held name (HasRecords (Some i)))
      → IfErr outcome (EndsReading ⊥ old new) → OnOk outcome (IsCalm old new) → EndsMaking Surveys name old new outcome
  ends_surveying (Ok x) all bad failed calm = (made None all, leaves, calm)
  ends_surveying (Err (Refused cause)) all bad failed calm =
      let b = bad cause refl in
      (subst (λ (c : Refusal). MakesAs Surveys name old new (Some c)) (sym b.1) (made (Some b.0) b.2), leaves)
  ends_surveying (Err Read) all bad failed calm = (elim failed [ inl none ↦ absurd none | inr rose ↦ rose ], leaves)
  ends_surveying (Err Write) all bad failed calm = absurd failed
  ends_surveying (Err Memory) all bad failed calm = leaves
