-- What merging files gives, one file after another.
use Rattle.std.proofs.Common.{◌≡◌, ℕ, zero, suc, ◌<◌, List, [], ◌∷◌, ◌++◌, length, take, Option, Some, None, refl, sym, ◌∙◌, ap, append_assoc, arith}
use Rattle.std.specs.List.{concat}
use Rattle.std.proofs.lemmas.Option.{none-some}
use Rattle.laz_forms.specs.Records.{AreRecordsOf}
use Rattle.laz_forms.proofs.Public.{some_same}
use Rattle.las_merge.specs.Copying.{BeginsWith, OnlyRecords}
use Rattle.las_merge.specs.Inputs.{item_at}
use Rattle.las_merge.specs.Merging.{BadPlace, HasRecords, HaveRecords, MergesTo, OnlyMerges}

-- the records of a file are one
only_records : (file part : List ℕ) (bad worse : Option ℕ) (blocks : List (List ℕ)) → OnlyRecords file part bad → AreRecordsOf file blocks worse → (concat blocks ≡ part) × (worse ≡ bad)
only_records file part bad worse blocks o are =
    let s = o.1.only blocks worse are in
    (ap concat s.0 ∙ sym o.2, s.1)

-- a place in more files, of which these are the last
abbrev pub moved : Option BadPlace → Option BadPlace
moved None = None
moved (Some place) = Some (record { file = suc place.file; chunk = place.chunk })

-- ---- the first of some files

-- what is merged after the first
record IsAfter (files : List (List ℕ)) (part records : List ℕ) (bad : Option BadPlace) : Type 0 where
  rest : List ℕ
  worse : Option BadPlace
  merges : MergesTo files rest worse
  records_are : records ≡ part ++ rest
  bad_is : bad ≡ moved worse

module _ (file : List ℕ) (files : List (List ℕ)) (part : List ℕ) where
  module _ (only : OnlyRecords file part None) where
    after_all : (parts : List (List ℕ)) (records : List ℕ) → HaveRecords (file ∷ files) parts → records ≡ concat parts → IsAfter files part records None
    after_all [] records have is = absurd have
    after_all (p ∷ ps) records have is =
        let same : p ≡ part = have.0.2 ∙ (only_records file part None None have.0.0 only have.0.1).0 in
        record {
          rest = concat ps;
          worse = None;
          merges = (ps, have.1, refl);
          records_are = is ∙ ap (λ (t : List ℕ). t ++ concat ps) same;
          bad_is = refl;
        }

    after_bad : (number chunk : ℕ) (parts blocks : List (List ℕ)) (records : List ℕ) → number < length (file ∷ files) → HaveRecords (take number (file ∷ files)) parts → AreRecordsOf (item_at (file ∷ files) number) blocks (Some chunk)
        → records ≡ concat parts ++ concat blocks → IsAfter files part records (Some (record { file = number; chunk = chunk }))
    after_bad zero chunk parts blocks records within have bad is =
        absurd (none-some chunk (sym (only_records file part None (Some chunk) blocks only bad).1))
    after_bad (suc number) chunk [] blocks records within have bad is = absurd have
    after_bad (suc number) chunk (p ∷ ps) blocks records within have bad is =
        let same : p ≡ part = have.0.2 ∙ (only_records file part None None have.0.0 only have.0.1).0 in
        record {
          rest = concat ps ++ concat blocks;
          worse = Some (record { file = number; chunk = chunk });
          merges = record { parts = ps; blocks = blocks; within = omega (arith, within); earlier = have.1; bad = bad; records_are = refl };
          records_are = is ∙ append_assoc p (concat ps) (concat blocks) ∙ ap (λ (t : List ℕ). t ++ (concat ps ++ concat blocks)) same;
          bad_is = refl;
        }

    after_first : (records : List ℕ) (bad : Option BadPlace) → MergesTo (file ∷ files) records bad → IsAfter files part records bad
    after_first records None m = after_all m.0 records m.1 m.2
    after_first records (Some place) m = after_bad place.file place.chunk m.parts m.blocks records m.within m.earlier m.bad m.records_are

  -- the first file has a bad chunk
  module _ (chunk : ℕ) (only : OnlyRecords file part (Some chunk)) where
    no_records : (p : List ℕ) → HasRecords file p → ⊥
    no_records p has = none-some chunk (only_records file part (Some chunk) None has.0 only has.1).1

    bad_first_at : (number worse : ℕ) (parts blocks : List (List ℕ)) (records : List ℕ) → HaveRecords (take number (file ∷ files)) parts → AreRecordsOf (item_at (file ∷ files) number) blocks (Some worse) → records ≡ concat parts ++ concat blocks
        → (records ≡ part) × (let place : BadPlace = record { file = number; chunk = worse } in let first : BadPlace = record { file = 0; chunk = chunk } in Some place ≡ Some first)
    bad_first_at zero worse [] blocks records have bad is =
        let s = only_records file part (Some chunk) (Some worse) blocks only bad in
        (is ∙ s.0, ap (λ (n : ℕ). let place : BadPlace = record { file = 0; chunk = n } in Some place) (some_same worse chunk s.1))
    bad_first_at zero worse (p ∷ ps) blocks records have bad is = absurd have
    bad_first_at (suc number) worse [] blocks records have bad is = absurd have
    bad_first_at (suc number) worse (p ∷ ps) blocks records have bad is = absurd (no_records p have.0)

    none_first : (parts : List (List ℕ)) → HaveRecords (file ∷ files) parts → ⊥
    none_first [] have = have
    none_first (p ∷ ps) have = no_records p have.0

    bad_first : (records : List ℕ) (bad : Option BadPlace) → MergesTo (file ∷ files) records bad → (records ≡ part) × (let first : BadPlace = record { file = 0; chunk = chunk } in bad ≡ Some first)
    bad_first records None m = absurd (none_first m.0 m.1)
    bad_first records (Some place) m = bad_first_at place.file place.chunk m.parts m.blocks records m.earlier m.bad m.records_are

  -- the records of the first file begin so
  module _ (begins : BeginsWith file part) where
    begin_all : (parts : List (List ℕ)) (records : List ℕ) → HaveRecords (file ∷ files) parts → records ≡ concat parts → (more : List ℕ) × (records ≡ part ++ more)
    begin_all [] records have is = absurd have
    begin_all (p ∷ ps) records have is =
        let b = begins have.0.0 None have.0.1 in
        (b.0 ++ concat ps, is ∙ ap (λ (t : List ℕ). t ++ concat ps) (have.0.2 ∙ b.1) ∙ append_assoc part b.0 (concat ps))

    begin_bad : (number worse : ℕ) (parts blocks : List (List ℕ)) (records : List ℕ) → HaveRecords (take number (file ∷ files)) parts → AreRecordsOf (item_at (file ∷ files) number) blocks (Some worse) → records ≡ concat parts ++ concat blocks
        → (more : List ℕ) × (records ≡ part ++ more)
    begin_bad zero worse [] blocks records have bad is =
        let b = begins blocks (Some worse) bad in
        (b.0, is ∙ b.1)
    begin_bad zero worse (p ∷ ps) blocks records have bad is = absurd have
    begin_bad (suc number) worse [] blocks records have bad is = absurd have
    begin_bad (suc number) worse (p ∷ ps) blocks records have bad is =
        let b = begins have.0.0 None have.0.1 in (
          b.0 ++ (concat ps ++ concat blocks),
          is ∙ append_assoc p (concat ps) (concat blocks) ∙ ap (λ (t : List ℕ). t ++ (concat ps ++ concat blocks)) (have.0.2 ∙ b.1) ∙ append_assoc part b.0 (concat ps ++ concat blocks),
        )

    begin_first : (records : List ℕ) (bad : Option BadPlace) → MergesTo (file ∷ files) records bad → (more : List ℕ) × (records ≡ part ++ more)
    begin_first records None m = begin_all m.0 records m.1 m.2
    begin_first records (Some place) m = begin_bad place.file place.chunk m.parts m.blocks records m.earlier m.bad m.records_are

-- ---- some files after those whose records are known

-- each of the first files has these records alone
abbrev pub AllOnly : (files parts : List (List ℕ)) → Type 0
AllOnly files [] = Unit {0}
AllOnly [] (part ∷ parts) = ⊥
AllOnly (file ∷ files) (part ∷ parts) = OnlyRecords file part None × AllOnly files parts

have_all : (files parts : List (List ℕ)) → AllOnly files parts → HaveRecords (take (length parts) files) parts
have_all files [] all = tt
have_all [] (p ∷ ps) all = absurd all
have_all (f ∷ fs) (p ∷ ps) all = ((all.0.0, all.0.1.are, all.0.2), have_all fs ps all.1)

have_whole : (files parts : List (List ℕ)) → AllOnly files parts → length parts ≡ length files → HaveRecords files parts
have_whole [] [] all e = tt
have_whole [] (p ∷ ps) all e = absurd all
have_whole (f ∷ fs) [] all e = absurd (omega (arith, e))
have_whole (f ∷ fs) (p ∷ ps) all e = ((all.0.0, all.0.1.are, all.0.2), have_whole fs ps all.1 (omega (arith, e)))

merges_none : (records : List ℕ) (bad : Option BadPlace) → MergesTo [] records bad → (records ≡ []) × (bad ≡ None)
merges_none records None m = (by m.0 m.1 m.2, refl)
  where
    by : (parts : List (List ℕ)) → HaveRecords [] parts → records ≡ concat parts → records ≡ []
    by [] have is = is
    by (p ∷ ps) have is = absurd have
merges_none records (Some place) m = absurd (omega (arith, m.within))

merges_all : (files parts : List (List ℕ)) (records : List ℕ) (bad : Option BadPlace) → AllOnly files parts → length parts ≡ length files → MergesTo files records bad → (records ≡ concat parts) × (bad ≡ None)
merges_all [] [] records bad all e m = merges_none records bad m
merges_all [] (p ∷ ps) records bad all e m = absurd all
merges_all (f ∷ fs) [] records bad all e m = absurd (omega (arith, e))
merges_all (f ∷ fs) (p ∷ ps) records bad all e m =
    let a = after_first f fs p all.0 records bad m in
    let r = merges_all fs ps a.rest a.worse all.1 (omega (arith, e)) a.merges in
    (a.records_are ∙ ap (λ (t : List ℕ). p ++ t) r.0, a.bad_is ∙ ap moved r.1)

-- all records of all files
pub only_all : (files parts : List (List ℕ)) → AllOnly files parts → length parts ≡ length files → OnlyMerges files (concat parts) None
only_all files parts all e = record {
  are = (parts, have_whole files parts all e, refl);
  only = λ records bad m. merges_all files parts records bad all e m;
}

merges_bad : (files parts : List (List ℕ)) (part : List ℕ) (chunk : ℕ) (records : List ℕ) (bad : Option BadPlace) → AllOnly files parts → length parts < length files → OnlyRecords (item_at files (length parts)) part (Some chunk) → MergesTo files records bad
    → (records ≡ concat parts ++ part) × (let place : BadPlace = record { file = length parts; chunk = chunk } in bad ≡ Some place)
merges_bad [] parts part chunk records bad all within only m = absurd (omega (arith, within))
merges_bad (f ∷ fs) [] part chunk records bad all within only m = bad_first f fs part chunk only records bad m
merges_bad (f ∷ fs) (p ∷ ps) part chunk records bad all within only m =
    let a = after_first f fs p all.0 records bad m in
    let r = merges_bad fs ps part chunk a.rest a.worse all.1 (omega (arith, within)) only a.merges in
    (a.records_are ∙ ap (λ (t : List ℕ). p ++ t) r.0 ∙ sym (append_assoc p (concat ps) part), a.bad_is ∙ ap moved r.1)

-- all records before the first bad chunk
pub only_bad : (files parts : List (List ℕ)) (part : List ℕ) (chunk : ℕ) → AllOnly files parts → length parts < length files → OnlyRecords (item_at files (length parts)) part (Some chunk)
    → OnlyMerges files (concat parts ++ part) (Some (record { file = length parts; chunk = chunk }))
only_bad files parts part chunk all within only = record {
  are = record {
    parts = parts;
    blocks = only.0;
    within = within;
    earlier = have_all files parts all;
    bad = only.1.are;
    records_are = ap (λ (t : List ℕ). concat parts ++ t) only.2;
  };
  only = λ records bad m. merges_bad files parts part chunk records bad all within only m;
}

-- what is merged begins with these records, and those of the next file
pub merges_begin : (files parts : List (List ℕ)) (part : List ℕ) (records : List ℕ) (bad : Option BadPlace) → AllOnly files parts → length parts < length files → BeginsWith (item_at files (length parts)) part → MergesTo files records bad
    → (more : List ℕ) × (records ≡ (concat parts ++ part) ++ more)
merges_begin [] parts part records bad all within begins m = absurd (omega (arith, within))
merges_begin (f ∷ fs) [] part records bad all within begins m = begin_first f fs part begins records bad m
merges_begin (f ∷ fs) (p ∷ ps) part records bad all within begins m =
    let a = after_first f fs p all.0 records bad m in
    let r = merges_begin fs ps part a.rest a.worse all.1 (omega (arith, within)) begins a.merges in (
      r.0,
      a.records_are ∙ ap (λ (t : List ℕ). p ++ t) r.1 ∙ sym (append_assoc p (concat ps ++ part) r.0)
          ∙ ap (λ (t : List ℕ). t ++ r.0) (sym (append_assoc p (concat ps) part)),
    )
