-- Whatever the bytes of files are, merging them gives one thing alone.
use Rattle.std.proofs.Common.{◌≡◌, ℕ, zero, suc, ◌≤◌, List, [], ◌∷◌, ◌++◌, length, take, Option, Some, None, refl, sym, ap, subst, arith}
use Rattle.std.specs.Prelude.{All}
use Rattle.std.specs.List.{concat}
use Rattle.std.proofs.lemmas.List.{take_all}
use Rattle.laz_range.specs.Span.{IsBytes}
use Rattle.laz_forms.specs.Laws.{HasOneRecords}
use Rattle.laz_forms.specs.Records.{AreRecordsOf}
use Rattle.las_merge.specs.Copying.{OnlyRecords}
use Rattle.las_merge.specs.Inputs.{item_at}
use Rattle.las_merge.specs.Laws.{MergesInOneWay}
use Rattle.las_merge.specs.Merging.{AreBefore, BadPlace, HaveRecords, OnlyMerges}
use Rattle.las_merge.proofs.Merges.{AllOnly, only_all, only_bad}

module _ (one : HasOneRecords) where
  -- what is read of a file is the only thing
  only_of : (file part : List ℕ) (blocks : List (List ℕ)) (bad : Option ℕ) → IsBytes file → AreRecordsOf file blocks bad → part ≡ concat blocks → OnlyRecords file part bad
  only_of file part blocks bad small are is = (blocks, record { are = are; only = λ others worse of. one file blocks others bad worse small are of }, is)

  first_only : (k : ℕ) (files parts : List (List ℕ)) → k ≤ length files → All IsBytes files → HaveRecords (take k files) parts → AllOnly files parts × (length parts ≡ k)
  first_only zero files [] within small have = (tt, refl)
  first_only zero files (p ∷ parts) within small have = absurd have
  first_only (suc k) [] parts within small have = absurd (omega (arith, within))
  first_only (suc k) (f ∷ files) [] within small have = absurd have
  first_only (suc k) (f ∷ files) (p ∷ parts) within small have =
      let rest = first_only k files parts (omega (arith, within)) (λ j d lt. small (suc j) d (omega (arith, lt))) have.1 in
      ((only_of f p have.0.0 None (small 0 [] (omega arith)) have.0.1 have.0.2, rest.0), ap suc rest.1)

  all_merged : (files parts : List (List ℕ)) (records : List ℕ) → All IsBytes files → HaveRecords files parts → records ≡ concat parts → OnlyMerges files records None
  all_merged files parts records small have is =
      let whole = subst (λ (fs : List (List ℕ)). HaveRecords fs parts) (sym (take_all (length files) files (omega arith))) have in
      let a = first_only (length files) files parts (omega arith) small whole in
      subst (λ (t : List ℕ). OnlyMerges files t None) (sym is) (only_all files parts a.0 a.1)

  stopped_merge : (files : List (List ℕ)) (place : BadPlace) (records : List ℕ) → All IsBytes files → AreBefore files place records → OnlyMerges files records (Some place)
  stopped_merge files place records small m =
      let a = first_only place.file files m.parts (omega (arith, m.within)) small m.earlier in
      let chunk = place.chunk in
      let only = only_of (item_at files place.file) (concat m.blocks) m.blocks (Some chunk) (small place.file [] m.within) m.bad refl in
      let here = subst (λ (k : ℕ). OnlyRecords (item_at files k) (concat m.blocks) (Some chunk)) (sym a.1) only in
      let merged = only_bad files m.parts (concat m.blocks) chunk a.0 (omega (arith, a.1, m.within)) here in
      subst (λ (t : List ℕ). OnlyMerges files t (Some place)) (sym m.records_are)
      (subst (λ (k : ℕ). let at : BadPlace = record { file = k; chunk = chunk } in OnlyMerges files (concat m.parts ++ concat m.blocks) (Some at)) a.1 merged)

  pub merges_in_one_way : MergesInOneWay
  merges_in_one_way files records None small m = all_merged files m.0 records small m.1 m.2
  merges_in_one_way files records (Some place) small m = stopped_merge files place records small m
