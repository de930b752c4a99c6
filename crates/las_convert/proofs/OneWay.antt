-- Whatever the bytes of an accepted file are, converting a range of its records gives one thing alone.
use Rattle.std.proofs.Common.{◌≡◌, ℕ, ◌%◌, List, [], length, take, Option, Some, None, refl, sym, ◌∙◌, ap, subst, arith}
use Rattle.std.specs.Prelude.{All}
use Rattle.std.specs.List.{concat}
use Rattle.std.proofs.lemmas.Option.{none-some}
use Rattle.las_header.specs.declared.refusal.Refusal.{Refusal}
use Rattle.las_header.specs.declared.refusal.Refusal.TheVariants.{BadChunk, RawRange}
use Rattle.las_header.specs.Fields.{head_of, record_length_of}
use Rattle.las_filter.specs.Kept.{Kept}
use Rattle.las_thin.specs.declared.pick.Pick.{Pick}
use Rattle.las_thin.specs.declared.pick.Pick.TheVariants.{First, Lowest, Highest}
use Rattle.las_thin.specs.Kept.{kept_behind}
use Rattle.las_thin.specs.Sieving.{PicksFirst}
use Rattle.laz_range.specs.Span.{IsBytes}
use Rattle.laz_forms.specs.Laws.{HasOneBlock, HasOneInRange}
use Rattle.laz_forms.specs.Pieces.{Piece}
use Rattle.laz_forms.specs.Ranges.{Range, parts_of}
use Rattle.laz_forms.specs.Records.{AreRead, AreRecordsIn, HoldBlocks, HoldOnly}
use Rattle.laz_forms.specs.Refusing.{IsAcceptedFile}
use Rattle.laz_forms.proofs.Public.{accepted_is_head, one_pieces, some_same}
use Rattle.laz_file.proofs.Public.{even_in, begins-with, only-blocks}
use Rattle.las_convert.specs.Adding.{Keeping, kept_by}
use Rattle.las_convert.specs.Converting.{AreFirstRecords, ConvertsBy, ConvertsOnce, ConvertsTwice, Keeps, kept_in}
use Rattle.las_convert.specs.Laws.{ConvertsInOneWay}
use Rattle.las_convert.proofs.Adding.{IsKeeping}
use Rattle.las_convert.proofs.Only.{HasRecords, raw_clash, same_refused, stays_in}
use Rattle.las_convert.proofs.Passing.{kept_as_first, sieve_keeps}
use Rattle.las_convert.proofs.Readings.{OnlyBy, once_only, once_same, only_by}

module _ (keeping : Keeping) (file : List ℕ) (range : Range) (small : IsBytes file) (one : HasOneInRange) where
  -- of the same blocks the same records are kept, and the same one is refused
  same_kept : (xs ys : List (List ℕ)) (records others : List ℕ) (raw other : Option ℕ) → kept_in keeping file ys ≡ kept_in keeping file xs → Keeps keeping file xs records raw → Keeps keeping file ys others other → (others ≡ records) × (other ≡ raw)
  same_kept xs ys records others raw other same mine theirs = (
    sym theirs.records_are ∙ ap (λ (x : Kept). concat x.records) same ∙ mine.records_are,
    sym theirs.raw_range_is ∙ ap (λ (x : Kept). x.raw_range) same ∙ mine.raw_range_is,
  )

  -- two readings of the range are of the same blocks, and have the same first bad chunk
  same_read : (xs ys : List (List ℕ)) (records others : List ℕ) (bad worse raw other : Option ℕ) → AreRecordsIn file range xs bad → AreRecordsIn file range ys worse → Keeps keeping file xs records raw → Keeps keeping file ys others other
      → (worse ≡ bad) × ((others ≡ records) × (other ≡ raw))
  same_read xs ys records others bad worse raw other read again mine theirs =
      let e = one file range xs ys bad worse small read again in
      (e.1, same_kept xs ys records others raw other (ap (kept_in keeping file) e.0) mine theirs)

  same_bad : (xs ys : List (List ℕ)) (bad worse : Option ℕ) → AreRecordsIn file range xs bad → AreRecordsIn file range ys worse → worse ≡ bad
  same_bad xs ys bad worse read again = (one file range xs ys bad worse small read again).1

  -- ---- a range that is read twice
  twice : (records others : List ℕ) (refusal other : Option Refusal) → ConvertsTwice keeping file range records refusal → ConvertsTwice keeping file range others other → (others ≡ records) × (other ≡ refusal)
  twice records others None None a b = ((same_read a.0 b.0 records others None None None None a.1 b.1 a.2 b.2).1.0, refl)
  twice records others None (Some (BadChunk j)) a b = absurd (none-some j (sym (same_bad a.0 b.0 None (Some j) a.1 b.1)))
  twice records others None (Some (RawRange j)) a b = absurd (none-some j (sym (same_read a.0 b.0 records others None None None (Some j) a.1 b.1 a.2 b.2).1.1))
  twice records others None (Some _) a b = absurd b
  twice records others (Some (BadChunk i)) None a b = absurd (none-some i (same_bad a.0 b.0 (Some i) None a.1 b.1))
  twice records others (Some (BadChunk i)) (Some (BadChunk j)) a b = (b.2 ∙ sym a.2, ap (λ (n : ℕ). Some (BadChunk n)) (some_same j i (same_bad a.0 b.0 (Some i) (Some j) a.1 b.1)))
  twice records others (Some (BadChunk i)) (Some (RawRange j)) a b = absurd (none-some i (same_bad a.0 b.0 (Some i) None a.1 b.1))
  twice records others (Some (BadChunk i)) (Some _) a b = absurd b
  twice records others (Some (RawRange k)) None a b = absurd (none-some k (same_read a.0 b.0 records others None None (Some k) None a.1 b.1 a.2 b.2).1.1)
  twice records others (Some (RawRange k)) (Some (BadChunk j)) a b = absurd (none-some j (sym (same_bad a.0 b.0 None (Some j) a.1 b.1)))
  twice records others (Some (RawRange k)) (Some (RawRange j)) a b =
      let e = same_read a.0 b.0 records others None None (Some k) (Some j) a.1 b.1 a.2 b.2 in
      (e.1.0, ap (λ (n : ℕ). Some (RawRange n)) (some_same j k e.1.1))
  twice records others (Some (RawRange k)) (Some _) a b = absurd b
  twice records others (Some _) other a b = absurd a

  -- ---- a range that is read once
  module _ (keeps : IsKeeping keeping) (accepted : IsAcceptedFile file) (held : HasOneBlock) where
    has : HasRecords file
    has = record { some = omega (arith, (accepted_is_head file accepted small).record_length) }

    only : (pieces : List Piece) (blocks : List (List ℕ)) → HoldBlocks file pieces blocks → HoldOnly file pieces blocks
    only pieces blocks hold = only-blocks file (λ p a b h k. held file p a b small h k) pieces blocks hold

    even : (first : List Piece) (n : ℕ) (xs : List (List ℕ)) → HoldBlocks file (take n (parts_of file range first)) xs → All (λ block. length block % record_length_of (head_of file) ≡ 0) xs
    even first n xs hold = even_in file accepted small range first n xs hold

    -- a record that is refused in the first pieces is refused in whatever is read of the range
    refused_too : (xs ys : List (List ℕ)) (k : ℕ) (bad : Option ℕ) → AreFirstRecords file range xs → (kept_in keeping file xs).raw_range ≡ Some k → AreRecordsIn file range ys bad → (kept_in keeping file ys).raw_range ≡ None → ⊥
    refused_too xs ys k bad first raw read none =
        let parts = parts_of file range first.pieces in
        let there = subst (λ (ps : List Piece). AreRead file (parts_of file range ps) ys read.1) (one_pieces file read.0 first.pieces read.2 first.are) read.3 in
        let b = begins-with file (λ p a b h k. held file p a b small h k) parts first.number xs ys read.1 first.hold there in
        let stays = stays_in keeping keeps file has xs b.0 k (even first.pieces first.number xs first.hold) raw in
        raw_clash k (kept_in keeping file ys).raw_range (ap (λ (x : Kept). x.raw_range) (ap (kept_in keeping file) b.1 ∙ stays) ∙ raw) none

    same_first : (xs ys : List (List ℕ)) (k j : ℕ) → AreFirstRecords file range xs → AreFirstRecords file range ys → (kept_in keeping file xs).raw_range ≡ Some k → (kept_in keeping file ys).raw_range ≡ Some j → kept_in keeping file ys ≡ kept_in keeping file xs
    same_first xs ys k j first other raw worse =
        let parts = parts_of file range first.pieces in
        let there = subst (λ (ps : List Piece). HoldBlocks file (take other.number (parts_of file range ps)) ys) (one_pieces file other.pieces first.pieces other.are first.are) other.hold in
        same_refused keeping keeps file has parts first.number other.number xs ys k j (only (take first.number parts) xs first.hold) (even first.pieces first.number xs first.hold) there raw worse

    once : (records others : List ℕ) (refusal other : Option Refusal) → ConvertsOnce keeping file range records refusal → ConvertsOnce keeping file range others other → (others ≡ records) × (other ≡ refusal)
    once records others None None a b = ((same_read a.0 b.0 records others None None None None a.1 b.1 a.2 b.2).1.0, refl)
    once records others None (Some (BadChunk j)) a b = absurd (none-some j (sym (same_bad a.0 b.0 None (Some j) a.1 b.1)))
    once records others None (Some (RawRange j)) a b = absurd (refused_too b.0 a.0 j None b.1 b.2.raw_range_is a.1 a.2.raw_range_is)
    once records others None (Some _) a b = absurd b
    once records others (Some (BadChunk i)) None a b = absurd (none-some i (same_bad a.0 b.0 (Some i) None a.1 b.1))
    once records others (Some (BadChunk i)) (Some (BadChunk j)) a b =
        let e = same_read a.0 b.0 records others (Some i) (Some j) None None a.1 b.1 a.2 b.2 in
        (e.1.0, ap (λ (n : ℕ). Some (BadChunk n)) (some_same j i e.0))
    once records others (Some (BadChunk i)) (Some (RawRange j)) a b = absurd (refused_too b.0 a.0 j (Some i) b.1 b.2.raw_range_is a.1 a.2.raw_range_is)
    once records others (Some (BadChunk i)) (Some _) a b = absurd b
    once records others (Some (RawRange k)) None a b = absurd (refused_too a.0 b.0 k None a.1 a.2.raw_range_is b.1 b.2.raw_range_is)
    once records others (Some (RawRange k)) (Some (BadChunk j)) a b = absurd (refused_too a.0 b.0 k (Some j) a.1 a.2.raw_range_is b.1 b.2.raw_range_is)
    once records others (Some (RawRange k)) (Some (RawRange j)) a b =
        let same = same_first a.0 b.0 k j a.1 b.1 a.2.raw_range_is b.2.raw_range_is in
        let e = same_kept a.0 b.0 records others (Some k) (Some j) same a.2 b.2 in
        (e.0, ap (λ (n : ℕ). Some (RawRange n)) (some_same j k e.1))
    once records others (Some (RawRange k)) (Some _) a b = absurd b
    once records others (Some _) other a b = absurd a

pub converts_in_one_way : HasOneBlock → HasOneInRange → ConvertsInOneWay
converts_in_one_way held one plan settings file range records refusal accepted small converts = only_by plan settings file range records refusal (by settings.pick refl converts)
  where
    by : (pick : Pick) → settings.pick ≡ pick → ConvertsBy pick (kept_behind plan settings) file range records refusal → OnlyBy pick (kept_behind plan settings) file range records refusal
    by First e c =
        let own : Keeping = kept_by settings [] plan in
        let same : (rs : List (List ℕ)) → own rs ≡ kept_behind plan settings rs = λ rs. kept_as_first settings [] plan rs (subst PicksFirst (sym e) tt) in
        let mine = once_same (kept_behind plan settings) own (λ rs. sym (same rs)) file range records refusal c in
        once_only own (kept_behind plan settings) same file range records refusal
        (record { are = mine; only = λ others other d. once own file range small one (sieve_keeps settings [] plan) accepted held records others refusal other mine d })
    by Lowest e c = record { are = c; only = λ others other d. twice (kept_behind plan settings) file range small one records others refusal other c d }
    by Highest e c = record { are = c; only = λ others other d. twice (kept_behind plan settings) file range small one records others refusal other c d }
