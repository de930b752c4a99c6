-- What is kept of the records of a range is something, also if a chunk is bad.
use Rattle.std.proofs.Common.{◌≡◌, ℕ, List, [], length, take, Option, Some, None, refl, sym, subst, arith}
use Rattle.std.specs.List.{concat}
use Rattle.std.proofs.lemmas.List.{take_all}
use Rattle.las_header.specs.declared.refusal.Refusal.{Refusal}
use Rattle.las_header.specs.declared.refusal.Refusal.TheVariants.{BadChunk, RawRange}
use Rattle.laz_forms.specs.Existing.{HasSomeInRange}
use Rattle.laz_forms.specs.Pieces.{Piece}
use Rattle.laz_forms.specs.Ranges.{Range, parts_of}
use Rattle.laz_forms.specs.Records.{AreRead, AreRecordsIn, HoldBlocks}
use Rattle.las_thin.specs.declared.pick.Pick.{Pick}
use Rattle.las_thin.specs.declared.pick.Pick.TheVariants.{First, Lowest, Highest}
use Rattle.las_thin.specs.Kept.{kept_behind}
use Rattle.las_convert.specs.Adding.{Keeping}
use Rattle.las_convert.specs.Converting.{AreFirstRecords, ConvertsBy, ConvertsOnce, ConvertsTwice, kept_in}
use Rattle.las_convert.specs.Laws.{ConvertsToSomething}

module _ (keeping : Keeping) (file : List ℕ) (range : Range) (blocks : List (List ℕ)) where
  abbrev Gives : (List ℕ → Option Refusal → Type 0) → Type 0
  Gives Converts = (records : List ℕ) × (refusal : Option Refusal) × Converts records refusal

  -- the blocks that were read are those of the first pieces that meet the range
  first_read : (pieces : List Piece) (found : Option ℕ) → AreRead file (parts_of file range pieces) blocks found → (number : ℕ) × HoldBlocks file (take number (parts_of file range pieces)) blocks
  first_read pieces None read =
      let parts = parts_of file range pieces in
      (length parts, subst (λ (ps : List Piece). HoldBlocks file ps blocks) (sym (take_all (length parts) parts (omega arith))) read)
  first_read pieces (Some i) read = (i, read.0)

  once : (bad raw_range : Option ℕ) → AreRecordsIn file range blocks bad → (kept_in keeping file blocks).raw_range ≡ raw_range → Gives (ConvertsOnce keeping file range)
  once None None are is = (concat (kept_in keeping file blocks).records, None, (blocks, are, record { records_are = refl; raw_range_is = is }))
  once (Some i) None are is = (concat (kept_in keeping file blocks).records, Some (BadChunk i), (blocks, are, record { records_are = refl; raw_range_is = is }))
  once bad (Some k) are is =
      let read = first_read are.0 are.1 are.3 in
      let first : AreFirstRecords file range blocks = record { pieces = are.0; are = are.2; number = read.0; hold = read.1 } in
      (concat (kept_in keeping file blocks).records, Some (RawRange k), (blocks, first, record { records_are = refl; raw_range_is = is }))

  twice : (bad raw_range : Option ℕ) → AreRecordsIn file range blocks bad → (kept_in keeping file blocks).raw_range ≡ raw_range → Gives (ConvertsTwice keeping file range)
  twice None None are is = (concat (kept_in keeping file blocks).records, None, (blocks, are, record { records_are = refl; raw_range_is = is }))
  twice None (Some k) are is = (concat (kept_in keeping file blocks).records, Some (RawRange k), (blocks, are, record { records_are = refl; raw_range_is = is }))
  twice (Some i) raw_range are is = ([], Some (BadChunk i), (blocks, are, refl))

  -- so something is converted, whether the range is read once or twice
  pub converts_some : (pick : Pick) (bad : Option ℕ) → AreRecordsIn file range blocks bad → Gives (ConvertsBy pick keeping file range)
  converts_some First bad are = once bad (kept_in keeping file blocks).raw_range are refl
  converts_some Lowest bad are = twice bad (kept_in keeping file blocks).raw_range are refl
  converts_some Highest bad are = twice bad (kept_in keeping file blocks).raw_range are refl

pub converts_to_something : HasSomeInRange → ConvertsToSomething
converts_to_something has plan settings file range accepted =
    let r = has file range accepted in converts_some (kept_behind plan settings) file range r.0 settings.pick r.1 r.2
