-- What converting the range of all places gives, and what it gives without a sieve.
use Rattle.std.proofs.Common.{List, take, ℕ, Option, Some, None, sym, subst}
use Rattle.las_filter.specs.Kept.{kept}
use Rattle.las_header.specs.declared.refusal.Refusal.TheVariants.{RawRange}
use Rattle.las_header.specs.Fields.{head_of}
use Rattle.las_thin.specs.declared.pick.Pick.{Pick}
use Rattle.las_thin.specs.declared.pick.Pick.TheVariants.{First, Lowest, Highest}
use Rattle.las_thin.specs.Kept.{kept_behind}
use Rattle.las_thin.specs.Sieving.{PicksFirst, all_pass}
use Rattle.las_thin.proofs.Public.{keeps_as_the_plan}
use Rattle.laz_forms.specs.Pieces.{Piece}
use Rattle.laz_forms.specs.Ranges.{whole_range}
use Rattle.laz_forms.specs.Records.{AreRecordsOf, HoldBlocks}
use Rattle.laz_reader.proofs.Public.{all_of}
use Rattle.laz_file.proofs.Public.{whole_of_all}
use Rattle.las_convert.specs.Adding.{Keeping}
use Rattle.las_convert.specs.Converting.{AreFirstRecords, ConvertsBy, ConvertsOnce, ConvertsTwice, Keeps}
use Rattle.las_convert.specs.Laws.{ConvertsAllRecords, ConvertsAsThePlan, ConvertsFirstRecords, ConvertsWholeFiles, bad_chunk, raw_record}
use Rattle.las_convert.proofs.Readings.{once_same}

all_once : (keeping : Keeping) (file records : List ℕ) (blocks : List (List ℕ)) (bad : Option ℕ) → AreRecordsOf file blocks bad → Keeps keeping file blocks records None → ConvertsOnce keeping file (whole_range (head_of file)) records (bad_chunk bad)
all_once keeping file records blocks None are keeps = (blocks, (whole_of_all file blocks None).1 are, keeps)
all_once keeping file records blocks (Some i) are keeps = (blocks, (whole_of_all file blocks (Some i)).1 are, keeps)

all_twice : (keeping : Keeping) (file records : List ℕ) (blocks : List (List ℕ)) (raw_range : Option ℕ) → AreRecordsOf file blocks None → Keeps keeping file blocks records raw_range → ConvertsTwice keeping file (whole_range (head_of file)) records (raw_record raw_range)
all_twice keeping file records blocks None are keeps = (blocks, (whole_of_all file blocks None).1 are, keeps)
all_twice keeping file records blocks (Some k) are keeps = (blocks, (whole_of_all file blocks None).1 are, keeps)

pub converts_all_records : ConvertsAllRecords
converts_all_records plan settings file records blocks bad first are keeps = by settings.pick first
  where
    by : (pick : Pick) → PicksFirst pick → ConvertsBy pick (kept_behind plan settings) file (whole_range (head_of file)) records (bad_chunk bad)
    by First f = all_once (kept_behind plan settings) file records blocks bad are keeps
    by Lowest f = absurd f
    by Highest f = absurd f

pub converts_first_records : ConvertsFirstRecords
converts_first_records plan settings file records pieces number blocks k first are hold keeps = by settings.pick first
  where
    begin : AreFirstRecords file (whole_range (head_of file)) blocks
    begin = record {
      pieces = pieces;
      are = are;
      number = number;
      hold = subst (λ (ps : List Piece). HoldBlocks file (take number ps) blocks) (sym (all_of file pieces are).0) hold;
    }

    by : (pick : Pick) → PicksFirst pick → ConvertsBy pick (kept_behind plan settings) file (whole_range (head_of file)) records (Some (RawRange k))
    by First f = (blocks, begin, keeps)
    by Lowest f = absurd f
    by Highest f = absurd f

pub converts_whole_files : ConvertsWholeFiles
converts_whole_files plan settings file records blocks raw_range other are keeps = by settings.pick other
  where
    by : (pick : Pick) → (PicksFirst pick → ⊥) → ConvertsBy pick (kept_behind plan settings) file (whole_range (head_of file)) records (raw_record raw_range)
    by First f = absurd (f tt)
    by Lowest f = all_twice (kept_behind plan settings) file records blocks raw_range are keeps
    by Highest f = all_twice (kept_behind plan settings) file records blocks raw_range are keeps

pub converts_as_the_plan : ConvertsAsThePlan
converts_as_the_plan plan file range records refusal = (
  once_same (kept_behind plan all_pass) (kept plan) (keeps_as_the_plan plan) file range records refusal,
  once_same (kept plan) (kept_behind plan all_pass) (λ rs. sym (keeps_as_the_plan plan rs)) file range records refusal,
)
