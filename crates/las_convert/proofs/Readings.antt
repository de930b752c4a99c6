-- What converting a range of a file gives, by the pick of the sieve: the range is read once, or twice.
use Rattle.std.proofs.Common.{◌≡◌, ℕ, ◌+◌, ◌<◌, ◌≤◌, Bool, true, false, List, [], ◌++◌, length, take, Option, Some, None, refl, sym, ◌∙◌, ap, subst}
use Rattle.std.specs.List.{concat}
use Rattle.las_header.specs.declared.refusal.Refusal.{Refusal}
use Rattle.las_header.specs.declared.refusal.Refusal.TheVariants.{BadChunk, RawRange}
use Rattle.las_header.specs.Fields.{head_of, record_length_of}
use Rattle.las_header.specs.Plain.{cut_all}
use Rattle.las_filter.specs.Kept.{Kept, Steps}
use Rattle.las_outside.specs.Files.{FileMap}
use Rattle.las_thin.specs.declared.pick.Pick.{Pick}
use Rattle.las_thin.specs.declared.pick.Pick.TheVariants.{First, Lowest, Highest}
use Rattle.las_thin.specs.Kept.{kept_behind, passing}
use Rattle.las_thin.specs.Placed.{Placed}
use Rattle.las_thin.specs.Sieving.{PicksFirst, Settings}
use Rattle.laz_file.specs.Copying.{LeavesUnfinished}
use Rattle.laz_forms.specs.Outputs.{Output, records_after}
use Rattle.laz_forms.specs.Ranges.{Range}
use Rattle.laz_reader.specs.Reading.{AreWholeBlocks, ReaderSeen, StandsFor}
use Rattle.laz_forms.specs.Records.{HoldOnly, IsBadPiece}
use Rattle.las_convert.specs.Adding.{Adds, Keeping, kept_by}
use Rattle.las_convert.specs.Converting.{AreLooked, ConvertsBy, ConvertsOnce, ConvertsTo, Keeps, OnlyConverts, kept_in}
use Rattle.las_convert.proofs.Converts.{OnlyOnce, OnlyTwice, converts_all, converts_bad, converts_left, converts_raw, twice_all, twice_good, twice_left, twice_raw}
use Rattle.las_convert.proofs.Passing.{kept_as_first, kept_as_looked, sieve_keeps}

-- ---- what is kept in two ways that are the same

keeps_same : (one two : Keeping) → ((records : List (List ℕ)) → one records ≡ two records) → (file : List ℕ) (blocks : List (List ℕ)) (records : List ℕ) (raw_range : Option ℕ) → Keeps one file blocks records raw_range → Keeps two file blocks records raw_range
keeps_same one two same file blocks records raw_range k =
    let is = sym (same (records_after (head_of file) (concat blocks))) in
    record { records_are = ap (λ (x : Kept). concat x.records) is ∙ k.records_are; raw_range_is = ap (λ (x : Kept). x.raw_range) is ∙ k.raw_range_is }

pub once_same : (one two : Keeping) → ((records : List (List ℕ)) → one records ≡ two records) → (file : List ℕ) (range : Range) (records : List ℕ) (refusal : Option Refusal) → ConvertsOnce one file range records refusal → ConvertsOnce two file range records refusal
once_same one two same file range records None c = (c.0, c.1, keeps_same one two same file c.0 records None c.2)
once_same one two same file range records (Some (BadChunk i)) c = (c.0, c.1, keeps_same one two same file c.0 records None c.2)
once_same one two same file range records (Some (RawRange k)) c = (c.0, c.1, keeps_same one two same file c.0 records (Some k) c.2)
once_same one two same file range records (Some _) c = absurd c

-- what is converted by a pick, and nothing else
pub record OnlyBy (pick : Pick) (keeping : Keeping) (file : List ℕ) (range : Range) (records : List ℕ) (refusal : Option Refusal) : Type 0 where
  pub are : ConvertsBy pick keeping file range records refusal
  pub only : (others : List ℕ) (other : Option Refusal) → ConvertsBy pick keeping file range others other → (others ≡ records) × (other ≡ refusal)

pub once_only : (one two : Keeping) → ((records : List (List ℕ)) → one records ≡ two records) → (file : List ℕ) (range : Range) (records : List ℕ) (refusal : Option Refusal) → OnlyOnce one file range records refusal → OnlyBy First two file range records refusal
once_only one two same file range records refusal o = record {
  are = once_same one two same file range records refusal o.are;
  only = λ others other c. o.only others other (once_same two one (λ rs. sym (same rs)) file range others other c);
}

pub only_by : (plan : Steps) (settings : Settings) (file : List ℕ) (range : Range) (records : List ℕ) (refusal : Option Refusal) → OnlyBy settings.pick (kept_behind plan settings) file range records refusal → OnlyConverts plan settings file range records refusal
only_by plan settings file range records refusal o = record { are = o.are; only = o.only }

-- ---- what was read of a range

module _ (plan : Steps) (settings : Settings) (looked : List Placed) (first : ReaderSeen) (file : List ℕ) (st : StandsFor first file) (new : first.next ≡ first.first) (some : 0 < record_length_of first.head.bytes) (n : ℕ) (xs : List (List ℕ)) (within : n ≤ length first.left) (whole : AreWholeBlocks (record_length_of first.head.bytes) (take n first.left) xs) (hold : HoldOnly file (take n first.left) xs) (ready : AreLooked settings.pick plan file first.range looked) where
  abbrev keeping : Keeping
  keeping = kept_by settings looked plan

  abbrev behind : Keeping
  behind = kept_behind plan settings

  as_first : settings.pick ≡ First → (records : List (List ℕ)) → keeping records ≡ behind records
  as_first e records = kept_as_first settings looked plan records (subst PicksFirst (sym e) tt)

  as_looked : (blocks : List (List ℕ)) → looked ≡ passing plan (records_after (head_of file) (concat blocks)) → kept_in keeping file blocks ≡ kept_in behind file blocks
  as_looked blocks is =
      let records = records_after (head_of file) (concat blocks) in
      ap (λ (l : List Placed). kept_by settings l plan records) is ∙ kept_as_looked settings plan records

  pub settled_all : (ones : List (List ℕ)) → Adds keeping [] (cut_all (record_length_of first.head.bytes) (concat xs)) ones false → n ≡ length first.left → OnlyConverts plan settings file first.range (concat ones) None
  settled_all ones adds all = only_by plan settings file first.range (concat ones) None (by settings.pick refl ready)
    where
      twice : OnlyTwice behind file first.range (concat ones) None → OnlyBy Lowest behind file first.range (concat ones) None
      twice o = record { are = o.are; only = o.only }

      by : (pick : Pick) → settings.pick ≡ pick → AreLooked pick plan file first.range looked → OnlyBy pick behind file first.range (concat ones) None
      by First e r = once_only keeping behind (as_first e) file first.range (concat ones) None (converts_all keeping (sieve_keeps settings looked plan) first file st new some n xs within whole hold ones adds all)
      by Lowest e r = twice (twice_all keeping (sieve_keeps settings looked plan) first file st new some n xs within whole hold behind r.0 r.1 (as_looked r.0 r.2) ones adds all)
      by Highest e r =
          let o = twice_all keeping (sieve_keeps settings looked plan) first file st new some n xs within whole hold behind r.0 r.1 (as_looked r.0 r.2) ones adds all in
          record { are = o.are; only = o.only }

  pub settled_raw : (ones : List (List ℕ)) → Adds keeping [] (cut_all (record_length_of first.head.bytes) (concat xs)) ones true → (cause : Refusal) → cause ≡ RawRange (length ones) → OnlyConverts plan settings file first.range (concat ones) (Some cause)
  settled_raw ones adds cause is = only_by plan settings file first.range (concat ones) (Some cause) (by settings.pick refl ready)
    where
      by : (pick : Pick) → settings.pick ≡ pick → AreLooked pick plan file first.range looked → OnlyBy pick behind file first.range (concat ones) (Some cause)
      by First e r = once_only keeping behind (as_first e) file first.range (concat ones) (Some cause) (converts_raw keeping (sieve_keeps settings looked plan) first file st new some n xs within whole hold ones adds cause is)
      by Lowest e r =
          let o = twice_raw keeping (sieve_keeps settings looked plan) first file st new some n xs within whole hold behind r.0 r.1 (as_looked r.0 r.2) ones adds cause is in
          record { are = o.are; only = o.only }
      by Highest e r =
          let o = twice_raw keeping (sieve_keeps settings looked plan) first file st new some n xs within whole hold behind r.0 r.1 (as_looked r.0 r.2) ones adds cause is in
          record { are = o.are; only = o.only }

  -- a bad chunk is found in the first reading, if there are two
  pub bad_once : IsBadPiece file first.left n → PicksFirst settings.pick
  bad_once bad = by settings.pick ready
    where
      by : (pick : Pick) → AreLooked pick plan file first.range looked → PicksFirst pick
      by First r = tt
      by Lowest r = absurd (twice_good keeping (sieve_keeps settings looked plan) first file st new some n xs within whole hold behind r.0 r.1 (as_looked r.0 r.2) bad)
      by Highest r = absurd (twice_good keeping (sieve_keeps settings looked plan) first file st new some n xs within whole hold behind r.0 r.1 (as_looked r.0 r.2) bad)

  pub settled_bad : (ones : List (List ℕ)) → Adds keeping [] (cut_all (record_length_of first.head.bytes) (concat xs)) ones false → (cause : Refusal) → cause ≡ BadChunk (first.first + n) → IsBadPiece file first.left n → OnlyConverts plan settings file first.range (concat ones) (Some cause)
  settled_bad ones adds cause is bad = only_by plan settings file first.range (concat ones) (Some cause) (by settings.pick refl (bad_once bad))
    where
      by : (pick : Pick) → settings.pick ≡ pick → PicksFirst pick → OnlyBy pick behind file first.range (concat ones) (Some cause)
      by First e r = once_only keeping behind (as_first e) file first.range (concat ones) (Some cause) (converts_bad keeping (sieve_keeps settings looked plan) first file st new some n xs within whole hold ones adds cause is bad)
      by Lowest e r = absurd r
      by Highest e r = absurd r

  module _ (ones_first rest ones : List (List ℕ)) (refused : Bool) (split : cut_all (record_length_of first.head.bytes) (concat xs) ≡ ones_first ++ rest) (adds : Adds keeping [] ones_first ones refused) (out : Output) (was now : Option FileMap) (left : (more : List ℕ) → (n ≡ length first.left → rest ≡ [] → more ≡ []) → LeavesUnfinished out (concat ones ++ more) was now) where
    pub settled_left : (records : List ℕ) (refusal : Option Refusal) → ConvertsTo plan settings file first.range records refusal → LeavesUnfinished out records was now
    settled_left records refusal c = by settings.pick refl ready c
      where
        by : (pick : Pick) → settings.pick ≡ pick → AreLooked pick plan file first.range looked → ConvertsBy pick behind file first.range records refusal → LeavesUnfinished out records was now
        by First e r to = converts_left keeping (sieve_keeps settings looked plan) first file st new some n xs within whole hold ones_first rest ones refused split adds out was now left records refusal (once_same behind keeping (λ rs. sym (as_first e rs)) file first.range records refusal to)
        by Lowest e r to = twice_left keeping (sieve_keeps settings looked plan) first file st new some n xs within whole hold behind r.0 r.1 (as_looked r.0 r.2) ones_first rest ones refused split adds out was now left records refusal to
        by Highest e r to = twice_left keeping (sieve_keeps settings looked plan) first file st new some n xs within whole hold behind r.0 r.1 (as_looked r.0 r.2) ones_first rest ones refused split adds out was now left records refusal to
