-- Records that are kept, some after others, and that a writer takes and taps see.
use Rattle.std.specs.Prelude.{◌≡◌, ℕ, ◌+◌, ◌*◌, ◌^◌, ◌≤◌, Bool, true, false, if◌then◌else◌, List, [], IfOk, OnOk}
use Rattle.std.specs.Prelude.{Result}
use Rattle.std.specs.Prelude.{◌++◌, length, map, take, All, Option, Some, None}
use Rattle.std.specs.List.{concat}
use Rattle.las_header.specs.declared.refusal.Refusal.{Refusal}
use Rattle.las_header.specs.declared.refusal.Refusal.TheVariants.{RawRange}
use Rattle.las_header.specs.Plain.{cut_all}
use Rattle.las_filter.specs.Kept.{Kept, Steps, kept}
use Rattle.las_info.specs.Tallies.{TapSeen, count_at, shown_all}
use Rattle.las_outside.specs.Files.{FileMap}
use Rattle.las_outside.specs.Outside.{Outside}
use Rattle.las_thin.specs.Kept.{kept_behind, kept_where, passing}
use Rattle.las_thin.specs.Placed.{Placed}
use Rattle.las_thin.specs.Sieving.{Settings, Sieving, all_pass, picks_first, stays}
use Rattle.las_thin.specs.Sieving as sieve
use Rattle.laz_file.specs.Copying.{EndsAfter, HoldFirst, LeavesPart, Takes}
use Rattle.laz_reader.specs.Reading.{ReaderSeen}
use Rattle.laz_writer.specs.Writing.{WriterSeen}
use Rattle.las_convert.specs.declared.keeping.Part.{Part}

-- what is kept of a list of records
abbrev pub Keeping : Type 0
Keeping = List (List ℕ) → Kept

-- what a plan keeps of records that are thinned after its filters, by a sieve that has looked at these records: with
-- the first of a cell what stays of the records themselves, and else those of them that stay of the records looked at
abbrev pub kept_by : Settings → (looked : List Placed) → Steps → Keeping
kept_by settings looked plan records =
    if picks_first settings.pick then kept_behind plan settings records
    else kept_where (stays settings looked) plan records

-- After some records, of which none is refused, of these more these are kept, and then one is refused, or none.
abbrev pub Adds : Keeping → (before records ones : List (List ℕ)) → (refused : Bool) → Type 0
Adds keeping before records ones refused =
    (keeping before).raw_range ≡ None
    → keeping (before ++ records) ≡ record {
      records = (keeping before).records ++ ones;
      raw_range = if refused then Some (length ((keeping before).records ++ ones)) else None;
    }

-- The same after any records, if there is no sieve.
abbrev pub AddsAlways : Steps → (records ones : List (List ℕ)) → (refused : Bool) → Type 0
AddsAlways plan records ones refused = (before : List (List ℕ)) → Adds (kept plan) before records ones refused

-- The front of a buffer has these records of a block, up to the first that is refused, if there is one.
abbrev pub HoldsKept : (Are : (ones : List (List ℕ)) → (refused : Bool) → Type 0) → (buffer : List ℕ) → (size : ℕ)
    → Part → Type 0
HoldsKept Are buffer size part =
    (ones : List (List ℕ)) × (take part.length buffer ≡ concat ones) × (part.length ≡ size * length ones)
    × Are ones part.refused

-- Each record is written as it was read, and no tap sees it: there is no filter and no change, every record passes the
-- sieve, and there is no tap.
pub record ChangesNothing {Tap : Type 0} (plan : Steps) (settings : Settings) (taps : List Tap) : Type 0 where
  pub no_filter : plan.keeps ≡ []
  pub no_change : plan.changes ≡ []
  pub all_pass_it : settings ≡ all_pass
  pub no_tap : taps ≡ []

-- P of each list of records that a sieve can have looked at, and of each of this length that may have come by it.
abbrev pub OfSieve : Steps → Sieving → (place : ℕ) → (P : (looked : List Placed) → (before : List (List ℕ)) → Type 0)
    → Type 0
OfSieve plan sieving place P =
    (looked : List Placed) (before : List (List ℕ)) → length before ≡ place
    → sieve.HasSifted looked (passing plan before) sieving → P looked before

-- A sieve has looked at these records, and was asked for those of some records that pass the filters; if all records
-- pass it, it need not be asked. `read` is the number of these records.
pub record IsAfter (plan : Steps) (looked : List Placed) (before : List (List ℕ)) (sieving : Sieving) (read : ℕ)
    : Type 0 where
  pub read_is : length before ≡ read
  pub stands : (sieving.settings ≡ all_pass → ⊥) → sieve.HasSifted looked (passing plan before) sieving

-- The sieve has come by some records, or by none yet.
abbrev pub AfterSome : Steps → Sieving → (read : ℕ) → Type 0
AfterSome plan sieving read =
    (looked : List Placed) × (before : List (List ℕ)) × IsAfter plan looked before sieving read

abbrev pub BeforeAll : Steps → Sieving → (read : ℕ) → Type 0
BeforeAll plan sieving read = (looked : List Placed) × IsAfter plan looked [] sieving read

-- P of each list of records that a sieve can have looked at, and of each that may have come by it, or by no sieve.
abbrev pub OfAfter : Steps → Sieving → (read : ℕ) → (P : (looked : List Placed) → (before : List (List ℕ)) → Type 0)
    → Type 0
OfAfter plan sieving read P =
    (looked : List Placed) (before : List (List ℕ)) → IsAfter plan looked before sieving read → P looked before

-- A call takes more records, up to one that it may refuse. If it refuses none, the sieve has come by all of them after.
abbrev pub ComesBy : {X E : Type 0} → Result X E → (refused : X → Bool) → Steps → (old : Sieving) → (read : ℕ)
    → (more : List (List ℕ)) → (new : Sieving) → (now_read : ℕ) → Type 0
ComesBy result refused plan old read more new now_read =
    OfAfter plan old read (λ looked before. IfOk result (λ x. refused x ≡ false
    → IsAfter plan looked (before ++ more) new now_read))

-- A sieve has looked at those of some records that pass the filters, and was asked for none.
abbrev pub HasLooked : Steps → (records : List (List ℕ)) → Sieving → Type 0
HasLooked plan records sieving = sieve.HasSifted (passing plan records) [] sieving

-- A sieve that has looked at this many records looks at more.
abbrev pub LooksOn : {X E : Type 0} → Result X E → Steps → (read : ℕ) → (old : Sieving) → (more : List (List ℕ))
    → (new : Sieving) → Type 0
LooksOn result plan read old more new =
    (before : List (List ℕ)) → length before ≡ read → HasLooked plan before old
    → OnOk result (HasLooked plan (before ++ more) new)

-- What is kept by the sieve after any records that may have passed by it, and after none, is such.
abbrev pub AfterAny : Steps → Sieving → (read : ℕ) → (Keeping → (before : List (List ℕ)) → Type 0) → Type 0
AfterAny plan sieving read Is = (looked : List Placed) (before : List (List ℕ))
    → IsAfter plan looked before sieving read → Is (kept_by sieving.settings looked plan) before

abbrev pub AfterNone : Steps → Sieving → (read : ℕ) → (Keeping → Type 0) → Type 0
AfterNone plan sieving read Is = (looked : List Placed)
    → IsAfter plan looked [] sieving read → Is (kept_by sieving.settings looked plan)

-- No tap has counted more in a bin than 2^63 and one for each of some records.
abbrev pub HaveCounted : (records : ℕ) → List TapSeen → Type 0
HaveCounted records taps = All (λ tap. (bin : ℕ) → count_at tap.tally bin ≤ 2 ^ 63 + records) taps

-- Of some records after others `count` are kept, and then one is refused, or none; the writer took those that are kept,
-- and each tap saw them.
pub record Goes (keeping : Keeping) (before : List (List ℕ)) (size : ℕ) (records : List ℕ) (old now : Outside)
    (w v : WriterSeen) (taps seen : List TapSeen) (count : ℕ) (refused : Bool) : Type 0 where
  pub ones : List (List ℕ)
  pub adds : Adds keeping before (cut_all size records) ones refused
  pub count_is : count ≡ length ones
  pub bytes : length (concat ones) ≡ size * length ones
  pub less : length (concat ones) ≤ length records
  pub takes : Takes old now w v (concat ones)
  pub shown : seen ≡ map (λ tap. shown_all tap (cut_all size (concat ones))) taps

-- A call failed while the writer took what is kept of some of these records, from the first on.
pub record LeavesKept (keeping : Keeping) (before : List (List ℕ)) (size : ℕ) (records : List ℕ) (old now : Outside)
    (w : WriterSeen) : Type 0 where
  pub first : List (List ℕ)
  pub rest : List (List ℕ)
  pub ones : List (List ℕ)
  pub refused : Bool
  pub split : cut_all size records ≡ first ++ rest
  pub adds : Adds keeping before first ones refused
  pub part : LeavesPart old now w (concat ones)

-- The records end after n pieces: with one that is refused, or as those of the reader do.
abbrev pub EndsKeeping : (held : Option FileMap) → ReaderSeen → (n count : ℕ) → (refused : Bool) → Option Refusal
    → Type 0
EndsKeeping held reader n count true end = end ≡ Some (RawRange count)
EndsKeeping held reader n count false end = EndsAfter held reader n end

-- Of the records that a reader has left, those of its first pieces went into the writer, up to their end, or up to the
-- first bad chunk or the first record that is refused.
abbrev pub GoesToEnd : Keeping → (old now : Outside) → ReaderSeen → (w v : WriterSeen) → (taps seen : List TapSeen)
    → Option Refusal → Type 0
GoesToEnd keeping old now reader w v taps seen end =
    (n : ℕ) × (blocks : List (List ℕ)) × (count : ℕ) × (refused : Bool) × HoldFirst old.held reader n blocks
    × Goes keeping [] w.size (concat blocks) old now w v taps seen count refused
    × EndsKeeping old.held reader n count refused end

-- A call failed while they went into the writer.
abbrev pub LeavesKeeping : Keeping → (old now : Outside) → ReaderSeen → WriterSeen → Type 0
LeavesKeeping keeping old now reader w =
    (n : ℕ) × (blocks : List (List ℕ)) × HoldFirst old.held reader n blocks
    × LeavesKept keeping [] w.size (concat blocks) old now w
