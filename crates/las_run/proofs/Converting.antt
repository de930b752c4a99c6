-- What the calls that convert records say of their outcome, as what `las2las` makes of its input.
use Rattle.std.proofs.Common.{◌≡◌, ◌≢◌, inl, inr, ℕ, min, List, [], ◌∷◌, take, map, length}
use Rattle.std.proofs.Common.{Option, Some, None, Result, Ok, Err, refl, sym, ◌∙◌, ap, subst, get_or}
use Rattle.std.proofs.Common.{arith}
use Rattle.std.specs.Prelude.{IfErr, IfOk, IsErrOf, IsOk, IsSome, OnOk}
use Rattle.std.specs.List.{flat_map}
use Rattle.las_convert.specs.Converting.{AreLooked, Converts, GivesOnly, IsReady, OnlyConverts}
use Rattle.las_convert.specs.Converting.{converted_output, wanted_of, writes_kept}
use Rattle.las_filter.specs.Kept.{Steps}
use Rattle.las_header.specs.declared.refusal.Refusal.{Refusal}
use Rattle.las_header.specs.Fields.{head_of, points_of}
use Rattle.las_header.specs.Heads.{HeadView}
use Rattle.las_info.specs.declared.reporting.ReportFault.{ReportFault}
use Rattle.las_info.specs.declared.reporting.ReportFault.TheVariants as report
use Rattle.las_info.specs.Report.{tally_text}
use Rattle.las_info.specs.Tallies.{TapSeen, shown_all}
use Rattle.las_outside.specs.Files.{FileMap, WhereKnown}
use Rattle.las_outside.specs.Outside.{Outside}
use Rattle.las_outside.specs.Sinks.{SinkView, with_fault, with_more}
use Rattle.las_thin.specs.Sieving.{Settings, Sieving}
use Rattle.laz_forms.specs.declared.fault.Fault.{Fault}
use Rattle.laz_forms.specs.declared.fault.Fault.TheVariants as file
use Rattle.laz_forms.specs.Outputs.{records_after}
use Rattle.laz_forms.specs.Ranges.{Range}
use Rattle.laz_forms.specs.Refusing.{IsRefusal}
use Rattle.laz_forms.proofs.Public.{known_both, known_then, known_three, refused_once}
use Rattle.laz_file.specs.Endings.{EndsMaking, Product, files_after}
use Rattle.laz_file.proofs.Public.{ends_same}
use Rattle.laz_reader.specs.Reading.{ReaderSeen, StandsFor}
use Rattle.las_run.specs.declared.stop.Stop.{Stop}
use Rattle.las_run.specs.declared.stop.Stop.TheVariants as stop
use Rattle.las_run.specs.Endings.{ComesAtOpening, Ending, Refused}
use Rattle.las_run.specs.Tools.{ConvertsIn, converted, ending_of, ending_with, kept_text, range_in, tallies_text}
use Rattle.las_run.specs.Ends.{Change, EndsCommand, IsOnlyEnding, LeavesEnding, MakesEnding, StopsOpening, quiet}
use Rattle.las_run.specs.Ends.{stop_by, stopped_report}
use Rattle.las_run.proofs.Asking.{not_missing}
use Rattle.las_run.proofs.Endings.{nothing_left}
use Rattle.las_run.proofs.Making.{HasText, IsToldBy, ends_put, ends_stopped, leaves}
use Rattle.las_run.proofs.Opening.{making_after}
use Rattle.las_run.proofs.Reporting.{lines_seen, lines_shown}

-- what converting gives alone has one ending
pub only_conversion : (size : Option ℕ) (range : List ℕ → Range) (chosen : List TapSeen) (input output : List ℕ)
    (plan : Steps) (settings : Settings) (file records : List ℕ) (refusal : Option Refusal)
    → OnlyConverts plan settings file (range file) records refusal
    → IsOnlyEnding (ConvertsIn size range chosen input output plan settings file)
    (converted size chosen input output settings.pick file records refusal)
only_conversion size range chosen input output plan settings file records refusal only = record {
  makes = (records, refusal, only.are, refl);
  only = λ other makes.
      let same = only.only makes.0 makes.1 makes.2 in
      makes.3
      ∙ ap (λ (rs : List ℕ). converted size chosen input output settings.pick file rs makes.1) same.0
      ∙ ap (converted size chosen input output settings.pick file records) same.1;
}

-- ---- what `las2las` makes of an input
-- no tally is put after a refusal
no_text : (chosen : List TapSeen) (file records : List ℕ) (refusal : Option Refusal) → IsSome refusal
    → kept_text chosen file records refusal ≡ []
no_text chosen file records None some = absurd (cc)
no_text chosen file records (Some cause) some = refl

module _ (size : Option ℕ) (range : List ℕ → Range) (chosen : List TapSeen) (input output : List ℕ) (plan : Steps)
    (settings : Settings) where
  abbrev pub MadeIn : (file : List ℕ) → Product → Type 0
  MadeIn file product = Converts (wanted_of plan settings (range file)) output size file product

  abbrev EndsIn : (file : List ℕ) → Ending → Type 0
  EndsIn file ending = ConvertsIn size range chosen input output plan settings file ending

  told : IsToldBy MadeIn input IsSome EndsIn
  told = record {
    product = λ file ending ends. (
      writes_kept settings.pick (converted_output output file size) ends.0 ends.1,
      kept_text chosen file ends.0 ends.1,
      (ends.0, ends.1, ends.2, refl),
      ends.3,
      no_text chosen file ends.0 ends.1,
    );
    silent = λ file product makes some.
        let made = writes_kept settings.pick (converted_output output file size) makes.0 makes.1 in
        let refused = subst (λ (p : Product). IsSome p.refusal) makes.3 some in (
          makes.0,
          makes.1,
          makes.2,
          ap (ending_of input) makes.3
              ∙ ap (ending_with input made) (sym (no_text chosen file makes.0 makes.1 refused)),
        );
  }

  -- a refusal, or a call that failed
  pub ends_stopping : (change : Change) (fault : Fault) → change.out_now ≡ change.out
      → ((cause : Refusal) → fault ≡ file.Refused cause → ComesAtOpening cause → ⊥)
      → EndsMaking {T = Unit {0}} MadeIn input change.files change.files_now (Err fault)
      → EndsCommand EndsIn input change (Err (stop_by 0 fault))
  ends_stopping change fault quiet later ends =
      ends_stopped told change (Unit {0}) fault (λ cause. refl) quiet later ends

  -- all is done, and the tallies were put, or not
  pub ends_tallying : (change : Change) (text : List ℕ) (outcome : Result (Unit {0}) ReportFault)
      → EndsMaking {T = Unit {0}} MadeIn input change.files change.files_now (Ok tt)
      → WhereKnown change.files.held input (λ file. (records : List ℕ)
      × OnlyConverts plan settings file (range file) records None
      × (text ≡ tallies_text chosen (records_after (head_of file) records)))
      → OnOk outcome (change.out_now ≡ with_more change.out text)
      → (IsErrOf outcome report.Failed → (n : ℕ) × (change.out_now ≡ with_fault (with_more change.out (take n text))))
      → (IsErrOf outcome report.Failed → text ≢ [])
      → (IsErrOf outcome report.Memory → change.out_now ≡ change.out)
      → EndsCommand EndsIn input change (stopped_report outcome)
  ends_tallying change text outcome ends tallied put failed some memory =
      ends_put EndsIn input change text outcome
      (known_both change.files.held input _ _ (HasText EndsIn input change text) (λ file h t.
      let made = writes_kept settings.pick (converted_output output file size) t.0 None in
      let same : made ≡ h.0 = h.1.only made (t.0, None, t.1.are, refl) in (
        converted size chosen input output settings.pick file t.0 None,
        only_conversion size range chosen input output plan settings file t.0 None t.1,
        refl,
        sym t.2,
        λ files known. h.3 files known ∙ ap (λ (p : Product). Some (files_after p files)) (sym same),
      )) ends.0 tallied)
      (leaves told change ends.1) put failed some memory

-- places cut to those of the records that a head counts
abbrev pub cut_to : (start stop : ℕ) → (head : List ℕ) → Range
cut_to start stop head = record { start = min start (points_of head); stop = min stop (points_of head) }

-- the range that a reader has sought is that of its file
pub sought_range : (reader : ReaderSeen) (start stop : ℕ) (file : List ℕ)
    → reader.range ≡ cut_to start stop reader.head.bytes → StandsFor reader file
    → reader.range ≡ range_in start stop file
sought_range reader start stop file is s = is ∙ ap (cut_to start stop) (ap (λ (v : HeadView). v.bytes) s.head)

-- What a call makes of the range that a reader has sought is what it makes of those places of the file.
pub made_sought : (reader : ReaderSeen) (start stop : ℕ) (plan : Steps) (settings : Settings) (output : List ℕ)
    (size : Option ℕ) (old new : Outside) (outcome : Result (Unit {0}) Fault)
    → reader.range ≡ cut_to start stop reader.head.bytes → WhereKnown old.held reader.name (StandsFor reader)
    → EndsMaking (Converts (wanted_of plan settings reader.range) output size) reader.name old new outcome
    → EndsMaking (λ file product. Converts (wanted_of plan settings (range_in start stop file)) output size file
    product)
    reader.name old new outcome
made_sought reader start stop plan settings output size old new outcome is stands ends =
    let Makes : Range → (file : List ℕ) → Product → Type 0 =
    λ range file product. Converts (wanted_of plan settings range) output size file product in
    ends_same (Makes reader.range) (λ file product. Makes (range_in start stop file) file product) reader.name old new
    (known_then old.held reader.name (StandsFor reader) _ (λ file s product.
    let same = sought_range reader start stop file is s in (
      subst (λ (r : Range). Makes r file product) same,
      subst (λ (r : Range). Makes r file product) (sym same),
    )) stands) outcome ends

-- ---- an accepted input could not be opened again
module _ (Ends : List ℕ → Ending → Type 0) (input : List ℕ) (old new : Outside) (out : SinkView) (reader : ReaderSeen)
    (stands : WhereKnown old.held input (StandsFor reader)) (same : new.held ≡ old.held) where
  leaves_nothing : LeavesEnding Ends input (quiet old new out)
  leaves_nothing = known_then old.held input (StandsFor reader) _
      (λ file s files ending known makes. (files, same ∙ known, nothing_left ending.outputs files)) stands

  -- it is not refused
  never_refused : (cause : Refusal) → WhereKnown old.held input (λ file. IsRefusal file (Some cause))
      → MakesEnding Ends input (quiet old new out) (Refused input cause)
  never_refused cause refused = known_both old.held input (StandsFor reader) (λ file. IsRefusal file (Some cause)) _
      (λ file s is. absurd (none_is_cause cause (refused_once file None (Some cause) s.accepted is))) stands refused
    where
      none_is_cause : (c : Refusal) → ◌≡◌ {A = Option Refusal} None (Some c) → ⊥
      none_is_cause c e = absurd (cc)

  ends_opening_again : (s : Stop) → StopsOpening 0 input old new s → EndsCommand Ends input (quiet old new out) (Err s)
  ends_opening_again stop.Memory stops = (leaves_nothing, refl)
  ends_opening_again (stop.Usage index) stops = stops
  ends_opening_again (stop.Read number) stops = (
    stops.0,
    elim stops.1 [
      | inl missing ↦ not_missing old.held input (StandsFor reader) stands missing
      | inr rose ↦ rose
    ],
    leaves_nothing,
    refl,
  )
  ends_opening_again stop.Write stops = absurd stops
  ends_opening_again (stop.Refused number cause) stops =
      (stops.0, never_refused cause stops.1, leaves_nothing, (λ first. same), refl)
  ends_opening_again (stop.Differs number field) stops = stops
  ends_opening_again (stop.TooMany surplus) stops = stops

pub stops_if : (Ends : (chosen : List TapSeen) → (output : List ℕ) → List ℕ → Ending → Type 0) (input : List ℕ)
    (old mid new : Outside) (reader : ReaderSeen) (answer : Result ReaderSeen Stop)
    → WhereKnown old.held input (StandsFor reader) → mid.held ≡ old.held → mid.read_faults ≡ old.read_faults
    → mid.write_faults ≡ old.write_faults → new.held ≡ mid.held
    → IfErr answer (StopsOpening 0 input mid new)
    → IfErr answer (λ s. (chosen : List TapSeen) (output : List ℕ) (out : SinkView)
    → EndsCommand (Ends chosen output) input (quiet old new out) (Err s))
stops_if Ends input old mid new reader (Ok again) stands same reads writes after stops = tt
stops_if Ends input old mid new reader (Err s) stands same reads writes after stops = λ chosen output out.
    let also = subst (λ (h : Option FileMap). WhereKnown h input (StandsFor reader)) (sym same) stands in
    making_after (Ends chosen output) input new out out old mid same reads writes (Err s)
    (ends_opening_again (Ends chosen output) input mid new out reader also after s stops)

-- A sieve that is ready for the range of one reader is so for that of another, which has sought the same places.
ready_again : (reader now : ReaderSeen) (start stop : ℕ) (input : List ℕ) (plan : Steps) (sieving : Sieving)
    (held : Option FileMap)
    → reader.range ≡ cut_to start stop reader.head.bytes → now.range ≡ cut_to start stop now.head.bytes
    → WhereKnown held input (StandsFor reader) → WhereKnown held input (StandsFor now)
    → IsReady held input plan reader.range sieving → IsReady held input plan now.range sieving
ready_again reader now start stop input plan sieving held first second stands also ready = (
  ready.0,
  ready.1,
  known_three held input (StandsFor reader) (StandsFor now)
      (λ file. AreLooked sieving.settings.pick plan file reader.range ready.0) _
      (λ file s t looked. subst (λ (r : Range). AreLooked sieving.settings.pick plan file r ready.0)
      (sought_range reader start stop file first s ∙ sym (sought_range now start stop file second t)) looked)
      stands also ready.2,
)

-- ---- answers by cases
pub ready_if : (reader : ReaderSeen) (start stop : ℕ) (input : List ℕ) (plan : Steps) (sieving : Sieving)
    (known mid : Option FileMap) (answer : Result ReaderSeen Stop)
    → mid ≡ known → reader.range ≡ cut_to start stop reader.head.bytes → WhereKnown known input (StandsFor reader)
    → IsReady known input plan reader.range sieving
    → IfOk answer (λ now. now.range ≡ cut_to start stop now.head.bytes)
    → IfOk answer (λ now. WhereKnown mid input (StandsFor now))
    → IfOk answer (λ now. IsReady known input plan now.range sieving)
ready_if reader start stop input plan sieving known mid (Ok again) same first stands ready second also =
    ready_again reader again start stop input plan sieving known first second stands
    (subst (λ (h : Option FileMap). WhereKnown h input (StandsFor again)) same also) ready
ready_if reader start stop input plan sieving known mid (Err s) same first stands ready second also = tt

-- ---- the text of the tallies
pub kept_lines : {X : Type 0} (seen : X → TapSeen) (items before : List X) (records : List (List ℕ))
    → map seen items ≡ map (λ x. shown_all (seen x) records) before
    → flat_map (λ x. tally_text (seen x).name (seen x).tally) items ≡ tallies_text (map seen before) records
kept_lines seen items before records shown =
    lines_seen seen items
    ∙ ap (λ (ts : List TapSeen). flat_map (λ tap. tally_text tap.name tap.tally) ts) (shown ∙ sym (map_twice before))
    ∙ lines_shown (map seen before) records
  where
    map_twice : (xs : List _) → map (λ tap. shown_all tap records) (map seen xs) ≡ map (λ x. shown_all (seen x) records)
        xs
    map_twice [] = refl
    map_twice (x ∷ xs) = ap (λ (ts : List TapSeen). shown_all (seen x) records ∷ ts) (map_twice xs)

-- the lines of a tap are not empty
pub some_lines : {X : Type 0} (seen : X → TapSeen) (items : List X) → (length items ≡ 0 → ⊥)
    → flat_map (λ x. tally_text (seen x).name (seen x).tally) items ≢ []
some_lines seen [] some empty = some refl
some_lines seen (x ∷ items) some empty =
    let first : 116 ≡ 0 = ap (λ (t : List ℕ). get_or t 0 0) empty in
    absurd (omega (arith, first))

-- what was given and tallied, with the settings and the taps that a caller knows
pub text_told : {X : Type 0} (seen : X → TapSeen) (range : List ℕ → Range) (sought : Range) (input : List ℕ)
    (plan : Steps) (held : Option FileMap) (reader : ReaderSeen) (settings : Settings) (taps before now told : List X)
    → taps ≡ before → told ≡ now → WhereKnown held input (StandsFor reader)
    → ((file : List ℕ) → StandsFor reader file → sought ≡ range file)
    → WhereKnown held input (λ file. (records : List ℕ) × GivesOnly (wanted_of plan settings sought) file records None
    × (map seen now ≡ map (λ x. shown_all (seen x) (records_after (head_of file) records)) taps))
    → WhereKnown held input (λ file. (records : List ℕ) × OnlyConverts plan settings file (range file) records None
    × (flat_map (λ x. tally_text (seen x).name (seen x).tally) told
    ≡ tallies_text (map seen before) (records_after (head_of file) records)))
text_told seen range sought input plan held reader settings taps before now told same put stands in_range tallied =
    known_both held input (StandsFor reader) _ _ (λ file s h.
    let records = h.0 in (
      records,
      subst (λ (r : Range). OnlyConverts plan settings file r records None) (in_range file s) h.1,
      ap (flat_map (λ x. tally_text (seen x).name (seen x).tally)) put
          ∙ kept_lines seen now before (records_after (head_of file) records)
          (h.2 ∙ ap (map (λ x. shown_all (seen x) (records_after (head_of file) records))) same),
    )) stands tallied

-- what holds with settings and a chunk size holds with those that a caller knows
pub known_as : (F : Settings → Option ℕ → Type 0) (own settings : Settings) (chunk size : Option ℕ) → own ≡ settings
    → chunk ≡ size → F own chunk → F settings size
known_as F own settings chunk size sieved sized f =
    subst (F settings) sized (subst (λ (s : Settings). F s chunk) sieved f)

-- a report that failed is not put
pub not_put : (outcome : Result (Unit {0}) ReportFault) → IsOk outcome → IsErrOf outcome report.Failed → ⊥
not_put (Ok done) ok failed = absurd (let clash : ◌≡◌ {A = Result (Unit {0}) ReportFault} (Ok done)
    (Err report.Failed) = failed in cc)
not_put (Err fault) ok failed = absurd (cc)
