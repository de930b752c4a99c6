-- Taps that are chosen by their names, and what is reported of a file.
use Rattle.std.proofs.Common.{◌≡◌, ◌≢◌, ℕ, Bool, true, false, ◌||◌, cond, if◌then◌else◌, List, [], ◌∷◌, ◌++◌, length}
use Rattle.std.proofs.Common.{take, map, get_or, Option, Some, None, find, refl, sym, ◌∙◌, ap, subst, arith}
use Rattle.std.specs.Prelude.{All, Result, IsErrOf, OnOk, IsSome}
use Rattle.std.specs.List.{AllPairs, AllZip, concat, cons_option, flat_map, list_any}
use Rattle.std.specs.Option.{option_map}
use Rattle.std.specs.Str.{bytes_eq}
use Rattle.std.proofs.lemmas.List.{get_or-map, length-map}
use Rattle.std.proofs.lemmas.List.Elements.{All-cons, All-head, All-nil, All-tail}
use Rattle.las_header.specs.declared.refusal.Refusal.TheVariants.{BadChunk}
use Rattle.las_header.specs.Fields.{head_of, is_packed}
use Rattle.las_info.specs.declared.reporting.ReportFault.{ReportFault}
use Rattle.las_info.specs.declared.reporting.ReportFault.TheVariants as report
use Rattle.las_info.specs.Report.{report_text, tally_text}
use Rattle.las_info.specs.Summaries.{SummarySeen, summary_of}
use Rattle.las_info.specs.Surveys.{IsShown, SurveySeen}
use Rattle.las_info.specs.Tallies.{TapSeen, shown_all}
use Rattle.las_info.proofs.Public.{all_seen}
use Rattle.las_outside.specs.Files.{WhereKnown}
use Rattle.las_outside.specs.Sinks.{with_fault, with_more}
use Rattle.laz_file.specs.Copying.{AreOnlyRecords}
use Rattle.laz_forms.specs.Outputs.{records_after}
use Rattle.laz_forms.specs.Pieces.{ArePieces, Piece}
use Rattle.laz_reader.specs.Reading.{ReaderSeen, StandsFor, chunks_in}
use Rattle.laz_forms.proofs.Public.{known_both, one_pieces, some_same}
use Rattle.laz_table.specs.VlrCauses.{chunk_size_of}
use Rattle.laz_file.specs.Endings.{LeavesOf, Product}
use Rattle.las_survey.specs.Surveying.{Surveys, surveyed}
use Rattle.las_run.specs.Endings.{Ending}
use Rattle.las_run.specs.Ends.{Change, EndsCommand, IsOnlyEnding, stopped_report}
use Rattle.las_run.specs.Tools.{Reports, chosen_taps, chunks_line, ending_of, ending_with, report_if, report_of}
use Rattle.las_run.specs.Tools.{reports, tallies_text}
use Rattle.las_run.proofs.Making.{HasText, IsToldBy, ends_put, leaves}
use Rattle.las_words.proofs.Public.{bytes_eq-swap}

-- ---- names

none_is : {X : Type 0} (y : X) → ◌≡◌ {A = Option X} None (Some y) → ⊥
none_is y e = absurd (cc)

find_seen : {X Y : Type 0} (seen : X → Y) (p : Y → Bool) (xs : List X) → find p (map seen xs) ≡ option_map seen (find (λ x. p (seen x)) xs)
find_seen seen p [] = refl
find_seen seen p (x ∷ xs) = go (p (seen x)) (find_seen seen p xs)
  where
    go : (b : Bool) → find p (map seen xs) ≡ option_map seen (find (λ x. p (seen x)) xs)
        → cond b (Some (seen x)) (find p (map seen xs)) ≡ option_map seen (cond b (Some x) (find (λ x. p (seen x)) xs))
    go true rest = refl
    go false rest = rest

find_holds : {X : Type 0} (P : X → Type 0) (p : X → Bool) (xs : List X) (y : X) → All P xs → find p xs ≡ Some y → P y
find_holds P p [] y all is = absurd (none_is y is)
find_holds P p (x ∷ xs) y all is = go (p x) is (λ rest. find_holds P p xs y (All-tail P x xs all) rest)
  where
    go : (b : Bool) → cond b (Some x) (find p xs) ≡ Some y → (find p xs ≡ Some y → P y) → P y
    go true found rest = subst P (some_same x y found) (All-head P x xs all)
    go false found rest = rest found

-- names of which no two are the same, as a function sees them
pub distinct : {S : Type 0} (text : S → List ℕ) (names : List S) → AllPairs (λ name other. bytes_eq name other ≡ false) (map text names) → AllPairs (λ name other. bytes_eq (text name) (text other) ≡ false) names
distinct text names all i j d less within =
    let here = all i j (text d) less (omega (arith, within, length-map names text)) in
    subst (λ (a : List ℕ). bytes_eq a (text (get_or names j d)) ≡ false) (get_or-map text names i d (text d) (omega (arith, less, within)))
    (subst (λ (b : List ℕ). bytes_eq (get_or (map text names) i (text d)) b ≡ false) (get_or-map text names j d (text d) within) here)

-- ---- taps, as a function sees them, and names, as another does
module _ {X : Type 0} (seen : X → TapSeen) where
  there_one : (name : List ℕ) (xs : List X) → list_any (bytes_eq name) (map (λ x. (seen x).name) xs) ≡ true → IsSome (find (λ x. bytes_eq (seen x).name name) xs)
  there_one name [] any = absurd (let t : false ≡ true = any in cc)
  there_one name (x ∷ xs) any = go (bytes_eq (seen x).name name) refl (λ rest. there_one name xs rest)
    where
      go : (b : Bool) → bytes_eq (seen x).name name ≡ b → (list_any (bytes_eq name) (map (λ x. (seen x).name) xs) ≡ true → IsSome (find (λ x. bytes_eq (seen x).name name) xs))
          → IsSome (cond b (Some x) (find (λ x. bytes_eq (seen x).name name) xs))
      go true same rest = refl
      go false other rest = rest (ap (λ (b : Bool). b || list_any (bytes_eq name) (map (λ x. (seen x).name) xs)) (sym (bytes_eq-swap (seen x).name name other)) ∙ any)

  module _ {S : Type 0} (text : S → List ℕ) where
    pub there : (names : List S) (xs : List X) → All (λ name. list_any (bytes_eq name) (map (λ x. (seen x).name) xs) ≡ true) (map text names)
        → All (λ name. IsSome (find (λ x. bytes_eq (seen x).name (text name)) xs)) names
    there names xs all k d within =
        there_one (text (get_or names k d)) xs (all_seen text (λ name. list_any (bytes_eq name) (map (λ x. (seen x).name) xs) ≡ true) names all k d within)

    pub chosen : (xs : List X) (names : List S) (ys : List X) → AllZip (λ name y. find (λ x. bytes_eq (seen x).name (text name)) xs ≡ Some y) names ys
        → map seen ys ≡ chosen_taps (map seen xs) (map text names)
    chosen xs [] [] are = refl
    chosen xs [] (y ∷ ys) are = absurd are
    chosen xs (name ∷ names) [] are = absurd are
    chosen xs (name ∷ names) (y ∷ ys) are =
        let found : find (λ tap. bytes_eq tap.name (text name)) (map seen xs) ≡ Some (seen y) =
        find_seen seen (λ tap. bytes_eq tap.name (text name)) xs ∙ ap (option_map seen) are.0 in
        ap (λ (rest : List TapSeen). seen y ∷ rest) (chosen xs names ys are.1)
        ∙ sym (ap (λ (o : Option TapSeen). cons_option o (chosen_taps (map seen xs) (map text names))) found)

    pub holds_of_chosen : (P : X → Type 0) (xs : List X) (names : List S) (ys : List X) → All P xs → AllZip (λ name y. find (λ x. bytes_eq (seen x).name (text name)) xs ≡ Some y) names ys
        → All P ys
    holds_of_chosen P xs [] [] all are = All-nil P
    holds_of_chosen P xs [] (y ∷ ys) all are = absurd are
    holds_of_chosen P xs (name ∷ names) [] all are = absurd are
    holds_of_chosen P xs (name ∷ names) (y ∷ ys) all are =
        All-cons P y ys (find_holds P (λ x. bytes_eq (seen x).name (text name)) xs y all are.0) (holds_of_chosen P xs names ys all are.1)

  -- the lines of taps
  pub lines_seen : (xs : List X) → flat_map (λ x. tally_text (seen x).name (seen x).tally) xs ≡ flat_map (λ tap. tally_text tap.name tap.tally) (map seen xs)
  lines_seen [] = refl
  lines_seen (x ∷ xs) = ap (λ (rest : List ℕ). tally_text (seen x).name (seen x).tally ++ rest) (lines_seen xs)

pub lines_shown : (taps : List TapSeen) (records : List (List ℕ)) → flat_map (λ tap. tally_text tap.name tap.tally) (map (λ tap. shown_all tap records) taps) ≡ tallies_text taps records
lines_shown [] records = refl
lines_shown (tap ∷ taps) records = ap (λ (rest : List ℕ). tally_text tap.name (shown_all tap records).tally ++ rest) (lines_shown taps records)

-- ---- the text of a report
pub some_text : (head : List ℕ) (chunk : Option (ℕ × ℕ)) (summary : SummarySeen) (tallies : List ℕ) → report_text head chunk summary tallies ≢ []
some_text head chunk summary tallies empty =
    let first : 118 ≡ 0 = ap (λ (xs : List ℕ). get_or xs 0 0) empty in
    absurd (omega (arith, first))

chunks_are : (packed : Bool) (size : ℕ) (pieces : List Piece) (chunk : Option ℕ) (own : List Piece) → chunk ≡ (if packed then Some size else None) → own ≡ chunks_in chunk pieces
    → option_map {U = ℕ × ℕ} (λ c. (c, length own)) chunk ≡ (if packed then Some (size, length pieces) else None)
chunks_are true size pieces chunk own is are =
    ap (option_map {U = ℕ × ℕ} (λ (c : ℕ). (c, length own))) is ∙ (let counted : List Piece → Option (ℕ × ℕ) = λ ps. Some (size, length ps) in ap counted) (are ∙ ap (λ (o : Option ℕ). chunks_in o pieces) is)
chunks_are false size pieces chunk own is are = ap (option_map {U = ℕ × ℕ} (λ (c : ℕ). (c, length own))) is

-- ---- the ending of a report
module _ (taps : List TapSeen) (input : List ℕ) (tallies : List (List ℕ)) (file : List ℕ) where
  abbrev report_ending : List (List ℕ) → Option ℕ → List Piece → Ending
  report_ending blocks bad pieces = reports input
      (report_of (chosen_taps taps tallies) file pieces (records_after (head_of file) (concat blocks))) bad

  pub only_report : (blocks : List (List ℕ)) (bad : Option ℕ) (pieces : List Piece) → AreOnlyRecords file blocks bad → ArePieces file pieces
      → IsOnlyEnding (Reports taps input tallies file) (report_ending blocks bad pieces)
  only_report blocks bad pieces are listed = record {
    makes = (blocks, bad, pieces, are.are, listed, refl);
    only = λ other makes.
        let same = are.only makes.0 makes.1 makes.3 in
        makes.5
        ∙ ap (λ (bs : List (List ℕ)). report_ending bs makes.1 makes.2) same.0
        ∙ ap (λ (worse : Option ℕ). report_ending blocks worse makes.2) same.1
        ∙ ap (report_ending blocks bad) (one_pieces file makes.2 pieces makes.4 listed);
  }

-- no report is put after a refusal
no_report : (report : List ℕ) (bad : Option ℕ) → IsSome (option_map BadChunk bad) → report_if report bad ≡ []
no_report report None some = absurd (cc)
no_report report (Some i) some = refl

pub told : (taps : List TapSeen) (input : List ℕ) (tallies : List (List ℕ))
    → IsToldBy Surveys input IsSome (Reports taps input tallies)
told taps input tallies =
    let report : (file : List ℕ) → List (List ℕ) → List Piece
    → List ℕ = λ file blocks pieces. report_of (chosen_taps taps tallies) file pieces
    (records_after (head_of file) (concat blocks)) in
    record {
      product = λ file ending ends. let text = report file ends.0 ends.2 in
          (surveyed ends.1, report_if text ends.1, (ends.0, ends.1, ends.3, refl), ends.5, no_report text ends.1);
      silent = λ file product makes some.
          let text = report file makes.0 makes.2.0 in
          let refused = subst (λ (p : Product). IsSome p.refusal) makes.3 some in (
            makes.0,
            makes.1,
            makes.2.0,
            makes.2,
            makes.2.1,
            ap (ending_of input) makes.3
                ∙ ap (ending_with input (surveyed makes.1)) (sym (no_report text makes.1 refused)),
          );
    }

-- what is put of a file that was surveyed
module _ (taps : List TapSeen) (tallies : List (List ℕ)) (reader : ReaderSeen) where
  -- the text of a survey's report
  abbrev pub survey_text : (head : List ℕ) (chunk : Option ℕ) (chunks : ℕ) → SurveySeen → List ℕ
  survey_text head chunk chunks survey =
      report_text head (option_map {U = ℕ × ℕ} (λ c. (c, chunks)) chunk) survey.summary (flat_map (λ tap. tally_text tap.name tap.tally) survey.taps)

  survey_report : (file : List ℕ) (blocks : List (List ℕ)) (pieces : List Piece) (survey : SurveySeen) → reader.head.bytes ≡ head_of file
      → option_map {U = ℕ × ℕ} (λ c. (c, length reader.pieces)) reader.chunk ≡ chunks_line file pieces
      → IsShown (chosen_taps taps tallies) (records_after reader.head.bytes (concat blocks)) survey
      → survey_text reader.head.bytes reader.chunk (length reader.pieces) survey ≡ report_of (chosen_taps taps tallies) file pieces (records_after (head_of file) (concat blocks))
  survey_report file blocks pieces survey head line is =
      let records = records_after reader.head.bytes (concat blocks) in
      ap (λ (c : Option (ℕ × ℕ)). report_text reader.head.bytes c survey.summary (flat_map (λ tap. tally_text tap.name tap.tally) survey.taps)) line
      ∙ ap (λ (s : SummarySeen). report_text reader.head.bytes (chunks_line file pieces) s (flat_map (λ tap. tally_text tap.name tap.tally) survey.taps)) is.summary
      ∙ ap (λ (ts : List ℕ). report_text reader.head.bytes (chunks_line file pieces) (summary_of records) ts)
      (ap (λ (ts : List TapSeen). flat_map (λ tap. tally_text tap.name tap.tally) ts) is.taps_are ∙ lines_shown (chosen_taps taps tallies) records)
      ∙ ap (λ (h : List ℕ). report_text h (chunks_line file pieces) (summary_of (records_after h (concat blocks))) (tallies_text (chosen_taps taps tallies) (records_after h (concat blocks)))) head

  -- what is known of a file that was surveyed
  abbrev pub IsSurveyed : SurveySeen → (file : List ℕ) → Type 0
  IsSurveyed survey file = (blocks : List (List ℕ)) × AreOnlyRecords file blocks None
      × IsShown (chosen_taps taps tallies) (records_after (head_of file) (concat blocks)) survey

  -- how the run ends then
  module _ (change : Change) (stands : WhereKnown change.files.held reader.name (StandsFor reader)) (same : change.files_now.held ≡ change.files.held) where
    surveyed_text : (survey : SurveySeen) (text : List ℕ)
        → text ≡ survey_text reader.head.bytes reader.chunk (length reader.pieces) survey → (file : List ℕ)
        → StandsFor reader file → IsSurveyed survey file
        → HasText (Reports taps reader.name tallies) reader.name change text file
    surveyed_text survey text is file s known =
        let head : reader.head.bytes ≡ head_of file = ap (λ h. h.bytes) s.head in
        let line = chunks_are (is_packed (head_of file)) (chunk_size_of (head_of file)) s.pieces reader.chunk
        reader.pieces s.chunk s.chunks in
        let shown = subst (λ (h : List ℕ). IsShown (chosen_taps taps tallies) (records_after h (concat known.0)) survey)
        (sym head) known.2 in (
          report_ending taps reader.name tallies file known.0 None s.pieces,
          only_report taps reader.name tallies file known.0 None s.pieces known.1 s.are,
          refl,
          sym (is ∙ survey_report file known.0 s.pieces survey head line shown),
          λ files held. same ∙ held,
        )

    pub ends_reporting : (survey : SurveySeen) (text : List ℕ) (outcome : Result (Unit {0}) ReportFault) → WhereKnown change.files.held reader.name (IsSurveyed survey)
        → text ≡ survey_text reader.head.bytes reader.chunk (length reader.pieces) survey → text ≢ []
        → LeavesOf Surveys reader.name change.files change.files_now
        → OnOk outcome (change.out_now ≡ with_more change.out text)
        → (IsErrOf outcome report.Failed → (n : ℕ) × (change.out_now ≡ with_fault (with_more change.out (take n text))))
        → (IsErrOf outcome report.Memory → change.out_now ≡ change.out)
        → EndsCommand (Reports taps reader.name tallies) reader.name change (stopped_report outcome)
    ends_reporting survey text outcome surveyed is some left put failed memory =
        ends_put (Reports taps reader.name tallies) reader.name change text outcome
        (known_both change.files.held reader.name (StandsFor reader) (IsSurveyed survey) _
        (surveyed_text survey text is) stands surveyed)
        (leaves (told taps reader.name tallies) change left) put failed (λ fails. some) memory
