-- What a survey has counted of the records that it was shown.
use Rattle.std.specs.Prelude.{◌≡◌, ℕ, ◌+◌, ◌^◌, ◌<◌, ◌≤◌, List, length, map, All, ◌++◌, OnOk, Result}
use Rattle.las_info.specs.Summaries.{SummarySeen, summary_of}
use Rattle.las_info.specs.Tallies.{TapSeen, count_at, shown_all}
use Rattle.las_header.specs.Plain.{cut_all}

-- what contracts see of a survey: what it has counted, and its taps
pub record SurveySeen : Type 0 where
  pub summary : SummarySeen
  pub taps : List TapSeen

-- A survey with these taps was shown these records: it has counted each once, and so has each tap.
pub record IsShown (taps : List TapSeen) (records : List (List ℕ)) (survey : SurveySeen) : Type 0 where
  pub summary : survey.summary ≡ summary_of records
  pub taps_are : survey.taps ≡ map (λ tap. shown_all tap records) taps

-- what is seen of a survey with this summary and these taps
abbrev pub survey_of : SummarySeen → List TapSeen → SurveySeen
survey_of summary taps = record { summary = summary; taps = taps }

-- A survey was shown some records, and has room for this many more: with them it counts fewer than 2^32, and none of its
-- taps had counted more than 2^63 in a bin before the first.
abbrev pub HasRoomForMore : SurveySeen → (count : ℕ) → Type 0
HasRoomForMore survey count = (taps : List TapSeen) × (before : List (List ℕ)) × IsShown taps before survey
    × All (λ tap. (bin : ℕ) → count_at tap.tally bin ≤ 2 ^ 63) taps
    × (length before + count < 2 ^ 32)

-- A survey is shown the records of a block, each of this size: it has then counted these, too, each once.
abbrev pub ShowsBlock : {E : Type 0} → Result (Unit {0}) E → (old new : SurveySeen) → (size : ℕ) → (block : List ℕ)
    → Type 0
ShowsBlock result old new size block =
    (taps : List TapSeen) (before : List (List ℕ)) → IsShown taps before old
    → OnOk result (IsShown taps (before ++ cut_all size block) new)
