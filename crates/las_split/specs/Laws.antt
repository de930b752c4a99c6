-- Laws of splitting.
use Rattle.std.specs.Prelude.{ℕ, List, Option}
use Rattle.las_filter.specs.declared.rule.Rule.{Rule}
use Rattle.las_header.specs.declared.refusal.Refusal.{Refusal}
use Rattle.laz_range.specs.Span.{IsBytes}
use Rattle.laz_forms.specs.Refusing.{IsAcceptedFile}
use Rattle.las_split.specs.Splitting.{OnlySplits, SplitsTo}

-- Whatever the bytes of an accepted file are, what splitting it gives is the only thing that it can give.
abbrev pub SplitsInOneWay : Type 0
SplitsInOneWay = (rule : Rule) (file : List ℕ) (records : List (List ℕ)) (refusal : Option Refusal)
    → IsAcceptedFile file → IsBytes file → SplitsTo rule file records refusal → OnlySplits rule file records refusal

-- Splitting an accepted file gives something.
abbrev pub SplitsToSomething : Type 0
SplitsToSomething = (rule : Rule) (file : List ℕ) → IsAcceptedFile file
    → (records : List (List ℕ)) × (refusal : Option Refusal) × SplitsTo rule file records refusal
