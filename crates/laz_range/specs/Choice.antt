-- Choices that a decoder has to make: one of several that may come next, or a list of them.
use Rattle.std.specs.Prelude.{◌≡◌, ℕ, List, [], ◌∷◌, ◌++◌, length, Some}
use Rattle.laz_range.specs.Cut.{Cut}
use Rattle.laz_range.specs.Reading.{Reading, follow_all}

-- Of the choices asked for, x alone begins what is left, and m is left after it. `cuts` gives the events of each
-- choice.
pub record Only {X : Type 0} (IsAsked : X → Type 0) (cuts : X → List Cut) (r : Reading) (x : X) (m : Reading)
    : Type 0 where
  pub asked : IsAsked x
  pub reads : follow_all r (cuts x) ≡ Some m
  pub only : (y : X) (s : Reading) → IsAsked y → follow_all r (cuts y) ≡ Some s → y ≡ x

-- No choice asked for begins what is left.
abbrev pub Nothing : {X : Type 0} → (X → Type 0) → (X → List Cut) → Reading → Type 0
Nothing {X} IsAsked cuts r = (y : X) (s : Reading) → IsAsked y → follow_all r (cuts y) ≡ Some s → ⊥

-- The state after a list of choices, each made in the state that the earlier ones left.
abbrev pub state_after : {S X : Type 0} → (S → X → S) → S → List X → S
state_after next st [] = st
state_after next st (x ∷ xs) = state_after next (next st x) xs

-- The events of a list of choices.
abbrev pub all_cuts : {S X : Type 0} → (S → X → S) → (S → X → List Cut) → S → List X → List Cut
all_cuts next cuts st [] = []
all_cuts next cuts st (x ∷ xs) = cuts st x ++ all_cuts next cuts (next st x) xs

-- Each choice of a list is asked for in its state.
abbrev pub AllAsked : {S X : Type 0} → (S → X → S) → (S → X → Type 0) → S → List X → Type 0
AllAsked next IsAsked st [] = Unit {0}
AllAsked next IsAsked st (x ∷ xs) = IsAsked st x × AllAsked next IsAsked (next st x) xs

-- The list has n choices, each asked for in its state.
abbrev pub AreAsked : {S X : Type 0} → (S → X → S) → (S → X → Type 0) → S → ℕ → List X → Type 0
AreAsked next IsAsked st n xs = (length xs ≡ n) × AllAsked next IsAsked st xs
