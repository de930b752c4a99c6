-- Uses of models: which events are under names of a use, and which uses differ.
use Rattle.std.specs.Prelude.{◌≡◌, ℕ, ◌&&◌, Bool, true, not, List, [], ◌∷◌}
use Rattle.std.specs.List.{AllByRecursion}
use Rattle.laz_integer.specs.Events.{Event, Name, Role, Own, same_text, symbols_under, bits_under}

-- The name of a model of a use.
abbrev pub name_of : List ℕ → Role → ℕ → Name
name_of kind role which = record { kind = kind; role = role; which = which }

-- The name of a model of symbols of the use itself.
abbrev pub own_name : List ℕ → ℕ → Name
own_name kind which = name_of kind Own which

-- No event is under a name of the use.
pub record Silent (kind : List ℕ) (events : List Event) : Type 0 where
  pub symbols : (role : Role) (which : ℕ) → symbols_under (name_of kind role which) events ≡ []
  pub bits : (role : Role) (which : ℕ) → bits_under (name_of kind role which) events ≡ []

-- No event is under a name of any of the uses.
abbrev pub AllSilent : List (List ℕ) → List Event → Type 0
AllSilent kinds events = AllByRecursion (λ kind. Silent kind events) kinds

-- Whether a use is none of these.
abbrev pub absent : List ℕ → List (List ℕ) → Bool
absent kind [] = true
absent kind (k ∷ kinds) = not (same_text kind k) && absent kind kinds

-- Whether none of the first uses is one of the others.
abbrev pub apart : List (List ℕ) → List (List ℕ) → Bool
apart [] others = true
apart (k ∷ kinds) others = absent k others && apart kinds others
