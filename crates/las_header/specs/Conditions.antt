-- Lists of conditions that no test decides, as that some bytes hold no list, and the first of them that holds.
use Rattle.std.specs.Prelude.{◌≡◌, ◌⊎◌, Bool, IsTrue, List, [], ◌∷◌, Option, Some, None}
use Rattle.las_header.specs.declared.refusal.Refusal.{Refusal}

-- A condition is a proposition with its cause.
pub record Condition : Type 1 where
  pub holds : Type 0
  pub cause : Refusal

-- The answer is the cause of the first condition that holds, or none if no condition holds.
abbrev pub IsFirst : List Condition → Option Refusal → Type 0
IsFirst [] answer = answer ≡ None
IsFirst (c ∷ cs) answer = (c.holds × (answer ≡ Some c.cause)) ⊎ ((¬ c.holds) × IsFirst cs answer)

-- tests as conditions
abbrev pub conditions : List (Bool × Refusal) → List Condition
conditions [] = []
conditions (c ∷ cs) = record { holds = IsTrue c.0; cause = c.1 } ∷ conditions cs
