-- What a call does to what a sieve stores.
use Rattle.std.specs.Prelude.{◌≡◌, ℕ, Bool, true, false, not, ◌||◌, ◌&&◌, ◌==◌, int_lt, if◌then◌else◌, List}
use Rattle.std.specs.Prelude.{Option, Some, None}
use Rattle.std.specs.List.{list_any}
use Rattle.std.specs.Map.{lookup}
use Rattle.las_thin.specs.Placed.{Placed}
use Rattle.las_thin.specs.Cells.{Cell, cell_of, cell_eq, Position, position_of, position_eq}
use Rattle.las_thin.specs.Sieving.{Settings, Sieving}
use Rattle.las_thin.specs.declared.pick.Pick.{Pick}
use Rattle.las_thin.specs.declared.pick.Pick.TheVariants.{First, Lowest, Highest}
use Rattle.las_thin.specs.declared.winner.Winner.{Winner}

-- a cell is added, and is said to be new if it was not there
abbrev pub AddsCell : Cell → (new : Bool) → List Cell → List Cell → Type 0
AddsCell cell new before after = (new ≡ not (list_any (cell_eq cell) before))
    × ((q : Cell) → list_any (cell_eq q) after ≡ (list_any (cell_eq q) before || cell_eq q cell))

abbrev pub AddsPosition : Position → (new : Bool) → List Position → List Position → Type 0
AddsPosition position new before after = (new ≡ not (list_any (position_eq position) before))
    × ((q : Position) → list_any (position_eq q) after ≡ (list_any (position_eq q) before || position_eq q position))

-- the stored record is of this place and this position
abbrev pub is_winner : (place : ℕ) → Position → Option Winner → Bool
is_winner place position None = false
is_winner place position (Some w) = (w.place == place) && position_eq position w.position

-- the record is preferred to the stored one, which is an earlier one
abbrev pub wins : Pick → Winner → Winner → Bool
wins First new old = false
wins Lowest new old = int_lt new.position.2 old.position.2
wins Highest new old = int_lt old.position.2 new.position.2

abbrev pub winner : Pick → Winner → Option Winner → Winner
winner pick new None = new
winner pick new (Some old) = if wins pick new old then new else old

-- the record is stored for its cell if it wins it, and the other cells keep theirs
abbrev pub SetsWinner : Pick → Cell → Winner → List (Cell × Winner) → List (Cell × Winner) → Type 0
SetsWinner pick cell new before after = (q : Cell)
    → lookup (cell_eq q) after
    ≡ (if cell_eq q cell then Some (winner pick new (lookup (cell_eq q) before)) else lookup (cell_eq q) before)

-- what a sieve answers of a record, and stores of it, by its settings
abbrev pub TakesBy : Option ℕ → Pick → (unique : Bool) → Placed → (passes : Bool) → Sieving → Sieving → Type 0
TakesBy (Some step) First unique a passes before after = AddsCell (cell_of step a.point) passes before.cells after.cells
TakesBy (Some step) pick unique a passes before after =
    (passes ≡ is_winner a.place (position_of a.point) (lookup (cell_eq (cell_of step a.point)) before.winners))
    × (after.winners ≡ before.winners)
TakesBy None pick true a passes before after =
    AddsPosition (position_of a.point) passes before.positions after.positions
TakesBy None pick false a passes before after = passes ≡ true

abbrev pub TakesPoint : Settings → Placed → (passes : Bool) → Sieving → Sieving → Type 0
TakesPoint settings = TakesBy settings.step settings.pick settings.unique
