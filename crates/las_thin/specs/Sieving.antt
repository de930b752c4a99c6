-- What a sieve lets pass, and what it stores for that.
use Rattle.std.specs.Prelude.{◌≡◌, ℕ, ◌<◌, ◌^◌, Bool, true, false, ◌&&◌, ◌==◌, if◌then◌else◌, List, [], ◌∷◌, ◌++◌}
use Rattle.std.specs.Prelude.{Option, Some, None, IsSome, IfSome}
use Rattle.std.specs.Option.{option_map}
use Rattle.std.specs.List.{list_any, find}
use Rattle.std.specs.Map.{lookup}
use Rattle.las_thin.specs.Placed.{Placed, AreAscending, last_place}
use Rattle.las_thin.specs.Cells.{Cell, cell_eq, Position, position_of, position_eq}
use Rattle.las_thin.specs.Thinning.{thinned, distinct, is_at, is_in}
use Rattle.las_thin.specs.declared.pick.Pick.{Pick}
use Rattle.las_thin.specs.declared.pick.Pick.TheVariants.{First, Lowest, Highest}
use Rattle.las_thin.specs.declared.winner.Winner.{Winner}

-- what a sieve is made with
pub record Settings : Type 0 where
  pub step : Option ℕ
  pub pick : Pick
  pub unique : Bool

-- the settings with which every record passes
abbrev pub all_pass : Settings
all_pass = record { step = None; pick = First; unique = false }

-- a step is from 1 to 2147483647; the lowest and the highest need one
abbrev pub IsStep : Option ℕ → Type 0
IsStep step = IfSome step (λ n. (0 < n) × (n < 2 ^ 31))

abbrev pub HasItsStep : Option ℕ → Pick → Type 0
HasItsStep step First = Unit {0}
HasItsStep step Lowest = IsSome step
HasItsStep step Highest = IsSome step

abbrev pub PicksFirst : Pick → Type 0
PicksFirst First = Unit {0}
PicksFirst _ = ⊥

abbrev pub picks_first : Pick → Bool
picks_first First = true
picks_first _ = false

-- the records of a list that stay: the first of each position, if positions are not to be repeated, and of these one in
-- each cell, if there is a step
abbrev pub dropped_to : Bool → List Placed → List Placed
dropped_to unique records = if unique then distinct records else records

abbrev pub thinned_to : Option ℕ → Pick → List Placed → List Placed
thinned_to None pick records = records
thinned_to (Some step) pick records = thinned step pick records

abbrev pub sifted : Settings → List Placed → List Placed
sifted settings records = thinned_to settings.step settings.pick (dropped_to settings.unique records)

-- a record of this place and of this position stays
abbrev pub stays : Settings → List Placed → Placed → Bool
stays settings records a = list_any (λ b. (b.place == a.place) && is_at a b) (sifted settings records)

-- the list by which a sieve answers for a record: with the first of a cell the asked records and this one, else those
-- that were looked at
abbrev pub judged_by : Settings → (looked asked : List Placed) → Placed → List Placed
judged_by settings looked asked a = if picks_first settings.pick then asked ++ a ∷ [] else looked

-- a sieve: its settings, the last place looked at and the last place asked, and what is stored of the records: cells,
-- positions, and the record that stays in each cell
pub record Sieving : Type 0 where
  pub settings : Settings
  pub looked : Option ℕ
  pub asked : Option ℕ
  pub cells : List Cell
  pub positions : List Position
  pub winners : List (Cell × Winner)

-- a record as it is stored
abbrev pub winner_of : Placed → Winner
winner_of a = record { place = a.place; position = position_of a.point }

abbrev pub StoresCells : (step : ℕ) → List Placed → List Cell → Type 0
StoresCells step asked cells = (cell : Cell) → list_any (cell_eq cell) cells ≡ list_any (is_in step cell) asked

abbrev pub StoresPositions : List Placed → List Position → Type 0
StoresPositions asked positions = (position : Position)
    → list_any (position_eq position) positions ≡ list_any (λ a. position_eq position (position_of a.point)) asked

abbrev pub StoresWinners : (step : ℕ) → Pick → List Placed → List (Cell × Winner) → Type 0
StoresWinners step pick looked winners = (cell : Cell)
    → lookup (cell_eq cell) winners ≡ option_map winner_of (find (is_in step cell) (thinned step pick looked))

-- what is stored is that of the looked and the asked records
abbrev pub Stores : Option ℕ → Pick → Bool → (looked asked : List Placed) → Sieving → Type 0
Stores (Some step) First unique looked asked sieve = StoresCells step asked sieve.cells
Stores (Some step) pick unique looked asked sieve = StoresWinners step pick looked sieve.winners
Stores None pick true looked asked sieve = StoresPositions asked sieve.positions
Stores None pick false looked asked sieve = Unit {0}

-- a sieve stands for the records that it has looked at and for those that it was asked of
pub record HasSifted (looked asked : List Placed) (sieve : Sieving) : Type 0 where
  pub looked_ascend : AreAscending looked
  pub last_looked : sieve.looked ≡ last_place looked
  pub asked_ascend : AreAscending asked
  pub last_asked : sieve.asked ≡ last_place asked
  pub stored : Stores sieve.settings.step sieve.settings.pick sieve.settings.unique looked asked sieve
