-- What a change makes of a record, and what changes make of it one after another.
use Rattle.std.specs.Prelude.{ℕ, ◌≤◌, List, [], ◌∷◌, Option, Some}
use Rattle.std.specs.Option.{option_and_then, option_map_or}
use Rattle.las_header.specs.Numbers.{with_number_at}
use Rattle.las_points.specs.Record.{with_class, with_user}
use Rattle.las_filter.specs.Coordinates.{translated}
use Rattle.las_filter.specs.declared.change.Change.{Change}
use Rattle.las_filter.specs.declared.change.Change.TheVariants.{Translate, SetClass, SetUser, SetSource}

-- a class to be set is a class: 0 to 31
abbrev pub HasClass : Change → Type 0
HasClass (SetClass class) = class ≤ 31
HasClass _ = Unit {0}

-- the record with one change made, or none if the change is refused
abbrev pub changed_by : Change → List ℕ → Option (List ℕ)
changed_by (Translate x y z) point = translated x y z point
changed_by (SetClass class) point = Some (with_class class point)
changed_by (SetUser value) point = Some (with_user value point)
changed_by (SetSource source) point = Some (with_number_at 2 18 source point)

-- the record with all changes made in order, or none if one of them is refused
abbrev pub changed : List Change → List ℕ → Option (List ℕ)
changed [] point = Some point
changed (change ∷ changes) point = option_and_then (changed changes) (changed_by change point)

-- the record with the changes made that come before the first that is refused
abbrev pub left_by : List Change → List ℕ → List ℕ
left_by [] point = point
left_by (change ∷ changes) point = option_map_or (left_by changes) (changed_by change point) point
