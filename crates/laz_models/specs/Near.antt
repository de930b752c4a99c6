-- Where a decoder's search for a symbol begins.
use Rattle.std.specs.Prelude.{◌≡◌, ℕ, ◌+◌, List, slice_index}
use Rattle.laz_models.specs.Lookup.{IsLastAt, start_or_guard}
use Rattle.laz_models.specs.declared.near.Near.{Near}

-- The last symbol whose part begins at a place or below, and the starts of its part and of the next two.
pub record IsNear (starts : List ℕ) (place : ℕ) (near : Near) : Type 0 where
  pub symbol : IsLastAt starts place near.symbol
  pub start : near.start ≡ slice_index starts near.symbol
  pub next : near.next ≡ start_or_guard starts (near.symbol + 1)
  pub after : near.after ≡ start_or_guard starts (near.symbol + 2)
