-- Extents of records are said one record at a time.
use Rattle.std.proofs.Common.{◌≡◌, ℕ, ℤ, List, [], ◌∷◌, ◌++◌, map, refl, Some}
use Rattle.std.specs.Prelude.{fold}
use Rattle.std.specs.Int.{int_max, int_min}
use Rattle.las_points.specs.Record.{x_of, y_of, z_of}
use Rattle.las_info.specs.Extents.{extents_of, extents_with, range_of, widened}

folded : (f : ℤ → ℤ → ℤ) (g : List ℕ → ℤ) (a : ℤ) (records : List (List ℕ)) (point : List ℕ)
    → fold f a (map g (records ++ point ∷ [])) ≡ f (fold f a (map g records)) (g point)
folded f g a [] point = refl
folded f g a (r ∷ records) point = folded f g (f a (g r)) records point

wider : (g : List ℕ → ℤ) (a : ℤ) (records : List (List ℕ)) (point : List ℕ)
    → range_of a (map g (records ++ point ∷ [])) ≡ widened (range_of a (map g records)) (g point)
wider g a records point =
    λ i. record {
      low = folded int_min g a records point i;
      high = folded int_max g a records point i;
    }

pub one_more_extends : (records : List (List ℕ)) (point : List ℕ)
    → extents_of (records ++ point ∷ []) ≡ extents_with (extents_of records) point
one_more_extends [] point = refl
one_more_extends (r ∷ records) point =
    λ i. Some record {
      x = wider x_of (x_of r) records point i;
      y = wider y_of (y_of r) records point i;
      z = wider z_of (z_of r) records point i;
    }
