-- Values that compute: the fields of one record.
use Rattle.std.proofs.Common.{◌≡◌, ℕ, pos, negsuc, List, [], ◌∷◌, replicate, ◌++◌, refl}
use Rattle.las_header.specs.Numbers.{number_at}
use Rattle.las_points.specs.Record.{x_of, y_of, z_of, intensity_of, return_number_of, returns_of_pulse, direction_of, class_of, angle_of, user_of, source_of, with_class}
use Rattle.las_points.specs.Tally.{counts_of}

abbrev point : List ℕ
point = 5 ∷ 0 ∷ 0 ∷ 0 ∷ 254 ∷ 255 ∷ 255 ∷ 255 ∷ 7 ∷ 0 ∷ 0 ∷ 0 ∷ 52 ∷ 18 ∷ 82 ∷ 226 ∷ 241 ∷ 9 ∷ 1 ∷ 2 ∷ []

coordinates : (x_of point ≡ pos 5) × (y_of point ≡ negsuc 1) × (z_of point ≡ pos 7)
unfolding number_at
coordinates = (refl, refl, refl)

returned : (return_number_of point ≡ 2) × (returns_of_pulse point ≡ 2) × (direction_of point ≡ 1)
returned = (refl, refl, refl)

others : (intensity_of point ≡ 4660) × (angle_of point ≡ negsuc 14) × (user_of point ≡ 9) × (source_of point ≡ 513)
unfolding number_at
others = (refl, refl, refl, refl)

-- the class flags stay
classes : (class_of point ≡ 2) × (with_class 31 point ≡ 5 ∷ 0 ∷ 0 ∷ 0 ∷ 254 ∷ 255 ∷ 255 ∷ 255 ∷ 7 ∷ 0 ∷ 0 ∷ 0 ∷ 52 ∷ 18 ∷ 82 ∷ 255 ∷ 241 ∷ 9 ∷ 1 ∷ 2 ∷ [])
classes = (refl, refl)

-- a record with return number 6 beside two with return number 2
counted : counts_of (point ∷ (replicate 14 0 ++ 6 ∷ replicate 5 0) ∷ point ∷ []) ≡ record { points = 3; returns = 0 ∷ 2 ∷ 0 ∷ 0 ∷ 0 ∷ 1 ∷ 0 ∷ [] }
counted = refl
