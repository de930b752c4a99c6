-- Values that compute: cells, and lists of a few records thinned and without repeated positions.
use Rattle.std.proofs.Common.{◌≡◌, ℕ, suc, ℤ, pos, negsuc, Bool, true, false, List, [], ◌∷◌, ◌++◌, replicate, map, Some, None, Option, refl}
use Rattle.std.specs.Int.{cast_unsigned, w32}
use Rattle.byteorder.specs.Endian.{little_bytes}
use Rattle.las_header.specs.Numbers.{number_at}
use Rattle.las_thin.specs.Placed.{Placed, placed}
use Rattle.las_thin.specs.Cells.{cell_of}
use Rattle.las_thin.specs.Sieving.{Settings, sifted}
use Rattle.las_thin.specs.declared.pick.Pick.{Pick}
use Rattle.las_thin.specs.declared.pick.Pick.TheVariants.{First, Lowest, Highest}

-- a record at coordinates
abbrev coordinate : ℤ → List ℕ
coordinate x = little_bytes 4 (cast_unsigned w32 x)

abbrev record_at : ℤ → ℤ → ℤ → List ℕ
record_at x y z = coordinate x ++ coordinate y ++ coordinate z ++ replicate 8 0

abbrev in_order : ℕ → List (List ℕ) → List Placed
in_order n [] = []
in_order n (point ∷ points) = placed n point ∷ in_order (suc n) points

abbrev places : List Placed → List ℕ
places = map (λ a. a.place)

-- five records of three cells with a step of 10
abbrev five : List Placed
five = in_order 0
    (record_at (pos 0) (pos 0) (pos 5)
    ∷ record_at (pos 9) (pos 9) (pos 3)
    ∷ record_at (negsuc 0) (pos 0) (pos 7)
    ∷ record_at (pos 10) (pos 0) (pos 1)
    ∷ record_at (pos 9) (pos 0) (pos 8)
    ∷ [])

-- three records of two positions
abbrev three : List Placed
three = in_order 0
    (record_at (pos 1) (pos 1) (pos 1)
    ∷ record_at (pos 1) (pos 1) (pos 2)
    ∷ record_at (pos 1) (pos 1) (pos 1)
    ∷ [])

abbrev settings : Option ℕ → Pick → Bool → Settings
settings step pick unique = record { step = step; pick = pick; unique = unique }

firsts : places (sifted (settings (Some 10) First false) five) ≡ 0 ∷ 2 ∷ 3 ∷ []
unfolding number_at
firsts = refl

lowest : places (sifted (settings (Some 10) Lowest false) five) ≡ 1 ∷ 2 ∷ 3 ∷ []
unfolding number_at
lowest = refl

highest : places (sifted (settings (Some 10) Highest false) five) ≡ 2 ∷ 3 ∷ 4 ∷ []
unfolding number_at
highest = refl

-- of equal heights the first
equal_heights : places (sifted (settings (Some 2) Highest false) (in_order 7 (record_at (pos 0) (pos 1) (pos 4) ∷ record_at (pos 1) (pos 0) (pos 4) ∷ []))) ≡ 7 ∷ []
unfolding number_at
equal_heights = refl

-- a record of another position is dropped as well, if its cell has one
thinned_without_repeated : places (sifted (settings (Some 10) Highest true) five) ≡ 2 ∷ 3 ∷ 4 ∷ []
unfolding number_at
thinned_without_repeated = refl

without_repeated : places (sifted (settings None First true) three) ≡ 0 ∷ 1 ∷ []
unfolding number_at
without_repeated = refl

one_of_one_cell : places (sifted (settings (Some 1) First true) three) ≡ 0 ∷ []
unfolding number_at
one_of_one_cell = refl

-- the coordinates at the ends of their range, rounded down
ends : cell_of 2147483647 (record_at (negsuc 2147483647) (pos 2147483647) (pos 0)) ≡ (negsuc 1, pos 1)
unfolding number_at
ends = refl

below_zero : cell_of 10 (record_at (negsuc 0) (negsuc 9) (pos 0)) ≡ (negsuc 0, negsuc 0)
unfolding number_at
below_zero = refl

next_cell : cell_of 10 (record_at (negsuc 10) (pos 10) (pos 0)) ≡ (negsuc 1, pos 1)
unfolding number_at
next_cell = refl
