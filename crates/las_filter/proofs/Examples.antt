-- Values that compute: filters, changes and what is kept of two records.
use Rattle.std.proofs.Common.{◌≡◌, ℕ, pos, negsuc, List, [], ◌∷◌, ◌++◌, codes, replicate, Some, None, refl}
use Rattle.std.specs.Fmt.{digits}
use Rattle.las_header.specs.Numbers.{number_at}
use Rattle.las_points.specs.Record.{x_of}
use Rattle.las_filter.specs.declared.keep.Keep.{Keep}
use Rattle.las_filter.specs.declared.keep.Keep.TheVariants.{Classes, DropReturns, First, Last, Intensity, NotBelow, NotAbove}
use Rattle.las_filter.specs.declared.change.Change.{Change}
use Rattle.las_filter.specs.declared.change.Change.TheVariants.{Translate, SetClass, SetUser}
use Rattle.las_filter.specs.Coordinates.{placed}
use Rattle.las_filter.specs.Changes.{changed, left_by}
use Rattle.las_filter.specs.Kept.{Steps, Kept, kept}
use Rattle.las_filter.specs.Parts.{part_name}

-- a record with coordinates (x, 0, 0) of two bytes, an intensity, a flag byte and a classification byte
abbrev record_of : ℕ → ℕ → ℕ → ℕ → List ℕ
record_of x intensity flags class = x ∷ replicate 11 0 ++ intensity ∷ 0 ∷ flags ∷ class ∷ replicate 4 0

-- class 2, return 1 of 2, and class 5 with two class flags, return 2 of 2
abbrev first : List ℕ
first = record_of 9 100 17 2

abbrev second : List ℕ
second = record_of 3 200 18 101

abbrev both : List (List ℕ)
both = first ∷ second ∷ []

abbrev keeping : List Keep → Steps
keeping filters = record { keeps = filters; changes = [] }

abbrev changing : List Change → Steps
changing changes = record { keeps = []; changes = changes }

-- all that is kept, none of it refused
abbrev all_of : List (List ℕ) → Kept
all_of records = record { records = records; raw_range = None }

-- -keep_class 2 5 -drop_return 1
classes : kept (keeping (Classes 36 ∷ DropReturns 2 ∷ [])) both ≡ all_of (second ∷ [])
classes = refl

firsts : kept (keeping (First ∷ [])) both ≡ all_of (first ∷ [])
firsts = refl

lasts : kept (keeping (Last ∷ [])) both ≡ all_of (second ∷ [])
lasts = refl

-- -keep_intensity 100 199
intensities : kept (keeping (Intensity 100 199 ∷ [])) both ≡ all_of (first ∷ [])
unfolding number_at
intensities = refl

-- -drop_intensity_below 200 -set_classification 31; the class flags stay
reclassed : kept (record { keeps = NotBelow 200 ∷ []; changes = SetClass 31 ∷ [] }) both ≡ all_of (record_of 3 200 18 127 ∷ [])
unfolding number_at
reclassed = refl

-- -translate_raw_x -5 -translate_raw_xyz 5 0 0
translated_back : kept (changing (Translate (negsuc 4) (pos 0) (pos 0) ∷ Translate (pos 5) (pos 0) (pos 0) ∷ [])) both ≡ all_of both
unfolding number_at placed
translated_back = refl

-- -keep_class 2
class_2 : kept (keeping (Classes 4 ∷ [])) both ≡ all_of (first ∷ [])
class_2 = refl

-- "above" is strictly above
not_above : kept (keeping (NotAbove 100 ∷ [])) both ≡ all_of (first ∷ [])
unfolding number_at
not_above = refl

-- a record with X = 2,147,483,647 and a class
abbrev at_the_end : ℕ → List ℕ
at_the_end class = 255 ∷ 255 ∷ 255 ∷ 127 ∷ replicate 11 0 ++ class ∷ replicate 4 0

-- -keep_class 2 -translate_raw_xyz 1 0 0: the first kept record leaves the range
out_of_range : kept (record { keeps = Classes 4 ∷ []; changes = Translate (pos 1) (pos 0) (pos 0) ∷ [] }) (at_the_end 1 ∷ at_the_end 2 ∷ []) ≡ record { records = []; raw_range = Some 0 }
unfolding number_at placed
out_of_range = refl

-- the changes before the one that is refused stand, and no coordinate has changed
left : left_by (SetUser 7 ∷ Translate (pos 1) (pos 1) (pos 1) ∷ SetClass 3 ∷ []) (at_the_end 1) ≡ 255 ∷ 255 ∷ 255 ∷ 127 ∷ replicate 11 0 ++ 1 ∷ 0 ∷ 7 ∷ 0 ∷ 0 ∷ []
unfolding number_at placed
left = refl

-- the least X, and one less
least : (x_of (0 ∷ 0 ∷ 0 ∷ 128 ∷ replicate 16 0) ≡ negsuc 2147483647) × (changed (Translate (negsuc 0) (pos 0) (pos 0) ∷ []) (0 ∷ 0 ∷ 0 ∷ 128 ∷ replicate 16 0) ≡ None)
unfolding number_at placed
least = (refl, refl)

-- parts of a file that ends in .las, and one whose number has more than seven digits
first_part : part_name (codes "p") (codes ".las") 0 ≡ codes "p_0000000.las"
unfolding digits
first_part = refl

later_part : part_name (codes "p") [] 1234567 ≡ codes "p_1234567"
unfolding digits
later_part = refl

long_part : part_name (codes "p") (codes ".LAS") 12345678 ≡ codes "p_12345678.LAS"
unfolding digits
long_part = refl
