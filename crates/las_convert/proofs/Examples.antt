-- Values that compute: what plans keep of a file of three records, also behind sieves, and the outputs that they become.
use Rattle.std.proofs.Common.{◌≡◌, ℕ, true, false, pos, List, [], ◌∷◌, ◌++◌, codes, replicate, Some, None, refl}
use Rattle.std.specs.FinMap as finmap
use Rattle.byteorder.specs.Endian.{little_bytes}
use Rattle.las_filter.specs.declared.change.Change.TheVariants.{SetClass, Translate}
use Rattle.las_filter.specs.declared.keep.Keep.TheVariants.{Classes}
use Rattle.las_filter.specs.Coordinates.{placed}
use Rattle.las_filter.specs.Kept.{Steps, kept}
use Rattle.las_header.specs.Counting.{long_bytes, short_bytes}
use Rattle.las_header.specs.Numbers.{number_at}
use Rattle.las_thin.specs.declared.pick.Pick.{Pick}
use Rattle.las_thin.specs.declared.pick.Pick.TheVariants.{First, Lowest, Highest}
use Rattle.las_thin.specs.Kept.{kept_behind}
use Rattle.las_thin.specs.Sieving.{Settings}
use Rattle.las_header.specs.declared.refusal.Refusal.TheVariants.{BadChunk, RawRange}
use Rattle.las_outside.specs.Files.{FileMap}
use Rattle.laz_forms.specs.Outputs.{finished, stopped}
use Rattle.laz_file.specs.Endings.{files_after, writes}
use Rattle.las_convert.specs.Converting.{converted_output, has_output, kept_in, writes_kept}

-- a LAS 1.2 head of 227 bytes and format 0, with this number of points, all of them first returns
abbrev head : (points : ℕ) → List ℕ
head points =
    codes "LASF" ++ replicate 20 0 ++ (1 ∷ 2 ∷ []) ++ replicate 68 0 ++ little_bytes 2 227 ++ little_bytes 4
    227 ++ little_bytes 4 0
    ++ (0 ∷ 20 ∷ 0 ∷ []) ++ little_bytes 4 points ++ little_bytes 4 points ++ replicate 112 0

-- a record with this coordinate x, a first return, of this class
abbrev point : (x : List ℕ) → (class : ℕ) → List ℕ
point x class = x ++ (6 ∷ 0 ∷ 0 ∷ 0 ∷ 7 ∷ 0 ∷ 0 ∷ 0 ∷ 0 ∷ 0 ∷ 9 ∷ class ∷ 0 ∷ 0 ∷ 1 ∷ 0 ∷ [])

-- x is 5, and the greatest that there is
abbrev five : List ℕ
five = 5 ∷ 0 ∷ 0 ∷ 0 ∷ []

abbrev most : List ℕ
most = 255 ∷ 255 ∷ 255 ∷ 127 ∷ []

-- classes 2, 1 and 2
abbrev blocks : List (List ℕ)
blocks = (point five 2 ++ point most 1) ∷ point most 2 ∷ []

abbrev file : List ℕ
file = head 3 ++ point five 2 ++ point most 1 ++ point most 2

-- class 2 alone, and class 2 one unit to the right
abbrev ground : Steps
ground = record { keeps = Classes 4 ∷ []; changes = [] }

abbrev ground_shifted : Steps
ground_shifted = record { keeps = Classes 4 ∷ []; changes = Translate (pos 1) (pos 0) (pos 0) ∷ [] }

-- class 1 as class 31
abbrev renamed : Steps
renamed = record { keeps = Classes 2 ∷ []; changes = SetClass 31 ∷ [] }

-- ---- what is kept
ground_kept : kept_in (kept ground) file blocks ≡ record
    { records = point five 2 ∷ point most 2 ∷ []; raw_range = None }
unfolding number_at
ground_kept = refl

renamed_kept : kept_in (kept renamed) file blocks ≡ record { records = point most 31 ∷ []; raw_range = None }
unfolding number_at
renamed_kept = refl

-- the second kept record leaves its range, and not the second of the file
out_of_range : kept_in (kept ground_shifted) file blocks ≡ record
    { records = point (6 ∷ 0 ∷ 0 ∷ 0 ∷ []) 2 ∷ []; raw_range = Some 1 }
unfolding number_at placed
out_of_range = refl

-- ---- thinned with a step of 10: the first lies in a cell, and the two others in another

abbrev thinned : Pick → Settings
thinned pick = record { step = Some 10; pick = pick; unique = false }

abbrev all : Steps
all = record { keeps = []; changes = [] }

abbrev all_shifted : Steps
all_shifted = record { keeps = []; changes = Translate (pos 1) (pos 0) (pos 0) ∷ [] }

first_kept : kept_in (kept_behind all (thinned First)) file blocks ≡ record
    { records = point five 2 ∷ point most 1 ∷ []; raw_range = None }
unfolding number_at
first_kept = refl

-- the filters come first
class_kept : kept_in (kept_behind ground (thinned First)) file blocks ≡ record
    { records = point five 2 ∷ point most 2 ∷ []; raw_range = None }
unfolding number_at
class_kept = refl

-- the record of the second cell is refused, as it is the second that stays
thinned_range : kept_in (kept_behind all_shifted (thinned Lowest)) file blocks ≡ record
    { records = point (6 ∷ 0 ∷ 0 ∷ 0 ∷ []) 2 ∷ []; raw_range = Some 1 }
unfolding number_at placed
thinned_range = refl

-- a bad chunk leaves an output if the records are read once alone
outputs : has_output First (Some (BadChunk 1)) ≡ true
outputs = refl

no_output : has_output Lowest (Some (BadChunk 1)) ≡ false
no_output = refl

refused_output : has_output Highest (Some (RawRange 1)) ≡ true
refused_output = refl

-- ---- the outputs
-- of all that is kept, and of nothing: with their own counts
ground_file : finished (converted_output [] file None) (point five 2 ++ point most 2) ≡ head 2 ++ point five 2 ++ point
    most 2
unfolding number_at short_bytes long_bytes
ground_file = refl

empty_file : finished (converted_output [] file None) [] ≡ head 0
unfolding number_at short_bytes long_bytes
empty_file = refl

-- after a refusal: with counts of zero
stopped_file : stopped (converted_output [] file None) (point (6 ∷ 0 ∷ 0 ∷ 0 ∷ []) 2) ≡ head 0 ++ point
    (6 ∷ 0 ∷ 0 ∷ 0 ∷ []) 2
unfolding number_at short_bytes long_bytes
stopped_file = refl

-- ---- the products
-- all that is kept, in the order of the records, and the output's name and bytes at the end
kept_product : writes_kept Lowest (converted_output [] file None) (point five 2) None
    ≡ writes (converted_output [] file None) (point five 2) None
kept_product = refl

kept_after : (files : FileMap) → files_after
    (writes_kept First (converted_output (1 ∷ []) file None) (point five 2) None)
    files ≡ finmap.insert files (1 ∷ []) (head 1 ++ point five 2)
unfolding number_at short_bytes long_bytes
kept_after files = refl

-- what is kept before a refusal, with counts of zero
refused_after : (files : FileMap) → files_after
    (writes_kept Highest (converted_output (1 ∷ []) file None) (point five 2) (Some (RawRange 1))) files
    ≡ finmap.insert files (1 ∷ []) (head 0 ++ point five 2)
unfolding number_at short_bytes long_bytes
refused_after files = refl

-- no output, if the first of two readings finds a bad chunk
bad_product : writes_kept Lowest (converted_output [] file None) [] (Some (BadChunk 1))
    ≡ record { files = []; refusal = Some (BadChunk 1) }
bad_product = refl

bad_after : (files : FileMap) → files_after
    (writes_kept Lowest (converted_output [] file None) [] (Some (BadChunk 1))) files ≡ files
bad_after files = refl
