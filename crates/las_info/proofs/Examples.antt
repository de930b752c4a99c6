-- Values that compute: two records, tallied and summed up, and lines of a report.
use Rattle.std.proofs.Common.{◌≡◌, ℕ, pos, negsuc, List, [], ◌∷◌, codes, refl, Some, None}
use Rattle.las_header.specs.Numbers.{number_at}
use Rattle.las_info.specs.Bins.{intensity_bin}
use Rattle.las_info.specs.Extents.{extents_of}
use Rattle.las_info.specs.Report.{bin_line, packed_line}
use Rattle.las_info.specs.Summaries.{summary_of}

-- class 2, intensity 1000, return 1 of 1, at 5, 6, 7
abbrev first : List ℕ
first = 5 ∷ 0 ∷ 0 ∷ 0 ∷ 6 ∷ 0 ∷ 0 ∷ 0 ∷ 7 ∷ 0 ∷ 0 ∷ 0 ∷ 232 ∷ 3 ∷ 9 ∷ 2 ∷ 0 ∷ 0 ∷ 9 ∷ 0 ∷ []

-- class 1, intensity 767, return 2 of 2, at -1, 6, 8
abbrev second : List ℕ
second = 255 ∷ 255 ∷ 255 ∷ 255 ∷ 6 ∷ 0 ∷ 0 ∷ 0 ∷ 8 ∷ 0 ∷ 0 ∷ 0 ∷ 255 ∷ 2 ∷ 18 ∷ 97 ∷ 0 ∷ 0 ∷ 9 ∷ 0 ∷ []

intensities : (intensity_bin first ≡ 3) × (intensity_bin second ≡ 2)
unfolding number_at
intensities = (refl, refl)

no_extents : extents_of [] ≡ None
no_extents = refl

extents : extents_of (first ∷ second ∷ []) ≡ Some record {
  x = record { low = negsuc 0; high = pos 5 };
  y = record { low = pos 6; high = pos 6 };
  z = record { low = pos 7; high = pos 8 };
}
unfolding number_at
extents = refl

counts : (summary_of (first ∷ second ∷ first ∷ [])).counts ≡ record { points = 3; returns = 2 ∷ 1 ∷ 0 ∷ 0 ∷ 0 ∷ 0 ∷ 0 ∷ [] }
counts = refl

plain : packed_line None ≡ codes "packed no\n"
plain = refl

-- a bin without records has no line
no_bin : bin_line (7, 0) ≡ []
no_bin = refl
