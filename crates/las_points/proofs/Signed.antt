-- A signed number that was written is read back. The call that makes its bits states them of the number
-- as it stands in its own bits.
use Rattle.std.proofs.Common.{◌≡◌, ℕ, ℤ, ◌^◌, ◌<◌, ◌≤◌, List, length, ap, ◌∙◌}
use Rattle.std.specs.Prelude.{FitsSigned}
use Rattle.std.specs.Int.{w32, cast_signed, cast_unsigned}
use mir.Facts.{to_z-of_z}
use Rattle.las_header.specs.Numbers.{number_at, with_number_at}
use Rattle.las_header.proofs.Public.{number_at-with_number_at}

pub signed_again : (at : ℕ) (z : ℤ) (n : ℕ) (bytes : List ℕ) → at ≤ length bytes → n < 2 ^ 32 → FitsSigned w32 z → n ≡ cast_unsigned w32 (cast_signed w32 (cast_unsigned w32 z))
    → cast_signed w32 (number_at 4 at (with_number_at 4 at n bytes)) ≡ z
signed_again at z n bytes within small fits is =
    ap (cast_signed w32) (number_at-with_number_at 4 at n bytes within small ∙ is ∙ ap (cast_unsigned w32) (to_z-of_z fits)) ∙ to_z-of_z fits
