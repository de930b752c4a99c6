-- What a run that ends early may leave of an output. An output is written from its first byte on, which gives its
-- draft; then come its patches, in order, such as the counts that are known only at the end.
use Rattle.std.specs.Prelude.{◌≡◌, ◌⊎◌, ℕ, List, [], ◌∷◌, take}
use Rattle.las_outside.specs.Files.{with_patch}

-- a position, and the bytes that replace what stands from there on
abbrev pub Patch : Type 0
Patch = ℕ × List ℕ

-- the draft after all of its patches, in order
abbrev pub with_patches : List ℕ → List Patch → List ℕ
with_patches draft [] = draft
with_patches draft (patch ∷ patches) = with_patches (with_patch draft patch.0 patch.1) patches

-- the whole draft after some of its patches, in order, the last of them perhaps in part
abbrev pub IsPatchedInPart : List ℕ → List Patch → List ℕ → Type 0
IsPatchedInPart draft [] bytes = bytes ≡ draft
IsPatchedInPart draft (patch ∷ patches) bytes =
    ((n : ℕ) × (bytes ≡ with_patch draft patch.0 (take n patch.1)))
    ⊎ IsPatchedInPart (with_patch draft patch.0 patch.1) patches bytes

-- a prefix of the draft, or the whole draft after some of its patches, in order, the last of them perhaps in part
abbrev pub IsUnfinished : List ℕ → List Patch → List ℕ → Type 0
IsUnfinished draft patches bytes = ((n : ℕ) × (bytes ≡ take n draft)) ⊎ IsPatchedInPart draft patches bytes
