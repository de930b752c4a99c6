-- Limits of chunks, for all crates that write them.
use Rattle.std.specs.Prelude.{ℕ, ◌≤◌}
use Rattle.las_header.specs.declared.limits.TheConstants.{MAX_CHUNK_POINTS, MIN_CHUNK_POINTS}

-- how many points a chunk of a file that is written may have
abbrev pub IsChunkSize : (points : ℕ) → Type 0
IsChunkSize points = (MIN_CHUNK_POINTS ≤ points) × (points ≤ MAX_CHUNK_POINTS)
