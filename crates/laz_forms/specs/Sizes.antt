-- How many bytes the points of a file take.
use Rattle.std.specs.Prelude.{ℕ, ◌-◌, ◌*◌, if◌then◌else◌, List}
use Rattle.las_header.specs.Fields.{head_of, is_packed, points_of, record_length_of}
use Rattle.laz_forms.specs.Refusing.{chunks_place, table_place}

-- the bytes of all chunks of a packed file, and of all records of a plain one
abbrev pub points_size : (file : List ℕ) → ℕ
points_size file =
    if is_packed (head_of file) then table_place file - chunks_place file
    else record_length_of (head_of file) * points_of (head_of file)
