-- The packed form of a plain file: its head with the laszip VLR, the pointer to the chunk table, the chunks, the table.
use Rattle.std.specs.Prelude.{ℕ, ◌+◌, ◌*◌, List, [], ◌++◌, length, map, drop}
use Rattle.std.specs.List.{concat}
use Rattle.byteorder.specs.Endian.{little_bytes}
use Rattle.las_header.specs.Fields.{format_of, record_length_of, point_offset_of}
use Rattle.las_header.specs.Plain.{cut_records, plain_head, with_vlr}
use Rattle.laz_table.specs.Payload.{laszip_payload}
use Rattle.laz_table.specs.Table.{table_bytes}
use Rattle.laz_table.specs.VlrCauses.{chunk_count, extra_of}
use Rattle.laz_chunk.specs.Layouts.{Format, Layout, layout_of}
use Rattle.laz_chunk.specs.Chunks.{chunk_bytes}

-- the format of the records that follow a head
abbrev pub format_in : (head : List ℕ) → Format
format_in head = record { format = format_of head; extra = extra_of head }

-- the layout of the point records that follow a head
abbrev pub record_layout : (head : List ℕ) → Layout
record_layout head = layout_of (format_of head) (extra_of head)

-- bytes cut into blocks of one size, the last one what is left
abbrev pub blocks_of : (size : ℕ) → List ℕ → List (List ℕ)
blocks_of size bytes = cut_records size (chunk_count (length bytes) size) bytes

-- the point records, one after another, cut into blocks of the records of a chunk
abbrev pub chunk_blocks : (head records : List ℕ) → (chunk : ℕ) → List (List ℕ)
chunk_blocks head records chunk = blocks_of (record_length_of head * chunk) records

-- the chunks of some blocks
abbrev pub chunks_of : (head : List ℕ) → (blocks : List (List ℕ)) → List (List ℕ)
chunks_of head blocks = map (chunk_bytes (record_layout head)) blocks

-- a plain head with the laszip VLR of this chunk size
abbrev pub packed_head : (head : List ℕ) → (chunk : ℕ) → List ℕ
packed_head head chunk = with_vlr (laszip_payload (format_of head) (extra_of head) chunk) head

-- a packed head, and the pointer to the chunk table
abbrev pub packed_front : (head : List ℕ) → (chunk pointer : ℕ) → List ℕ
packed_front head chunk pointer = packed_head head chunk ++ little_bytes 8 pointer

-- where the chunk table stands after these chunks
abbrev pub table_after : (head : List ℕ) → (chunk : ℕ) → (chunks : List (List ℕ)) → ℕ
table_after head chunk chunks = length (packed_head head chunk) + 8 + length (concat chunks)

-- the chunks, and the table of their lengths
abbrev pub packed_points : (chunks : List (List ℕ)) → List ℕ
packed_points chunks = concat chunks ++ table_bytes [] (map length chunks)

-- a plain head and chunks that are there already in packed form: the head with the laszip VLR of this chunk size, the
-- pointer to the table, the chunks, and the table of their numbers of points, if they are counted, and of their numbers
-- of bytes
abbrev pub packed_form : (head : List ℕ) → (chunk : ℕ) → (points : List ℕ) → (chunks : List (List ℕ)) → List ℕ
packed_form head chunk points chunks =
    packed_front head chunk (table_after head chunk chunks) ++ (concat chunks ++ table_bytes points (map length chunks))

-- the packed form of a plain head and its records, in chunks of this many records
abbrev pub pack : (head records : List ℕ) → (chunk : ℕ) → List ℕ
pack head records chunk =
    let chunks = chunks_of head (chunk_blocks head records chunk) in
    packed_front head chunk (table_after head chunk chunks) ++ packed_points chunks

-- the packed form of a plain file
abbrev pub packed_file : (file : List ℕ) → (chunk : ℕ) → List ℕ
packed_file file chunk = pack (plain_head file) (drop (point_offset_of file) file) chunk
