-- Which arguments a call takes. It answers that they are wrong for all others.
use Rattle.std.specs.Prelude.{ℕ, min, ◌+◌, ◌*◌, ◌/◌, ◌%◌, ◌^◌, ◌==◌, nat_le, nat_lt, ◌&&◌, ◌||◌, Bool}
use Rattle.las_header.specs.declared.limits.TheConstants.{HEADER_BLOCK, LAST_FORMAT, MAX_EXTRA, MAX_LASZIP_PAYLOAD}
use Rattle.laz_chunk.specs.Layouts.{layout_of, record_length, room_for}
use Rattle.laz_table.specs.declared.limits.TheConstants.{MAX_CHUNKS, MAX_CHUNK_BYTES, MIN_TABLE_BYTES}

-- a point format, 0 to 3, and a number of extra bytes a record, 0 to 192
abbrev pub is_known : (format extra : ℕ) → Bool
is_known format extra = nat_le format LAST_FORMAT && nat_le extra MAX_EXTRA

-- how long a record is
abbrev pub size_of : (format extra : ℕ) → ℕ
size_of format extra = record_length (layout_of format extra)

-- how many whole records there are in some bytes
abbrev pub whole_records : (format extra bytes : ℕ) → ℕ
whole_records format extra bytes = bytes / size_of format extra

-- to unpack: at least one record, and room for exactly as many
abbrev pub can_unpack : (format extra count room : ℕ) → Bool
can_unpack format extra count room =
    is_known format extra && (nat_lt 0 count && (room == size_of format extra * count))

-- to pack: at least one record and fewer than 2^32, all whole, and room for what they can take
abbrev pub can_pack : (format extra bytes room : ℕ) → Bool
can_pack format extra bytes room =
    is_known format extra && (nat_le (size_of format extra) bytes && ((bytes % size_of format extra == 0)
    && (nat_lt (whole_records format extra bytes) (2 ^ 32)
    && nat_le (room_for (layout_of format extra) (whole_records format extra bytes)) room)))

-- to write a laszip payload: a chunk size that is not 0, and room for the longest payload
abbrev pub can_write_vlr : (format extra chunk room : ℕ) → Bool
can_write_vlr format extra chunk room = is_known format extra && (nat_lt 0 chunk && nat_le MAX_LASZIP_PAYLOAD room)

-- how many bytes are enough for a table
abbrev pub table_room : (chunks : ℕ) → ℕ
table_room chunks = MIN_TABLE_BYTES + MAX_CHUNK_BYTES * chunks

-- to write a table: no numbers of points or one for each chunk, at most 2^24 chunks, and room for what they can take
abbrev pub can_write_table : (sizes counts room : ℕ) → Bool
can_write_table sizes counts room =
    ((sizes == 0) || (sizes == counts)) && (nat_le counts MAX_CHUNKS && nat_le (table_room counts) room)

-- to read a table: a chunk size that is not 0, and room for exactly as many numbers as there are chunks
abbrev pub can_read_table : (chunk chunks sizes counts : ℕ) → Bool
can_read_table chunk chunks sizes counts = nat_lt 0 chunk && ((sizes == chunks) && (counts == chunks))

-- to read the front of a file: its first 227 bytes, or all of them if it has fewer
abbrev pub is_front : (bytes size : ℕ) → Bool
is_front bytes size = bytes == min size HEADER_BLOCK
