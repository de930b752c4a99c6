-- The payload of the laszip VLR, as it is written (Isenburg, LASzip, PE&RS 2013).
use Rattle.std.specs.Prelude.{ℕ, nat_lt, Bool, true, if◌then◌else◌, List, [], ◌∷◌, ◌++◌, length}
use Rattle.std.specs.Prelude.{replicate}
use Rattle.byteorder.specs.Endian.{little_bytes}
use Rattle.las_header.specs.Fields.{has_colours, has_time}
use Rattle.laz_table.specs.declared.limits.TheConstants.{CHUNKED_COMPRESSOR, ARITHMETIC_CODER, ITEM_VERSION}

-- an item of a point record: its type and its size in bytes
pub record Item : Type 0 where
  pub kind : ℕ
  pub size : ℕ

-- a list of one item, if there is that item
abbrev pub item_if : Bool → (kind size : ℕ) → List Item
item_if b kind size = if b then record { kind = kind; size = size } ∷ [] else []

-- The items of a record, in order: POINT10; GPSTIME11, for formats 1 and 3; RGB12, for formats 2 and 3; BYTE, if there
-- are extra bytes.
abbrev pub items_of : (format extra : ℕ) → List Item
items_of format extra =
    item_if true 6 20 ++ (item_if (has_time format) 7 8
    ++ (item_if (has_colours format) 8 6 ++ item_if (nat_lt 0 extra) 0 extra))

-- an item in the payload: type, size, version
abbrev pub item_bytes : Item → List ℕ
item_bytes item = little_bytes 2 item.kind ++ (little_bytes 2 item.size ++ little_bytes 2 ITEM_VERSION)

abbrev pub all_item_bytes : List Item → List ℕ
all_item_bytes [] = []
all_item_bytes (item ∷ items) = item_bytes item ++ all_item_bytes items

-- the number of items, and the items
abbrev pub items_part : List Item → List ℕ
items_part items = little_bytes 2 (length items) ++ all_item_bytes items

-- What stands before: compressor; coder; version 2.2, revision 0; options, 0; chunk size; and two numbers of 64 bits
-- that are not used, -1.
abbrev pub payload_start : (chunk : ℕ) → List ℕ
payload_start chunk =
    little_bytes 2 CHUNKED_COMPRESSOR ++ (little_bytes 2 ARITHMETIC_CODER ++ ((2 ∷ 2 ∷ 0 ∷ 0 ∷ []) ++ (little_bytes 4 0
    ++ (little_bytes 4 chunk ++ replicate 16 255))))

-- the payload of a file whose records have this format and this many extra bytes
abbrev pub laszip_payload : (format extra chunk : ℕ) → List ℕ
laszip_payload format extra chunk = payload_start chunk ++ items_part (items_of format extra)
