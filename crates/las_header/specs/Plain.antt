-- Plain and packed heads, and the records of a plain file.
use Rattle.std.specs.Prelude.{ℕ, zero, suc, ◌+◌, ◌-◌, if◌then◌else◌, List, [], ◌∷◌, ◌++◌, take, drop, length, ◌/◌}
use Rattle.std.specs.List.{splice}
use Rattle.byteorder.specs.Endian.{little_bytes}
use Rattle.las_header.specs.declared.limits.TheConstants.{VLR_HEAD, LASZIP_USER_ID, LASZIP_RECORD_ID}
use Rattle.las_header.specs.declared.limits.TheConstants.{LASZIP_DESCRIPTION}
use Rattle.las_header.specs.declared.vlrs.VlrPlace.{VlrPlace}
use Rattle.las_header.specs.Fields.{point_offset_of, vlr_count_of, format_byte_of, format_of, record_length_of}
use Rattle.las_header.specs.Fields.{points_of, is_packed, head_of}
use Rattle.las_header.specs.Vlrs.{vlrs_end, vlr_size, laszip_vlrs_of}

-- the head with another offset to point data, number of VLRs and format byte: the nine bytes from 96 on
abbrev pub with_layout : (offset count format : ℕ) → List ℕ → List ℕ
with_layout offset count format head =
    splice head 96 105 (little_bytes 4 offset ++ (little_bytes 4 count ++ format ∷ []))

-- a laszip VLR as it is written: reserved 0, both IDs, the length of the payload, a description of 32 bytes, the
-- payload
abbrev pub laszip_vlr : (payload : List ℕ) → List ℕ
laszip_vlr payload =
    little_bytes 2 0 ++ (LASZIP_USER_ID ++ (little_bytes 2 LASZIP_RECORD_ID ++ (little_bytes 2 (length payload)
    ++ (LASZIP_DESCRIPTION ++ payload))))

-- a plain head as that of a packed file: the laszip VLR after all others, one VLR more, a larger offset, bit 7 set
abbrev pub with_vlr : (payload head : List ℕ) → List ℕ
with_vlr payload head =
    with_layout (point_offset_of head + (VLR_HEAD + length payload)) (vlr_count_of head + 1) (format_byte_of head + 128)
    (splice head (vlrs_end head) (vlrs_end head) (laszip_vlr payload))

-- a packed head without one of its VLRs: one VLR fewer, a smaller offset, bit 7 clear
abbrev pub without_vlr : VlrPlace → (head : List ℕ) → List ℕ
without_vlr place head =
    with_layout (point_offset_of head - vlr_size place) (vlr_count_of head - 1) (format_of head)
    (splice head place.start (place.start + vlr_size place) [])

-- without the first of these VLRs, if there is one
abbrev pub without_first : List VlrPlace → (head : List ℕ) → List ℕ
without_first [] head = head
without_first (place ∷ places) head = without_vlr place head

-- a head as that of a plain file: a packed one without its laszip VLR, a plain one as it is
abbrev pub plain_of : (head : List ℕ) → List ℕ
plain_of head = if is_packed head then without_first (laszip_vlrs_of head) head else head

-- the plain head of a file, plain or packed
abbrev pub plain_head : (file : List ℕ) → List ℕ
plain_head file = plain_of (head_of file)

-- the first `count` records of `record_length` bytes each, one after another
abbrev pub cut_records : (record_length count : ℕ) → List ℕ → List (List ℕ)
cut_records record_length zero bytes = []
cut_records record_length (suc count) bytes =
    take record_length bytes ∷ cut_records record_length count (drop record_length bytes)

-- whole records, each as its bytes
abbrev pub cut_all : (size : ℕ) → List ℕ → List (List ℕ)
cut_all size bytes = cut_records size (length bytes / size) bytes

-- the point records of an accepted plain file, each as its bytes
abbrev pub records_of : (file : List ℕ) → List (List ℕ)
records_of file = cut_records (record_length_of file) (points_of file) (drop (point_offset_of file) file)
