-- What a packed file is refused for by its laszip VLR. The conditions follow those of a head.
use Rattle.std.specs.Prelude.{ℕ, ◌+◌, ◌-◌, ◌*◌, ◌/◌, ◌==◌, nat_lt, nat_eq, min, not, ◌&&◌, ◌||◌, Bool, List, [], ◌∷◌}
use Rattle.std.specs.Prelude.{length, take, drop}
use Rattle.std.specs.List.{starts_with}
use Rattle.las_header.specs.declared.limits.TheConstants.{VLR_HEAD}
use Rattle.las_header.specs.declared.refusal.Refusal.{Refusal}
use Rattle.las_header.specs.declared.refusal.Refusal.TheVariants as cause
use Rattle.las_header.specs.declared.vlrs.VlrPlace.{VlrPlace}
use Rattle.las_header.specs.Numbers.{number_at}
use Rattle.las_header.specs.Fields.{format_of, format_size, record_length_of, points_of}
use Rattle.las_header.specs.Vlrs.{laszip_vlrs_of}
use Rattle.las_header.specs.declared.limits.TheConstants.{MAX_CHUNK_POINTS}
use Rattle.laz_table.specs.declared.limits.TheConstants.{ARITHMETIC_CODER, CHUNKED_COMPRESSOR, COUNTED_CHUNKS}
use Rattle.laz_table.specs.declared.limits.TheConstants.{MAX_CHUNKS, PAYLOAD_ITEM, PAYLOAD_START}
use Rattle.laz_table.specs.Payload.{items_of, items_part}

-- the payload of a VLR
abbrev pub payload_at : VlrPlace → (head : List ℕ) → List ℕ
payload_at place head = take place.length (drop (place.start + VLR_HEAD) head)

-- the payload of the first of some VLRs; nothing, if there is none
abbrev pub first_payload : List VlrPlace → (head : List ℕ) → List ℕ
first_payload [] head = []
first_payload (place ∷ places) head = payload_at place head

-- the payload of a head's laszip VLR
abbrev pub payload_of : (head : List ℕ) → List ℕ
payload_of head = first_payload (laszip_vlrs_of head) head

-- the chunk size in a payload
abbrev pub chunk_size_in : (payload : List ℕ) → ℕ
chunk_size_in payload = number_at 4 12 payload

-- the number of points of a chunk, or 2^32 - 1 if each chunk has its own
abbrev pub chunk_size_of : (head : List ℕ) → ℕ
chunk_size_of head = chunk_size_in (payload_of head)

-- the extra bytes of a record
abbrev pub extra_of : (head : List ℕ) → ℕ
extra_of head = record_length_of head - format_size (format_of head)

-- how many chunks of a size the points make; the last one may be short
abbrev pub chunk_count : (points chunk : ℕ) → ℕ
chunk_count points chunk = (points + chunk - 1) / chunk

-- whether the chunks have a number of points of their own
abbrev pub is_counted : (chunk : ℕ) → Bool
is_counted chunk = chunk == COUNTED_CHUNKS

-- NoVlr: there is no laszip VLR, or there are several.
abbrev pub lacks_vlr : (head : List ℕ) → Bool
lacks_vlr head = not (length (laszip_vlrs_of head) == 1)

-- VlrShape: the payload is too short, or not as long as its number of items needs.
abbrev pub has_other_shape : (payload : List ℕ) → Bool
has_other_shape payload =
    nat_lt (length payload) PAYLOAD_START || not
    (length payload == PAYLOAD_START + PAYLOAD_ITEM * number_at 2 32 payload)

-- Compressor: the compressor or the coder is another one.
abbrev pub has_other_compressor : (payload : List ℕ) → Bool
has_other_compressor payload =
    not (number_at 2 0 payload == CHUNKED_COMPRESSOR) || not (number_at 2 2 payload == ARITHMETIC_CODER)

-- Items: from the number of items on, the payload is another than the one that is written.
abbrev pub has_other_items : (format extra : ℕ) → (payload : List ℕ) → Bool
has_other_items format extra payload = not (starts_with nat_eq (drop 32 payload) (items_part (items_of format extra)))

-- ChunkSize: the chunk size is 0; or chunks have a fixed number of points, and one of more than 250,000 may come.
abbrev pub is_bad_chunk_size : (points chunk : ℕ) → Bool
is_bad_chunk_size points chunk = (chunk == 0) || (not (is_counted chunk) && nat_lt MAX_CHUNK_POINTS (min chunk points))

-- TooManyChunks: chunks have a fixed number of points, and there are more than 2^24.
abbrev pub makes_many_chunks : (points chunk : ℕ) → Bool
makes_many_chunks points chunk = not (is_counted chunk) && nat_lt MAX_CHUNKS (chunk_count points chunk)

-- the conditions that a payload decides, in order
abbrev pub payload_causes : (format extra points : ℕ) → (payload : List ℕ) → List (Bool × Refusal)
payload_causes format extra points payload =
    (has_other_shape payload, cause.VlrShape) ∷ (has_other_compressor payload, cause.Compressor)
    ∷ (has_other_items format extra payload, cause.Items)
    ∷ (is_bad_chunk_size points (chunk_size_in payload), cause.ChunkSize)
    ∷ (makes_many_chunks points (chunk_size_in payload), cause.TooManyChunks) ∷ []

-- the conditions of a packed file that its laszip VLR decides, in order
abbrev pub vlr_causes : (head : List ℕ) → List (Bool × Refusal)
vlr_causes head =
    (lacks_vlr head, cause.NoVlr) ∷ payload_causes (format_of head) (extra_of head) (points_of head) (payload_of head)
