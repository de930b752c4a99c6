-- What copying the chunks of packed files gives: one packed file, with a number of points for each chunk.
use Rattle.std.specs.Prelude.{◌≡◌, ℕ, ◌-◌, ◌^◌, min, if◌then◌else◌, List, [], ◌∷◌, ◌++◌, map, replicate}
use Rattle.std.specs.Prelude.{slice_index, slice_index_or, sum_by}
use Rattle.std.specs.List.{range_with_len}
use Rattle.las_header.specs.Counting.{with_sums}
use Rattle.las_header.specs.Fields.{has_long_counts, head_of, long_returns_of, points_of, returns_of}
use Rattle.las_header.specs.Plain.{plain_of}
use Rattle.laz_table.specs.declared.limits.TheConstants.{COUNTED_CHUNKS}
use Rattle.laz_forms.specs.Pieces.{ArePieces, Piece, piece_bytes}
use Rattle.laz_forms.specs.Packing.{packed_form}

-- a chunk of a packed file: its number of records, and its bytes
pub record Chunk : Type 0 where
  pub count : ℕ
  pub bytes : List ℕ

abbrev pub chunk_counts : List Chunk → List ℕ
chunk_counts chunks = map (λ c. c.count) chunks

abbrev pub byte_lists_in : List Chunk → List (List ℕ)
byte_lists_in chunks = map (λ c. c.bytes) chunks

-- lists of several files, one file after another
abbrev pub all_of : {A : Type 0} → (parts : List (List A)) → List A
all_of [] = []
all_of (part ∷ parts) = part ++ all_of parts

-- a piece of a packed file as a chunk
abbrev pub chunk_at : (file : List ℕ) → Piece → Chunk
chunk_at file piece = record { count = piece.count; bytes = piece_bytes file piece }

-- These are the chunks of a packed file.
abbrev pub AreChunks : (file : List ℕ) → List Chunk → Type 0
AreChunks file chunks = (pieces : List Piece) × ArePieces file pieces × (chunks ≡ map (chunk_at file) pieces)

-- Each file has its chunks.
abbrev pub HaveChunks : (files : List (List ℕ)) → (parts : List (List Chunk)) → Type 0
HaveChunks [] [] = Unit {0}
HaveChunks [] (part ∷ parts) = ⊥
HaveChunks (file ∷ files) [] = ⊥
HaveChunks (file ∷ files) (part ∷ parts) = AreChunks file part × HaveChunks files parts

-- how many point records files have, by their heads
abbrev pub points_of_files : (files : List (List ℕ)) → ℕ
points_of_files files = sum_by (λ file. points_of (head_of file)) files

-- the numbers of points of the returns 1 to 15 that a head has: all of them for LAS 1.4, and else the first five
abbrev pub returns_to_15 : (head : List ℕ) → List ℕ
returns_to_15 head = if has_long_counts head then long_returns_of head else returns_of head ++ replicate 10 0

-- rows of numbers of several things added up place by place; a sum above the greatest number becomes that number
abbrev pub sums_up_to : {A : Type 0} → (most width : ℕ) → (row : A → List ℕ) → (items : List A) → List ℕ
sums_up_to most width row items =
    map (λ i. min (sum_by (λ item. slice_index (row item) i) items) most) (range_with_len 0 width)

abbrev pub returns_in : (files : List (List ℕ)) → List ℕ
returns_in files = sums_up_to (2 ^ 32 - 1) 5 (λ file. returns_of (head_of file)) files

abbrev pub long_returns_in : (files : List (List ℕ)) → List ℕ
long_returns_in files = sums_up_to (2 ^ 64 - 1) 15 (λ file. returns_to_15 (head_of file)) files

-- the plain head of the first file, with the sums of the counts of all heads
abbrev pub first_head : (files : List (List ℕ)) → List ℕ
first_head files = head_of (slice_index_or files 0 [])

abbrev pub copied_head : (files : List (List ℕ)) → List ℕ
copied_head files =
    with_sums (points_of_files files) (returns_in files) (long_returns_in files) (plain_of (first_head files))

-- files as one, of these chunks: under that head, with the laszip VLR for chunks that each have a number of points of
-- their own, then the pointer to the table, the chunks as they stand, and the table
abbrev pub copied_file : (files : List (List ℕ)) → (chunks : List Chunk) → List ℕ
copied_file files chunks = packed_form (copied_head files) COUNTED_CHUNKS (chunk_counts chunks) (byte_lists_in chunks)
