-- What a writer of an output stands for, from call to call.
use Rattle.std.specs.Prelude.{◌≡◌, ◌⊎◌, ℕ, ◌+◌, ◌*◌, ◌/◌, ◌%◌, ◌^◌, ◌<◌, ◌≤◌, min, Bool, true, false, if◌then◌else◌}
use Rattle.std.specs.Prelude.{MatchResult}
use Rattle.std.specs.Prelude.{Result}
use Rattle.std.specs.Prelude.{List, [], ◌∷◌, ◌++◌, length, map, take, Option, Some, None, All}
use Rattle.std.specs.List.{concat}
use Rattle.byteorder.specs.Endian.{little_bytes}
use Rattle.las_header.specs.declared.counts.Counts.{Counts}
use Rattle.las_header.specs.declared.limits.TheConstants.{COUNTS_AT, LONG_COUNTS_AT}
use Rattle.las_header.specs.Counting.{counts_bytes, long_counts_bytes}
use Rattle.las_header.specs.Fields.{has_long_counts, record_length_of}
use Rattle.las_header.specs.Heads.{IsHead}
use Rattle.las_header.specs.Plain.{cut_records}
use Rattle.las_outside.specs.Drafts.{IsUnfinished, Patch, IsPatchedInPart, with_patches}
use Rattle.las_header.specs.Limits.{IsChunkSize}
use Rattle.las_outside.specs.Limits.{AreWorkers}
use Rattle.las_outside.specs.Outside.{Outside, with_bytes, with_write_fault}
use Rattle.las_points.specs.Tally.{IsWithinPoints, counts_of}
use Rattle.laz_chunk.specs.Chunks.{chunk_bytes, count_of}
use Rattle.laz_chunk.specs.Layouts.{Format, layout, record_length, room_for}
use Rattle.laz_forms.specs.declared.fault.Fault.{Fault}
use Rattle.laz_forms.specs.declared.fault.Fault.TheVariants.{Refused, Read, Write, Memory}
use Rattle.laz_forms.specs.Outputs.{Output, draft_of, front, patches_of, records_after, stopped}
use Rattle.laz_forms.specs.Packing.{format_in, blocks_of, packed_head, packed_points}
use Rattle.las_outside.specs.Files.{with_patch}

-- the answer to a block: its chunk, and never none
abbrev pub IsChunk : Format → (block : List ℕ) → Option (List ℕ) → Type 0
IsChunk f block answer = answer ≡ Some (chunk_bytes (layout f) block)

-- A block of records fits a room: whole records, one at least, whose chunk takes no more bytes than the room has.
pub record FitsRoom (f : Format) (block : List ℕ) (size : ℕ) : Type 0 where
  pub some : record_length (layout f) ≤ length block
  pub whole : length block % record_length (layout f) ≡ 0
  pub room : room_for (layout f) (count_of (layout f) block) ≤ size

-- How a call that writes ends with a fault, after it has made something of the outside: with one failed write more, or
-- out of memory, with none.
abbrev pub Stops : Fault → (made now : Outside) → Type 0
Stops Memory made now = now ≡ made
Stops Write made now = now ≡ with_write_fault made
Stops Read made now = ⊥
Stops (Refused cause) made now = ⊥

-- A call ended with this fault, and of the output a prefix of a text stands.
abbrev pub StopsIn : (before now : Outside) → (name text : List ℕ) → Fault → Type 0
StopsIn before now name text fault = (n : ℕ) × Stops fault (with_bytes before name (take n text)) now

-- The same, and a text stands before the prefix of another.
abbrev pub StopsAfter : (before now : Outside) → (name text more : List ℕ) → Fault → Type 0
StopsAfter before now name text more fault = (n : ℕ) × Stops fault (with_bytes before name (text ++ take n more)) now

-- An output could not be begun: the outside is as before, or it is but for the output, which holds the first of a text.
abbrev pub StopsBeginning : (old now : Outside) → (name text : List ℕ) → Fault → Type 0
StopsBeginning old now name text fault = Stops fault old now ⊎ StopsIn old now name text fault

-- Patches lie in a text.
abbrev pub FitIn : (text : List ℕ) → List Patch → Type 0
FitIn text patches = All (λ patch. patch.0 + length patch.1 ≤ length text) patches

-- The outside is another one with some text under the name.
abbrev pub HasText : (now : Outside) → (name : List ℕ) → Type 0
HasText now name = (before : Outside) × (text : List ℕ) × (now ≡ with_bytes before name text)

-- A call makes a patch of a text, or a part of it.
abbrev pub Patches : Result (Unit {0}) Fault → (before now : Outside) → (name text : List ℕ) → Patch → Type 0
Patches result before now name text patch =
    MatchResult result (λ _. now ≡ with_bytes before name (with_patch text patch.0 patch.1))
    (λ fault. (n : ℕ) × Stops fault (with_bytes before name (with_patch text patch.0 (take n patch.1))) now)

-- It makes some, which lie in the text, one after another, or the first of them, the last in part.
abbrev pub PatchesAll : Result (Unit {0}) Fault → (before now : Outside) → (name text : List ℕ) → List Patch → Type 0
PatchesAll result before now name text patches =
    FitIn text patches → MatchResult result (λ _. now ≡ with_bytes before name (with_patches text patches))
    (λ fault. (left : List ℕ) × IsPatchedInPart text patches left × Stops fault (with_bytes before name left) now)

-- P holds of each other one, and of the text.
abbrev pub OfText : (now : Outside) → (name : List ℕ) → (P : Outside → List ℕ → Type 0) → Type 0
OfText now name P = (before : Outside) (text : List ℕ) → now ≡ with_bytes before name text → P before text

-- the chunks of some blocks
abbrev pub chunks : Format → (blocks : List (List ℕ)) → List (List ℕ)
chunks f blocks = map (chunk_bytes (layout f)) blocks

-- the chunks of some blocks, one after another
abbrev pub all_chunks : Format → (blocks : List (List ℕ)) → List ℕ
all_chunks f blocks = concat (chunks f blocks)

-- ---- the packing of an output

-- what is fixed of it: the format of the records, how many points a chunk has and how many there are at most in all,
-- where the pointer to the chunk table stands, and how many workers pack
pub record Plan : Type 0 where
  pub format : Format
  pub chunk : ℕ
  pub most : ℕ
  pub pointer : ℕ
  pub workers : ℕ

-- what contracts see of it: what is fixed, the lengths of the chunks that were appended, the full blocks that are kept
-- back, and the records after them, which make no full block
pub record PackingSeen : Type 0 where
  pub plan : Plan
  pub lengths : List ℕ
  pub kept : List (List ℕ)
  pub rest : List ℕ

-- the length of a record, and of a full block, in bytes
abbrev pub record_size : Plan → ℕ
record_size plan = record_length (layout plan.format)

abbrev pub block_size : Plan → ℕ
block_size plan = record_size plan * plan.chunk

-- the blocks of some bytes that are full
abbrev pub full_blocks : (size : ℕ) → List ℕ → List (List ℕ)
full_blocks size bytes = cut_records size (length bytes / size) bytes

-- the chunks of the full blocks of some records, and of all blocks, one after another
abbrev pub full_chunks : Plan → (records : List ℕ) → List ℕ
full_chunks plan records = all_chunks plan.format (full_blocks (block_size plan) records)

abbrev pub every_chunk : Plan → (records : List ℕ) → List ℕ
every_chunk plan records = all_chunks plan.format (blocks_of (block_size plan) records)

-- how long each of them is
abbrev pub chunk_lengths : Plan → (records : List ℕ) → List ℕ
chunk_lengths plan records = map (λ chunk. length chunk) (chunks plan.format (blocks_of (block_size plan) records))

-- the chunks of all blocks of some records, and their table
abbrev pub packed_text : Plan → (records : List ℕ) → List ℕ
packed_text plan records = packed_points (chunks plan.format (blocks_of (block_size plan) records))

-- a block of whole records, one at least, and no more than a chunk has or than there are in all
pub record IsBlock (plan : Plan) (block : List ℕ) : Type 0 where
  pub count : ℕ
  pub some : 1 ≤ count
  pub few : count ≤ plan.chunk
  pub within : count ≤ plan.most
  pub size : length block ≡ record_size plan * count

-- each block has this many bytes
abbrev pub AreFull : ℕ → List (List ℕ) → Type 0
AreFull size [] = Unit {0}
AreFull size (block ∷ blocks) = (length block ≡ size) × AreFull size blocks

-- The numbers of a plan are in range.
pub record IsPlan (plan : Plan) : Type 0 where
  pub size : IsChunkSize plan.chunk
  pub most : plan.most < 2 ^ 32
  pub near : plan.pointer < 2 ^ 32

-- A crew can pack the blocks: it has a worker, its spaces are of the format, and its rooms are for the largest block.
pub record CanPack (plan : Plan) (spaces : List Format) (rooms : List ℕ) : Type 0 where
  pub known : plan.format.format < 4
  pub extra : plan.format.extra < 193
  pub numbers : IsPlan plan
  pub hands : AreWorkers plan.workers
  pub spaces_are : All (λ space. space ≡ plan.format) spaces
  pub rooms_are : All (λ room. room ≡ room_for (layout plan.format) (min plan.chunk plan.most)) rooms

-- The packing took these bytes: a block that became full is kept back after the others.
pub record Took (old new : PackingSeen) (bytes : List ℕ) : Type 0 where
  pub blocks : List (List ℕ)
  pub kept : new.kept ≡ old.kept ++ blocks
  pub full : AreFull (block_size old.plan) blocks
  pub whole : concat blocks ++ new.rest ≡ old.rest ++ bytes
  pub short : length new.rest < block_size old.plan
  pub count : length blocks ≤ 1
  pub plan : new.plan ≡ old.plan
  pub lengths : new.lengths ≡ old.lengths

-- The outside is as before but for the output, and the output and its packing stand for some records: the output holds
-- its front and the chunks of these blocks, the next blocks are kept back, and what is left makes no full block.
pub record PackedStands (before now : Outside) (name front : List ℕ) (packing : PackingSeen) (records : List ℕ)
    : Type 0 where
  pub done : List (List ℕ)
  pub file : now ≡ with_bytes before name (front ++ all_chunks packing.plan.format done)
  pub whole : records ≡ concat (done ++ packing.kept) ++ packing.rest
  pub full : AreFull (block_size packing.plan) (done ++ packing.kept)
  pub short : length packing.rest < block_size packing.plan
  pub lengths : packing.lengths ≡ map (λ chunk. length chunk) (chunks packing.plan.format done)
  pub within : length records ≤ record_size packing.plan * packing.plan.most
  pub numbers : IsPlan packing.plan

-- The plan has room for more bytes of records.
abbrev pub PlanHasRoom : Plan → (bytes more : List ℕ) → Type 0
PlanHasRoom plan bytes more = length bytes + length more ≤ record_size plan * plan.most

-- P holds of each outside over which the output and its packing stand, and of its front and of the records.
abbrev pub OfPacked : (now : Outside) → (name : List ℕ) → PackingSeen
    → (P : Outside → (front records : List ℕ) → Type 0) → Type 0
OfPacked now name packing P =
    (before : Outside) (front records : List ℕ) → PackedStands before now name front packing records
    → P before front records

-- The output and its packing stand for some whole records.
abbrev pub HoldsWhole : (now : Outside) → (name : List ℕ) → PackingSeen → Type 0
HoldsWhole now name packing =
    (before : Outside) × (front : List ℕ) × (records : List ℕ)
    × PackedStands before now name front packing records
    × (length records % record_size packing.plan ≡ 0)

-- A call adds records that the plan has room for: the output and its packing then stand for them, too, or it stops in
-- the
-- chunks of the blocks that are then full.
abbrev pub AddsPacked : Result (Unit {0}) Fault → (old now : Outside) → (name : List ℕ) → (packing next : PackingSeen)
    → (more : List ℕ) → Type 0
AddsPacked result old now name packing next more =
    OfPacked old name packing (λ before front bytes. PlanHasRoom packing.plan bytes more
    → MatchResult result (λ _. PackedStands before now name front next (bytes ++ more))
    (StopsIn before now name (front ++ full_chunks packing.plan (bytes ++ more))))

-- ---- writers

-- an output by the parts of a call
abbrev pub new_output : (name head : List ℕ) → (chunk : Option ℕ) → (counted : Bool) → Output
new_output name head chunk counted = record { name = name; head = head; chunk = chunk; counted = counted }

-- what contracts see of a writer: the name of its output; the lengths of the plain head and of a record; how many
-- records there are at most in all, and how many bytes of records it took; whether the head has a second set of counts;
-- the counts of the records, if they are counted; the packing, if the output is packed; whether a call has failed
pub record WriterSeen : Type 0 where
  pub name : List ℕ
  pub start : ℕ
  pub size : ℕ
  pub most : ℕ
  pub taken : ℕ
  pub long_counts : Bool
  pub counts : Option Counts
  pub packing : Option PackingSeen
  pub failed : Bool

-- A writer has room for more bytes of records after some.
abbrev pub WriterHasRoom : WriterSeen → (bytes more : List ℕ) → Type 0
WriterHasRoom writer bytes more = length bytes + length more ≤ writer.size * writer.most

-- a head in the form in which it is written: with a laszip VLR, if the points are packed
abbrev pub written_head : Option ℕ → (head : List ℕ) → List ℕ
written_head None head = head
written_head (Some chunk) head = packed_head head chunk

-- what follows a head: a pointer if the points are packed, to their place
abbrev pub pointer_part : (packed : Bool) → (head : List ℕ) → List ℕ
pointer_part true head = little_bytes 8 (length head)
pointer_part false head = []

-- The plan is one for the records of a head, in chunks of this many.
pub record IsPlanOf (head : List ℕ) (chunk most : ℕ) (plan : Plan) : Type 0 where
  pub format : plan.format ≡ format_in head
  pub chunk_is : plan.chunk ≡ chunk
  pub most_is : plan.most ≡ most
  pub pointer : plan.pointer ≡ length (packed_head head chunk)

-- the packing of an output as it begins, if it is packed
abbrev pub first_packing : (head : List ℕ) → (most pointer workers : ℕ) → Option ℕ → Option PackingSeen
first_packing head most pointer workers None = None
first_packing head most pointer workers (Some chunk) = Some record {
  plan = record { format = format_in head; chunk = chunk; most = most; pointer = pointer; workers = workers };
  lengths = [];
  kept = [];
  rest = [];
}

-- A packed output stands for some records, and its packing is one for its head.
pub record ChunksStand (before now : Outside) (out : Output) (chunk most : ℕ) (packing : PackingSeen) (records : List ℕ)
    : Type 0 where
  pub plan : IsPlanOf out.head chunk most packing.plan
  pub few : length packing.kept < 2 * packing.plan.workers
  pub stands : PackedStands before now out.name (front out) packing records

-- An output stands for some records: the outside is as before but for the output, which holds its front and all of the
-- records if it is plain, and the chunks of those that are not kept back if it is packed.
abbrev pub PointsStand : Option ℕ → (before now : Outside) → Output → (most : ℕ) → Option PackingSeen
    → (records : List ℕ) → Type 0
PointsStand None before now out most None records = now ≡ with_bytes before out.name (front out ++ records)
PointsStand None before now out most (Some packing) records = ⊥
PointsStand (Some chunk) before now out most None records = ⊥
PointsStand (Some chunk) before now out most (Some packing) records =
    ChunksStand before now out chunk most packing records

-- The counts are those of the records, if they are counted.
abbrev pub IsTally : (counted : Bool) → Option Counts → (records : List (List ℕ)) → Type 0
IsTally true None records = ⊥
IsTally true (Some counts) records = (counts ≡ counts_of records) × IsWithinPoints counts
IsTally false None records = Unit {0}
IsTally false (Some counts) records = ⊥

-- The outside is as before but for the output, and the output and its writer stand for these records, which are whole
-- ones and at most as many as the writer was made for.
pub record Stands (before now : Outside) (writer : WriterSeen) (out : Output) (records : List ℕ) : Type 0 where
  pub head : IsHead out.head
  pub named : writer.name ≡ out.name
  pub start : writer.start ≡ length out.head
  pub size : writer.size ≡ record_length_of out.head
  pub few : writer.most < 2 ^ 32
  pub taken : writer.taken ≡ length records
  pub whole : length records % record_length_of out.head ≡ 0
  pub within : length records ≤ record_length_of out.head * writer.most
  pub long : writer.long_counts ≡ has_long_counts out.head
  pub tally : IsTally out.counted writer.counts (records_after out.head records)
  pub points : PointsStand out.chunk before now out writer.most writer.packing records

-- A writer stands for some records of some output.
abbrev pub IsBegun : (now : Outside) → WriterSeen → Type 0
IsBegun now writer =
    (before : Outside) × (out : Output) × (records : List ℕ) × Stands before now writer out records

-- P holds of each output and of the records for which a writer stands, and of the outside before the output.
abbrev pub OfOutput : (now : Outside) → WriterSeen → (P : Outside → Output → (records : List ℕ) → Type 0) → Type 0
OfOutput now writer P =
    (before : Outside) (out : Output) (records : List ℕ) → Stands before now writer out records
    → P before out records

-- A call adds records that the writer has room for: the output then stands for them, too, or it stops in what is
-- appended
-- of it.
abbrev pub AddsPoints : Result (Unit {0}) Fault → (old now : Outside) → (writer : WriterSeen)
    → (next : Option PackingSeen) → (more : List ℕ) → Type 0
AddsPoints result old now writer next more =
    OfOutput old writer (λ before out bytes. WriterHasRoom writer bytes more
    → MatchResult result (λ _. PointsStand out.chunk before now out writer.most next (bytes ++ more))
    (StopsIn before now out.name (stopped out (bytes ++ more))))

-- An output of these records is left unfinished.
abbrev pub StopsUnfinished : (before now : Outside) → Output → (records : List ℕ) → Fault → Type 0
StopsUnfinished before now out records fault =
    (left : List ℕ) × IsUnfinished (draft_of out records) (patches_of out records) left
    × Stops fault (with_bytes before out.name left) now

-- ---- the patches that finish an output, as a writer makes them

-- those of the counts, one set or both, if they are counted
abbrev pub tally_patches : (long : Bool) → Option Counts → List Patch
tally_patches long None = []
tally_patches long (Some counts) =
    (COUNTS_AT, counts_bytes counts) ∷ (if long then (LONG_COUNTS_AT, long_counts_bytes counts) ∷ [] else [])

-- that of a pointer: its place, and where the chunk table begins
abbrev pub pointer_patch : Option (ℕ × ℕ) → List Patch
pointer_patch None = []
pointer_patch (Some pointer) = (pointer.0, little_bytes 8 pointer.1) ∷ []
