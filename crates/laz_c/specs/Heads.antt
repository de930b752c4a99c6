-- What is read of the head of a file.
use Rattle.std.specs.Prelude.{◌≡◌, ℕ, ◌≤◌, if◌then◌else◌, List, [], ◌∷◌, length, take, Option, None}
use Rattle.las_header.specs.declared.limits.TheConstants.{HEADER_BLOCK}
use Rattle.las_header.specs.declared.refusal.Refusal.{Refusal}
use Rattle.las_header.specs.declared.vlrs.VlrPlace.{VlrPlace}
use Rattle.las_header.specs.Causes.{cause_number}
use Rattle.las_header.specs.Fields.{minor_of, header_size_of, point_offset_of, vlr_count_of, is_packed, format_of}
use Rattle.las_header.specs.Fields.{record_length_of, points_of}
use Rattle.las_header.specs.Refusals.{first_cause, front_causes, head_causes, or_else}
use Rattle.las_header.specs.Vlrs.{laszip_vlrs_of}
use Rattle.laz_table.specs.VlrCauses.{chunk_size_of, extra_of, vlr_causes}
use Rattle.laz_c.specs.declared.head.LazHead.{LazHead}

-- Bytes are those of a file of this size before its point data, as far as their first 227 decide it.
pub record IsWhole (bytes : List ℕ) (size : ℕ) : Type 0 where
  pub block : HEADER_BLOCK ≤ length bytes
  pub accepted : first_cause (front_causes (take HEADER_BLOCK bytes) size) ≡ None
  pub whole : point_offset_of (take HEADER_BLOCK bytes) ≡ length bytes

-- why packed points are refused by the laszip VLR
abbrev pub laszip_cause : (head : List ℕ) → Option Refusal
laszip_cause head = if is_packed head then first_cause (vlr_causes head) else None

-- Why a file is refused by its head: by the first condition of all files, or else by the first one of packed points.
abbrev pub head_cause : (head : List ℕ) → (size : ℕ) → Option Refusal
head_cause head size = or_else (first_cause (head_causes head size)) (laszip_cause head)

-- the chunk size of packed points; 0 for plain ones
abbrev pub chunk_or_0 : (head : List ℕ) → ℕ
chunk_or_0 head = if is_packed head then chunk_size_of head else 0

-- the place of the first of some VLRs; zeros, if there is none
abbrev pub first_place : List VlrPlace → VlrPlace
first_place [] = record { start = 0; length = 0 }
first_place (place ∷ places) = place

-- the numbers of a head that is accepted
abbrev pub numbers_of : (head : List ℕ) → LazHead
numbers_of head =
    record {
      refusal = 0;
      offset = point_offset_of head;
      points = points_of head;
      chunk = chunk_or_0 head;
      vlr_count = vlr_count_of head;
      laszip_start = (first_place (laszip_vlrs_of head)).start;
      laszip_length = (first_place (laszip_vlrs_of head)).length;
      header_size = header_size_of head;
      record_length = record_length_of head;
      extra = extra_of head;
      minor = minor_of head;
      format = format_of head;
    }

-- those of a head that is refused: the number of the cause, and zeros
abbrev pub refused_as : Refusal → LazHead
refused_as cause =
    record {
      refusal = cause_number cause;
      offset = 0;
      points = 0;
      chunk = 0;
      vlr_count = 0;
      laszip_start = 0;
      laszip_length = 0;
      header_size = 0;
      record_length = 0;
      extra = 0;
      minor = 0;
      format = 0;
    }
