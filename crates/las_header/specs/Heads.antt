-- What is known of every head.
use Rattle.std.specs.Prelude.{◌≡◌, ℕ, ◌+◌, ◌≤◌, ◌<◌, ◌^◌, nat_eq, true, false, if◌then◌else◌, List, [], length, codes}
use Rattle.std.specs.Prelude.{None}
use Rattle.std.specs.List.{starts_with}
use Rattle.las_header.specs.declared.limits.TheConstants.{HEADER_BLOCK, HEADER_BLOCK_1_4, LAST_MINOR, LAST_FORMAT}
use Rattle.las_header.specs.declared.limits.TheConstants.{MAX_EXTRA, MAX_OFFSET, VLR_HEAD}
use Rattle.las_header.specs.Fields.{major_of, minor_of, header_size_of, least_header_size, point_offset_of}
use Rattle.las_header.specs.Fields.{offset_limit, is_packed, format_of, format_size, record_length_of, has_long_counts}
use Rattle.las_header.specs.Fields.{extended_count_of, points_of}
use Rattle.las_header.specs.Vlrs.{vlrs_end, laszip_vlrs_of, first_size, HasOneVlr}
use Rattle.las_header.specs.Plain.{with_vlr, plain_of}
use Rattle.las_header.specs.Refusals.{first_cause, front_causes, head_causes, has_bad_counts}

-- what contracts see of a head: its bytes, up to the point data, and the size of its file in bytes
pub record HeadView : Type 0 where
  pub bytes : List ℕ
  pub size : ℕ

-- how many bytes the laszip VLR of a packed head takes
abbrev pub laszip_size : List ℕ → ℕ
laszip_size head = if is_packed head then first_size (laszip_vlrs_of head) else 0

-- A head reaches from the start of the file to the point data, and none of the conditions holds of it that its bytes
-- alone decide. Without the laszip VLR of a packed file it is at most 2^24 bytes long.
pub record IsHead (head : List ℕ) : Type 0 where
  pub block : HEADER_BLOCK ≤ length head
  pub long_block : has_long_counts head ≡ true → HEADER_BLOCK_1_4 ≤ length head
  pub signature : starts_with nat_eq head (codes "LASF") ≡ true
  pub major : major_of head ≡ 1
  pub minor : minor_of head ≤ LAST_MINOR
  pub header_size : least_header_size (minor_of head) ≤ header_size_of head
  pub whole : point_offset_of head ≡ length head
  pub vlrs : vlrs_end head ≤ length head
  pub format : format_of head ≤ LAST_FORMAT
  pub record_length : format_size (format_of head) ≤ record_length_of head
  pub extra : record_length_of head ≤ format_size (format_of head) + MAX_EXTRA
  pub extended : has_long_counts head ≡ true → extended_count_of head ≡ 0
  pub counts : has_bad_counts head ≡ false
  pub points : points_of head < 2 ^ 32
  pub small : length head < 2 ^ 32
  pub near : length head ≤ MAX_OFFSET + laszip_size head

-- the point records of both heads have one format and one length
pub record SameRecords (old new : List ℕ) : Type 0 where
  pub format : format_of new ≡ format_of old
  pub record_length : record_length_of new ≡ record_length_of old

-- what stays of a head if only its counts change
pub record KeepsLayout (old new : List ℕ) : Type 0 where
  pub size : length new ≡ length old
  pub packed : is_packed new ≡ is_packed old
  pub laszip : laszip_vlrs_of new ≡ laszip_vlrs_of old
  pub records : SameRecords old new

-- No condition of the front holds of a head whose offset is within its limit and within the file.
abbrev pub FrontIsFine : Type 0
FrontIsFine = (head : List ℕ) (size : ℕ) → IsHead head → length head ≤ size → length head ≤ offset_limit head
    → first_cause (front_causes head size) ≡ None

-- No condition holds of the head of a packed file that this crate decides.
abbrev pub PackedIsFine : Type 0
PackedIsFine = (head : List ℕ) (size : ℕ) → IsHead head → is_packed head ≡ true
    → first_cause (head_causes head size) ≡ None

-- the new head is the plain one as that of a packed file, and without the laszip VLR it is the old one again
pub record PacksHead (payload old new : List ℕ) : Type 0 where
  pub bytes : new ≡ with_vlr payload old
  pub is_head : IsHead new
  pub back : plain_of new ≡ old
  pub packed : is_packed new ≡ true
  pub size : length new ≡ length old + (VLR_HEAD + length payload)
  pub records : SameRecords old new
  pub points : points_of new ≡ points_of old
  pub laszip : HasOneVlr (vlrs_end old) (length payload) new

-- the new head is the packed one as that of a plain file
pub record IsPlainOf (old new : List ℕ) : Type 0 where
  pub bytes : new ≡ plain_of old
  pub is_head : IsHead new
  pub plain : is_packed new ≡ false
  pub records : SameRecords old new
  pub points : points_of new ≡ points_of old
  pub none : laszip_vlrs_of new ≡ []
