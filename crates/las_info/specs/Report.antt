-- The report of `lasinfo` as text: a line for each thing, of a word and values after blanks.
use Rattle.std.specs.Prelude.{ℕ, ◌+◌, nat_lt, if◌then◌else◌, List, [], ◌∷◌, ◌++◌, map, take, drop}
use Rattle.std.specs.Prelude.{codes}
use Rattle.std.specs.Prelude.{Option, Some, None}
use Rattle.std.specs.Fmt.{decimal, signed_decimal}
use Rattle.std.specs.List.{flat_map}
use Rattle.std.specs.FinMap as bins
use Rattle.hex.specs.Hex.{encode_lower}
use Rattle.las_header.specs.declared.vlrs.VlrPlace.{VlrPlace}
use Rattle.las_header.specs.Numbers.{number_at}
use Rattle.las_header.specs.Fields.{format_of, header_size_of, long_returns_of, minor_of, point_offset_of, points_of}
use Rattle.las_header.specs.Fields.{has_long_counts, record_length_of, returns_of, vlr_count_of}
use Rattle.las_header.specs.Vlrs.{vlrs_of}
use Rattle.las_info.specs.declared.extents.Extents.{Extents}
use Rattle.las_info.specs.declared.extents.Range.{Range}
use Rattle.las_info.specs.Summaries.{SummarySeen}
use Rattle.las_info.specs.Tallies.{Tally}

-- a line: a word, and values, each after a blank
abbrev pub line : (word : List ℕ) → (values : List (List ℕ)) → List ℕ
line word values = word ++ flat_map (λ value. codes " " ++ value) values ++ codes "\n"

-- a line of numbers
abbrev pub number_line : (word : List ℕ) → (numbers : List ℕ) → List ℕ
number_line word numbers = line word (map decimal numbers)

-- a VLR: its user ID as 32 hexadecimal digits, its record ID, and the length of its payload
abbrev pub vlr_line : (head : List ℕ) → VlrPlace → List ℕ
vlr_line head place =
    line (codes "vlr")
    (encode_lower (take 16 (drop (place.start + 2) head)) ∷ decimal (number_at 2 (place.start + 18) head)
    ∷ decimal place.length ∷ [])

-- how the points are stored: plain, or packed, with the number of chunks and the points of a chunk
abbrev pub packed_line : (chunk : Option (ℕ × ℕ)) → List ℕ
packed_line None = line (codes "packed") (codes "no" ∷ [])
packed_line (Some chunk) = number_line (codes "packed") (chunk.0 ∷ chunk.1 ∷ [])

-- LAS 1.4 alone: its numbers of points by return
abbrev pub long_line : Option (List ℕ) → List ℕ
long_line None = []
long_line (Some numbers) = number_line (codes "long returns") numbers

-- the version, the header size, the offset to point data, and the number of VLRs
abbrev pub front_text : (head : List ℕ) → List ℕ
front_text head =
    (codes "version 1." ++ decimal (minor_of head) ++ codes "\n")
    ++ number_line (codes "header") (header_size_of head ∷ [])
    ++ number_line (codes "offset") (point_offset_of head ∷ [])
    ++ number_line (codes "vlrs") (vlr_count_of head ∷ [])

-- the point data format, the length of a record, and the number of points
abbrev pub format_text : (head : List ℕ) → List ℕ
format_text head =
    number_line (codes "format") (format_of head ∷ [])
    ++ number_line (codes "length") (record_length_of head ∷ [])
    ++ number_line (codes "points") (points_of head ∷ [])

-- the numbers of points by return, in each set that the head has
abbrev pub returns_text : (head : List ℕ) → List ℕ
returns_text head =
    number_line (codes "header returns") (returns_of head)
    ++ long_line (if has_long_counts head then Some (long_returns_of head) else None)

-- the head, line by line
abbrev pub head_text : (head : List ℕ) → (chunk : Option (ℕ × ℕ)) → List ℕ
head_text head chunk =
    front_text head ++ flat_map (vlr_line head) (vlrs_of head) ++ format_text head ++ packed_line chunk
    ++ returns_text head

-- the least and the greatest of a raw coordinate
abbrev pub range_line : (word : List ℕ) → Range → List ℕ
range_line word range = line word (signed_decimal range.low ∷ signed_decimal range.high ∷ [])

-- those of the three coordinates, if there is a record
abbrev pub extents_text : Option Extents → List ℕ
extents_text None = []
extents_text (Some extents) =
    range_line (codes "raw x") extents.x ++ range_line (codes "raw y") extents.y
    ++ range_line (codes "raw z") extents.z

-- the records
abbrev pub summary_text : SummarySeen → List ℕ
summary_text summary =
    number_line (codes "record returns") (take 5 summary.counts.returns) ++ extents_text summary.extents

-- a bin and its count, if this is above 0
abbrev pub bin_line : ℕ × ℕ → List ℕ
bin_line entry = if nat_lt 0 entry.1 then decimal entry.0 ++ codes " " ++ decimal entry.1 ++ codes "\n" else []

-- a tap: its name, and its bins with counts above 0, by ascending bin
abbrev pub tally_text : (name : List ℕ) → Tally → List ℕ
tally_text name tally =
    line (codes "tally") (name ∷ []) ++ flat_map bin_line (bins.entries tally)

-- the report: of the head, of the records, and the text of the taps
abbrev pub report_text : (head : List ℕ) → (chunk : Option (ℕ × ℕ)) → SummarySeen → (tallies : List ℕ) → List ℕ
report_text head chunk summary tallies = head_text head chunk ++ summary_text summary ++ tallies
