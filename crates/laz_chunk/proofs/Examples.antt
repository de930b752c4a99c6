-- Worked values of the definitions: lengths, rooms, the order of a record's items, and chunks.
use Rattle.std.proofs.Common.{◌≡◌, ℕ, List, [], ◌∷◌, ◌++◌, map, refl, replicate}
use Rattle.las_header.specs.Numbers.{number_at}
use Rattle.laz_range.specs.Span.{renormal_step, subspan}
use Rattle.laz_models.specs.BitDist.{bit_counts_at}
use Rattle.laz_models.specs.Counting.{starts_of}
use Rattle.laz_models.specs.Cycles.{cycle_in}
use Rattle.laz_models.specs.Dist.{counts_at}
use Rattle.laz_integer.specs.Bytes.{has_bit}
use Rattle.laz_integer.specs.Corrector.{corrector_index, digits_within, width_of}
use Rattle.laz_integer.specs.Events.{Symbol}
use Rattle.laz_integer.specs.Integer.{rest_events}
use Rattle.laz_integer.specs.Uses.{own_name}
use Rattle.laz_point10.specs.Points.{one_return, point_at, return_level, return_map}
use Rattle.laz_point10.specs.PointEvents.{changes_of, even_below, point_events}
use Rattle.laz_point10.specs.Medians.{with_value}
use Rattle.laz_gpstime.specs.Meanings.{time_kind}
use Rattle.laz_rgb.specs.Colours.{rgb_kind}
use Rattle.laz_rgb.specs.Extra.{byte_kind}
use Rattle.laz_chunk.specs.Layouts.{Layout, layout_of, record_length, room_for}
use Rattle.laz_chunk.specs.Records.{extra_part, record_at, record_events, time_part, colour_part}
use Rattle.laz_chunk.specs.Chunks.{chunk_bytes, count_of, initial_history}

-- ---- layouts

-- formats 0 to 3, without extra bytes and with 4
lengths : map (λ format. record_length (layout_of format 0)) (0 ∷ 1 ∷ 2 ∷ 3 ∷ []) ≡ 20 ∷ 28 ∷ 26 ∷ 34 ∷ []
lengths = refl

longer : map (λ format. record_length (layout_of format 4)) (0 ∷ 1 ∷ 2 ∷ 3 ∷ []) ≡ 24 ∷ 32 ∷ 30 ∷ 38 ∷ []
longer = refl

longest : record_length (layout_of 3 192) ≡ 226
longest = refl

-- the chunk's first record and four bytes, and 114 bytes for each further record; three more for an extra byte
rooms : map (room_for (layout_of 0 0)) (0 ∷ 1 ∷ 2 ∷ 3 ∷ []) ≡ 0 ∷ 24 ∷ 138 ∷ 252 ∷ []
rooms = refl

rooms_with_extra : map (room_for (layout_of 3 192)) (0 ∷ 1 ∷ 2 ∷ 3 ∷ []) ≡ 0 ∷ 230 ∷ 920 ∷ 1610 ∷ []
rooms_with_extra = refl

counts : (count_of (layout_of 1 0) (replicate 84 5) ≡ 3) × (count_of (layout_of 3 2) (replicate 36 5) ≡ 1)
counts = (refl, refl)

-- ---- records

-- the parts in their order: a point, a time, a colour, extra bytes
abbrev parts : List ℕ
parts = replicate 20 1 ++ replicate 8 2 ++ replicate 6 3 ++ replicate 2 4

time_is : time_part (layout_of 3 2) parts ≡ replicate 8 2
time_is = refl

colour_is : colour_part (layout_of 3 2) parts ≡ replicate 6 3
colour_is = refl

extra_is : extra_part (layout_of 3 2) parts ≡ replicate 2 4
extra_is = refl

-- without a time the colour comes right after the point
colour_after_point : colour_part (layout_of 2 10) parts ≡ replicate 6 2
colour_after_point = refl

-- the events of a record that equals the first one: those of its point, then of its time, its colour and each extra byte
in_order : let l : Layout = layout_of 3 2 in
    record_events l (initial_history (record_at l parts)).1 (record_at l parts)
    ≡ point_events (point_at (replicate 20 1) ∷ []) (point_at (replicate 20 1))
    ++ Symbol (own_name time_kind 0) 6 0
    ∷ Symbol (own_name rgb_kind 0) 128 0
    ∷ Symbol (own_name byte_kind 0) 256 0
    ∷ Symbol (own_name byte_kind 1) 256 0
    ∷ []
unfolding number_at has_bit changes_of even_below return_map return_level one_return with_value digits_within width_of corrector_index rest_events
in_order = refl

-- ---- chunks

-- twenty zero bytes, and a point with intensity 7 that is the first of one return
abbrev zeros : List ℕ
zeros = replicate 20 0

abbrev seven : List ℕ
seven = replicate 12 0 ++ 7 ∷ 0 ∷ 9 ∷ 0 ∷ 0 ∷ 0 ∷ 0 ∷ 0 ∷ []

-- a chunk of one record: the record, and the end of a stream of no event
one_record : chunk_bytes (layout_of 0 0) seven ≡ seven ++ 1 ∷ 0 ∷ 0 ∷ 0 ∷ []
one_record = refl

one_longer_record : chunk_bytes (layout_of 3 2) parts ≡ parts ++ 1 ∷ 0 ∷ 0 ∷ 0 ∷ []
one_longer_record = refl

-- the second of two equal records has a changed intensity, since the first one sets none
two_equal : chunk_bytes (layout_of 0 0) (seven ++ seven) ≡ seven ++ 64 ∷ 225 ∷ 163 ∷ 106 ∷ 128 ∷ 0 ∷ 0 ∷ []
unfolding number_at has_bit changes_of even_below return_map return_level one_return with_value digits_within width_of corrector_index rest_events renormal_step subspan starts_of counts_at cycle_in bit_counts_at
two_equal = refl

two_zero : chunk_bytes (layout_of 0 0) (zeros ++ zeros) ≡ zeros ++ 0 ∷ 0 ∷ 0 ∷ 1 ∷ 0 ∷ 0 ∷ 0 ∷ []
unfolding number_at has_bit changes_of even_below return_map return_level one_return with_value digits_within width_of corrector_index rest_events renormal_step subspan starts_of counts_at cycle_in bit_counts_at
two_zero = refl
