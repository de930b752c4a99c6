-- The four sequences of a chunk's times, as look-ups in its points so far. The points are a list, the latest one first.
use Rattle.std.specs.Prelude.{ℕ, ◌+◌, ◌-◌, ◌%◌, ◌==◌, if◌then◌else◌, List, [], ◌∷◌}
use Rattle.laz_integer.specs.Events.{Event}
use Rattle.laz_gpstime.specs.Meanings.{Meaning, extremes_after, is_new, meaning_in, meanings, sets, switch_in}

-- A point of a chunk: its time, as a number of 64 bits, and the events that spelled it. The chunk's first point has
-- none.
pub record Point : Type 0 where
  pub time : ℕ
  pub events : List Event

abbrev pub point_switch : Point → ℕ
point_switch p = switch_in (meanings p.events)

abbrev pub point_meaning : Point → Meaning
point_meaning p = meaning_in (meanings p.events)

-- How many points opened a sequence.
abbrev pub openings : List Point → ℕ
openings [] = 0
openings (p ∷ earlier) = if is_new (point_meaning p) then openings earlier + 1 else openings earlier

-- The sequence of the latest point: of the first point 0; of a point that opened one the number of openings, modulo 4;
-- of any other that of the point before it, as many on as it switched.
abbrev pub sequence : List Point → ℕ
sequence [] = 0
sequence (p ∷ earlier) = if is_new (point_meaning p)
    then (openings earlier + 1) % 4 else (sequence earlier + point_switch p) % 4

-- The last time of a sequence: that of its latest point, or 0.
abbrev pub last_time : List Point → ℕ → ℕ
last_time [] s = 0
last_time (p ∷ earlier) s = if sequence (p ∷ earlier) == s then p.time else last_time earlier s

-- How many differences of a sequence were extreme since its latest opening, point that set the difference, or symbol 1.
abbrev pub extremes : List Point → ℕ → ℕ
extremes [] s = 0
extremes (p ∷ earlier) s =
    if sequence (p ∷ earlier) == s then extremes_after (point_meaning p) (extremes earlier s) else extremes earlier s

-- The difference of two times, modulo 2^64.
abbrev pub time_difference : ℕ → ℕ → ℕ
time_difference from to = (to + (18446744073709551616 - from)) % 18446744073709551616

-- The difference of a sequence, as a word of 32 bits: that of its latest point that set it, since its latest opening,
-- to the last time before that point; or 0.
abbrev pub difference : List Point → ℕ → ℕ
difference [] s = 0
difference (p ∷ earlier) s =
    if sequence (p ∷ earlier) == s then
    (if is_new (point_meaning p) then 0 else if sets (point_meaning p) (extremes earlier s)
    then time_difference (last_time earlier s) p.time % 4294967296 else difference earlier s)
    else difference earlier s
