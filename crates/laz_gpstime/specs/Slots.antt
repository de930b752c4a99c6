-- What the code keeps of the four sequences: a slot for each, whose values each point replaces.
use Rattle.std.specs.Prelude.{◌≡◌, ℕ, ◌+◌, ◌%◌, ◌<◌, ◌==◌, if◌then◌else◌, List, [], ◌∷◌, ◌++◌, length, Option, Some}
use Rattle.std.specs.Prelude.{None, slice_index_or, slice_set}
use Rattle.laz_range.specs.Coding.{Codes, Coding}
use Rattle.laz_models.specs.Counting.{Counting, after_symbol}
use Rattle.laz_models.specs.Bank.{alphabet_sizes, model_at}
use Rattle.laz_integer.specs.Events.{Event, cuts_after}
use Rattle.laz_integer.specs.Fields.{BankStands}
use Rattle.laz_integer.specs.Integer.{IntState, IntStands, IsInts}
use Rattle.laz_gpstime.specs.Meanings.{Meaning, New, extremes_after, is_new, meaning, sets, time_kind}
use Rattle.laz_gpstime.specs.Sequences.{Point, difference, extremes, last_time, openings, sequence, time_difference}
use Rattle.laz_gpstime.specs.Times.{model_of, near_events, near_symbol, nearest, new_events, switch_events}
use Rattle.laz_gpstime.specs.declared.sequences.Slot.{Slot}
use Rattle.laz_gpstime.specs.declared.sequences.Sequences.{Sequences}
use Rattle.laz_gpstime.specs.declared.limits.TheConstants.{TOTAL}

abbrev pub no_slot : Slot
no_slot = record { time = 0; difference = 0; extremes = 0 }

-- The slots after the first time of a chunk.
abbrev pub first_slots : ℕ → List Slot
first_slots time = record { time = time; difference = 0; extremes = 0 } ∷ no_slot ∷ no_slot ∷ no_slot ∷ []

abbrev pub slot_at : Sequences → ℕ → Slot
slot_at q s = slice_index_or q.slots s no_slot

-- A slot after a point of its sequence that says m and has this time.
abbrev pub next_slot : Slot → Meaning → ℕ → Slot
next_slot slot m time =
    record {
      time = time;
      difference = if is_new m then 0 else if sets m slot.extremes
          then time_difference slot.time time % 4294967296 else slot.difference;
      extremes = extremes_after m slot.extremes;
    }

-- The slots after a switch by i, if there is one.
abbrev pub after_switch : Sequences → ℕ → Sequences
after_switch q i = if i == 0 then q else record { slots = q.slots; last = (q.last + i) % 4; next = q.next }

-- The sequence of a point that says m.
abbrev pub sequence_for : Sequences → Meaning → ℕ
sequence_for q m = if is_new m then (q.next + 1) % 4 else q.last

-- The slots after such a point.
abbrev pub after_point : Sequences → Meaning → ℕ → Sequences
after_point q m time =
    record {
      slots = slice_set q.slots (sequence_for q m) (next_slot (slot_at q (sequence_for q m)) m time);
      last = sequence_for q m;
      next = if is_new m then (q.next + 1) % 4 else q.next;
    }

-- The slots are the look-ups in a list of points.
pub record AreSlots (earlier : List Point) (q : Sequences) : Type 0 where
  pub last : q.last ≡ sequence earlier
  pub next : q.next ≡ openings earlier % 4
  pub count : length q.slots ≡ 4
  pub slot : (s : ℕ) → s < 4
      → slot_at q s ≡ record {
        time = last_time earlier s;
        difference = difference earlier s;
        extremes = extremes earlier s;
      }

-- ---- all that the code keeps

-- The slots, the two models of symbols, and the models of differences and high words.
pub record TimeState : Type 0 where
  pub sequences : Sequences
  pub symbols : List Counting
  pub integers : IntState

-- The slot of the latest point's sequence.
abbrev pub slot_of : TimeState → Slot
slot_of st = slot_at st.sequences st.sequences.last

abbrev pub difference_of : TimeState → ℕ
difference_of st = (slot_of st).difference

-- What holds of it between any two calls.
pub record IsTimeState (st : TimeState) : Type 0 where
  pub last : st.sequences.last < 4
  pub next : st.sequences.next < 4
  pub count : length st.sequences.slots ≡ 4
  pub extremes : (s : ℕ) → (slot_at st.sequences s).extremes < 4
  pub sizes : alphabet_sizes st.symbols ≡ 6 ∷ TOTAL ∷ []
  pub integers : IsInts 32 9 st.integers

-- The models stand for the events of a stream.
pub record ModelsStand (events : List Event) (st : TimeState) : Type 0 where
  pub symbols : BankStands time_kind events st.symbols
  pub integers : IntStands time_kind events st.integers

-- These events are coded, whatever stream the models stand for.
abbrev pub CodesHere : TimeState → List Event → Coding → Coding → Type 0
CodesHere st events old new =
    (earlier : List Event) → ModelsStand earlier st → Codes old new (cuts_after earlier events)

-- Models that stood for a stream stand for it with these events.
abbrev pub StandWith : (old : TimeState) → List Event → (new : TimeState) → Type 0
StandWith old events new = (earlier : List Event) → ModelsStand earlier old → ModelsStand (earlier ++ events) new

-- The models after a symbol of the sequence.
abbrev pub symbols_after : TimeState → ℕ → List Counting
symbols_after st s = slice_set st.symbols (model_of (difference_of st))
    (after_symbol (model_at st.symbols (model_of (difference_of st))) s)

-- ---- after a time that was coded

-- The last time of the sequence i on.
abbrev pub time_from : Sequences → ℕ → ℕ
time_from q i = (slot_at q ((q.last + i) % 4)).time

-- The slots after a near time in the sequence of the latest point.
abbrev pub after_near : Sequences → ℕ → Sequences
after_near q time =
    let slot = slot_at q q.last in
    after_point q (meaning (model_of slot.difference)
    (near_symbol slot.difference (time_difference slot.time time % 4294967296))) time

-- The slots after a time that is near in the sequence i on, or in none.
abbrev pub after_coded : Sequences → ℕ → Option ℕ → Sequences
after_coded q time (Some i) = after_near (after_switch q i) time
after_coded q time None = after_point q New time

-- The events of such a time.
abbrev pub state_events : TimeState → ℕ → Option ℕ → List Event
state_events st time (Some i) =
    let slot = slot_at (after_switch st.sequences i) (after_switch st.sequences i).last in
    switch_events (difference_of st) i ++ near_events slot.difference slot.time time
state_events st time None = new_events (difference_of st) (slot_of st).time time

-- The events of a time that is near in the sequence of the latest point, and of one that opens a sequence.
abbrev pub near_here : TimeState → ℕ → List Event
near_here st time = near_events (difference_of st) (slot_of st).time time

abbrev pub new_here : TimeState → ℕ → List Event
new_here st time = new_events (difference_of st) (slot_of st).time time

-- The events of a time, by the first sequence on that it is near to.
abbrev pub events_here : TimeState → ℕ → List Event
events_here st time = state_events st time (nearest (time_from st.sequences) time)
