-- The output of an encoder.
use Rattle.std.specs.Prelude.{◌≡◌, ℕ, ◌+◌, ◌-◌, ◌*◌, ◌/◌, ◌%◌, ◌^◌, ◌≤◌, List, length, take, drop, vec_capacity}
use Rattle.laz_range.specs.Span.{Span, number, IsBytes}
use Rattle.laz_range.specs.Coding.{Coding}
use Rattle.laz_range.specs.declared.output.Output.{Output}

-- The low end of an interval, which the bytes from `at` up to `next` and the lower half of `low` spell.
abbrev pub low_of : ℕ → ℕ → ℕ → List ℕ → ℕ
low_of at next low bytes = number (drop at (take next bytes)) * 2 ^ 32 + low % 2 ^ 32

-- The span of an output.
abbrev pub span_of : Output → Span
span_of o = record { low = low_of o.at o.next o.low o.bytes.items; len = o.length; shifts = o.next - o.at }

-- Between two lists the bytes before `at` are the same, and in the second one those from it up to `next + 4` spell d.
pub record Spells (at next d : ℕ) (old new : List ℕ) : Type 0 where
  pub before : take at new ≡ take at old
  pub spelled : number (drop at (take (next + 4) new)) ≡ d

-- The upper half of `low` is the number of the last four of the first `next` bytes, or of all of them.
abbrev pub IsWindow : ℕ → ℕ → List ℕ → Type 0
IsWindow low next bytes = low / 2 ^ 32 ≡ number (take next bytes) % 2 ^ 32

-- The room has four more bytes, for the lower half of `low`, whose upper half is as the bytes written are.
pub record HasRoom (o : Output) : Type 0 where
  pub from : o.at ≤ o.next
  pub room : o.next + 4 ≤ length o.bytes.items
  pub bytes : IsBytes o.bytes.items
  pub window : IsWindow o.low o.next o.bytes.items
  pub size : length o.bytes.items ≤ o.size
  pub capacity : o.size ≤ vec_capacity o.bytes

-- At most n more bytes were written, and all bytes before `at` stay.
pub record Writes (n : ℕ) (old new : Output) : Type 0 where
  pub at : new.at ≡ old.at
  pub before : take new.at new.bytes.items ≡ take old.at old.bytes.items
  pub length : length new.bytes.items ≡ length old.bytes.items
  pub size : new.size ≡ old.size
  pub from : old.next ≤ new.next
  pub upto : new.next ≤ old.next + n

-- The room was lengthened, and nothing else was changed.
pub record Widens (old new : Output) : Type 0 where
  pub at : new.at ≡ old.at
  pub before : take new.at new.bytes.items ≡ take old.at old.bytes.items
  pub span : span_of new ≡ span_of old
  pub next : new.next ≡ old.next
  pub size : new.size ≡ old.size
  pub length : length old.bytes.items ≤ length new.bytes.items

-- What contracts see of an encoder with this output.
abbrev pub coding_of : Output → Coding
coding_of o =
    record {
      before = take o.at o.bytes.items;
      span = span_of o;
      left = length o.bytes.items - o.at - 4 - (o.next - o.at);
      more = o.size - length o.bytes.items;
    }
