-- The numbers of a table that is written are bytes.
use Rattle.std.proofs.Common.{ℕ, zero, suc, ◌+◌, ◌/◌, ◌%◌, ◌^◌, ◌<◌, List, [], ◌∷◌, ◌++◌, length, arith, lit<}
use Rattle.std.proofs.Math.Nat.{div-lt_iff_lt-mul, mod-lt, pow-succ'}
use Rattle.std.specs.Int.{bytes_low_first, byte_at}
use Rattle.byteorder.specs.Endian.{little_bytes}
use Rattle.laz_range.specs.Span.{IsBytes, Span, digits, initial_span, span}
use Rattle.laz_range.proofs.Public.{after-IsSpan, initial_span-IsSpan, last-within}
use Rattle.laz_integer.specs.Events.{cuts_of}
use Rattle.laz_table.specs.Entries.{Entry, SpellsEntries, entries_of, events_of, no_entry}
use Rattle.laz_table.specs.Laws.{AreWords}
use Rattle.laz_table.specs.Table.{stream_of, table_bytes}
use Rattle.laz_table.proofs.TableLaws.{AreEntries, cuts-lawful, entries-ranged, entries-spelled, fixed-entries}

power-some : (n : ℕ) → 0 < 256 ^ n
power-some zero = lit< tt
power-some (suc n) = omega (arith, pow-succ' 256 n, power-some n)

pub IsBytes-append : (xs ys : List ℕ) → IsBytes xs → IsBytes ys → IsBytes (xs ++ ys)
IsBytes-append [] ys h k i = k i
IsBytes-append (x ∷ xs) ys h k zero = h 0
IsBytes-append (x ∷ xs) ys h k (suc i) = IsBytes-append xs ys (λ n. h (suc n)) k i

pub IsBytes-digits : (n v : ℕ) → v < 256 ^ n → IsBytes (digits n v)
IsBytes-digits zero v h i = lit< tt
IsBytes-digits (suc n) v h zero = (div-lt_iff_lt-mul {k = 256 ^ n} {x = v} {y = 256} (power-some n)).1 (omega (arith, h, pow-succ' 256 n))
IsBytes-digits (suc n) v h (suc i) = IsBytes-digits n (v % 256 ^ n) (mod-lt v (power-some n)) i

byte_at-small : (i x : ℕ) → byte_at i x < 256
byte_at-small zero x = mod-lt x (lit< tt)
byte_at-small (suc i) x = mod-lt (x / 256 ^ suc i) (lit< tt)

IsBytes-low : (i n x : ℕ) → IsBytes (bytes_low_first i n x)
IsBytes-low i zero x k = lit< tt
IsBytes-low i (suc n) x zero = byte_at-small i x
IsBytes-low i (suc n) x (suc k) = IsBytes-low (suc i) n x k

pub IsBytes-little : (n x : ℕ) → IsBytes (little_bytes n x)
IsBytes-little n x = IsBytes-low 0 n x

pub stream-bytes : (entries : List Entry) → AreEntries entries → IsBytes (stream_of entries)
stream-bytes [] all = λ i. lit< tt
stream-bytes (e ∷ entries) all =
    let events = events_of no_entry (e ∷ entries) in
    let spells : SpellsEntries no_entry events (e ∷ entries) = entries-spelled no_entry (e ∷ entries) (lit< tt, lit< tt) all in
    let s : Span = span (cuts_of events) in
    let is = after-IsSpan initial_span (cuts_of events) initial_span-IsSpan (cuts-lawful events (entries-ranged no_entry events (e ∷ entries) spells)) in
    IsBytes-digits (s.shifts + 4) _ (omega (arith, (last-within s is).1, is.within))

-- of a table of chunks that all have one number of points
pub fixed-bytes : (counts : List ℕ) → AreWords counts → IsBytes (table_bytes [] counts)
fixed-bytes counts h =
    IsBytes-append (little_bytes 4 0 ++ little_bytes 4 (length counts)) (stream_of (entries_of [] counts))
    (IsBytes-append (little_bytes 4 0) (little_bytes 4 (length counts)) (IsBytes-little 4 0) (IsBytes-little 4 (length counts)))
    (stream-bytes (entries_of [] counts) (fixed-entries counts h))
