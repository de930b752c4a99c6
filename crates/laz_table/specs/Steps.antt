-- Tables entry by entry: what has been written of one, and what has been read.
use Rattle.std.specs.Prelude.{◌≤◌, length, if◌then◌else◌, ◌≡◌, ℕ, Bool, true, false, not, List, [], ◌∷◌, MatchResult}
use Rattle.std.specs.Prelude.{Result}
use Rattle.std.specs.Int.{w32, cast_unsigned}
use Rattle.laz_range.specs.Cut.{Cut}
use Rattle.laz_range.specs.Choice.{AreAsked, all_cuts}
use Rattle.laz_range.specs.Coding.{Coding, Codes}
use Rattle.laz_range.specs.Decoding.{Decoding, Takes, TakesNone}
use Rattle.laz_integer.specs.Corrector.{corrected}
use Rattle.laz_integer.specs.Events.{cuts_of}
use Rattle.laz_integer.specs.Integer.{IntStands, IntState, IsCorrector, int_cuts, int_next}
use Rattle.laz_table.specs.declared.chunks.TableFault.{TableFault}
use Rattle.laz_table.specs.declared.chunks.TableFault.TheVariants.{Table, ChunkSum, PointSum, Memory}
use Rattle.las_header.specs.Numbers.{number_at}
use Rattle.laz_table.specs.declared.chunks.Blocks.{Blocks}
use Rattle.laz_table.specs.declared.limits.TheConstants.{TABLE_START}
use Rattle.laz_table.specs.Chunks.{IsChunkCount}
use Rattle.laz_table.specs.Table.{HoldsEntries}
use Rattle.laz_table.specs.Entries.{Entry, Latest, after_entry, context_of, entries_of, events_of, no_entry, prediction}
use Rattle.laz_table.specs.Entries.{signed, table_use}

-- ---- writing
-- the latest numbers after entries
abbrev pub latest_after : Latest → List Entry → Latest
latest_after l [] = l
latest_after l (e ∷ entries) = latest_after (after_entry l e) entries

-- an encoder has written the entries since it was at `start`, under these models, and these are their latest numbers
pub record Written (start now : Coding) (models : IntState) (latest : Latest) (entries : List Entry) : Type 0 where
  pub codes : Codes start now (cuts_of (events_of no_entry entries))
  pub stands : IntStands table_use (events_of no_entry entries) models
  pub numbers : latest ≡ latest_after no_entry entries

-- ---- reading
-- the models of a table, the latest numbers, whether chunks have a number of points of their own, and whether the next
-- entry is one
pub record TableState : Type 0 where
  pub models : IntState
  pub latest : Latest
  pub counted : Bool
  pub counts_points : Bool

-- the state before a table
abbrev pub table_start : IntState → (counted : Bool) → TableState
table_start models counted = record { models = models; latest = no_entry; counted = counted; counts_points = counted }

-- the number that a corrector makes of the one before it
abbrev pub number_made : (before : ℕ) → ℕ × ℕ → ℕ
number_made before x = cast_unsigned w32 (corrected 32 (signed before) x.0 x.1)

-- the entry that a corrector makes
abbrev pub entry_made : TableState → ℕ × ℕ → Entry
entry_made st x = record {
  counts_points = st.counts_points;
  number = number_made (prediction st.counts_points st.latest) x;
}

-- whether a number of points follows an entry
abbrev pub next_counts_points : (counted counts_points : Bool) → Bool
next_counts_points true b = not b
next_counts_points false b = b

abbrev pub entry_next : TableState → ℕ × ℕ → TableState
entry_next st x =
    record {
      models = int_next st.models (context_of st.counts_points) x.0 x.1;
      latest = after_entry st.latest (entry_made st x);
      counted = st.counted;
      counts_points = next_counts_points st.counted st.counts_points;
    }

abbrev pub IsEntry : TableState → ℕ × ℕ → Type 0
IsEntry st x = IsCorrector 32 x

abbrev pub entry_cuts : TableState → ℕ × ℕ → List Cut
entry_cuts st x = int_cuts st.models (context_of st.counts_points) x.0 x.1

-- the entries that correctors make
abbrev pub entries_made : TableState → List (ℕ × ℕ) → List Entry
entries_made st [] = []
entries_made st (x ∷ xs) = entry_made st x ∷ entries_made (entry_next st x) xs

-- a decoder has read a number
pub record ReadsNumber (counts_points : Bool) (before number : ℕ) (models next : IntState)
    (old new : Decoding) : Type 0 where
  pub corrector : ℕ × ℕ
  pub takes : Takes (IsCorrector 32) (λ y. int_cuts models (context_of counts_points) y.0 y.1) old new corrector
  pub makes : number ≡ number_made before corrector
  pub counts : next ≡ int_next models (context_of counts_points) corrector.0 corrector.1

-- a decoder has read n entries
pub record ReadsEntries (st : TableState) (n : ℕ) (old new : Decoding) (entries : List Entry) : Type 0 where
  pub correctors : List (ℕ × ℕ)
  pub takes : Takes (AreAsked entry_next IsEntry st n) (all_cuts entry_next entry_cuts st) old new correctors
  pub makes : entries_made st correctors ≡ entries

-- no n entries begin what a decoder had left
abbrev pub NoEntries : TableState → ℕ → Decoding → Decoding → Type 0
NoEntries st n old new = TakesNone (AreAsked entry_next IsEntry st n) (all_cuts entry_next entry_cuts st) old new

-- the fault is Table, and then this holds, or memory ran out
abbrev pub IsFault : TableFault → Type 0 → Type 0
IsFault Table P = P
IsFault ChunkSum P = ⊥
IsFault PointSum P = ⊥
IsFault Memory P = Unit {0}

-- no number of its kind begins what a decoder had left
abbrev pub NoNumber : (counts_points : Bool) → IntState → Decoding → Decoding → Type 0
NoNumber counts_points models old new =
    TakesNone (IsCorrector 32) (λ y. int_cuts models (context_of counts_points) y.0 y.1) old new

-- a list of n entries is read, or none begins what a decoder had left, or memory ran out
abbrev pub ReadsList : {X : Type 0} → Result X TableFault → (entries : X → List Entry) → TableState → (n : ℕ)
    → Decoding → Decoding → Type 0
ReadsList result entries st n old new =
    MatchResult result (λ list. ReadsEntries st n old new (entries list))
    (λ fault. IsFault fault (NoEntries st n old new))

-- ---- whole tables
-- lists of n chunks of this kind
pub record AreLists (counted : Bool) (n : ℕ) (sizes counts : List ℕ) : Type 0 where
  pub point_counts : length sizes ≡ (if counted then n else 0)
  pub byte_counts : length counts ≡ n

-- bytes hold these lists of n chunks, and no others
pub record OneTable (bytes : List ℕ) (n : ℕ) (counted : Bool) (sizes counts : List ℕ) : Type 0 where
  pub lists : AreLists counted n sizes counts
  pub holds : HoldsEntries bytes (entries_of sizes counts)
  pub only : (others more : List ℕ) → AreLists counted n others more → HoldsEntries bytes (entries_of others more)
      → (others ≡ sizes) × (more ≡ counts)

-- bytes hold no lists of n chunks
abbrev pub NoTable : List ℕ → ℕ → (counted : Bool) → Type 0
NoTable bytes n counted = (sizes counts : List ℕ) → AreLists counted n sizes counts
    → HoldsEntries bytes (entries_of sizes counts) → ⊥

-- the start of a table of chunks that there may be
pub record IsTableStart (bytes : List ℕ) (blocks : Blocks) (n : ℕ) : Type 0 where
  pub long : TABLE_START ≤ length bytes
  pub version : number_at 4 0 bytes ≡ 0
  pub number : number_at 4 4 bytes ≡ n
  pub count : IsChunkCount blocks n
