-- Files in memory, as a value: what stands under each name, the room that is kept for it, and the calls.
use Rattle.std.specs.Prelude.{ℕ, ◌<◌, ◌≡◌, ◌≢◌, List, [], ◌∷◌, length, Option, Some, None, unwrap_or, refl}
use Rattle.std.specs.List.{slice_index_or}
use Rattle.std.specs.Ordering.{nat_cmp}
use Rattle.std.specs.Cmp.Lexicographic.{slice_cmp}
use Rattle.std.specs.FinMap as map
use Rattle.std.specs.Coded.{Coded, code_by, coded×, coded_ℕ, coded_list, coded_option}
use Rattle.las_outside.specs.Calls.{Calls, calls_code}
use Rattle.las_outside.specs.Files.{FileMap}
use Rattle.las_outside.specs.Outside.{Outside}

-- the rooms of files: from names to numbers of bytes
abbrev pub RoomMap : Type 0
RoomMap = map.FinMap (slice_cmp nat_cmp) ℕ

-- the room of a name, if one is kept, and else 0
abbrev pub room_of : RoomMap → List ℕ → ℕ
room_of rooms name = unwrap_or (map.get rooms name) 0

-- a name, its room in bytes, and its bytes if the name is held
pub record RoomFor : Type 0 where
  pub name : List ℕ
  pub room : ℕ
  pub bytes : Option (List ℕ)

abbrev pub room_for_code : Coded RoomFor
room_for_code =
    code_by (List ℕ × (ℕ × Option (List ℕ)))
    (coded× (coded_list coded_ℕ) (coded× coded_ℕ (coded_option (coded_list coded_ℕ))))
    (λ r. (r.name, (r.room, r.bytes))) (λ p. record { name = p.0; room = p.1.0; bytes = p.1.1 }) (λ _. refl)

-- the map with this value at the name, or with none
abbrev pub with_or_without : {X : Type 0} → map.FinMap (slice_cmp nat_cmp) X → List ℕ → Option X
    → map.FinMap (slice_cmp nat_cmp) X
with_or_without values name None = map.remove values name
with_or_without values name (Some x) = map.insert values name x

-- what rooms have for their names, the first room for a name before all others
abbrev pub by_name : {X : Type 0} → (RoomFor → Option X) → List RoomFor → map.FinMap (slice_cmp nat_cmp) X
by_name value [] = map.empty
by_name value (r ∷ rs) = with_or_without (by_name value rs) r.name (value r)

-- the files in a list of rooms
abbrev pub files_in : List RoomFor → FileMap
files_in rooms = by_name (λ r. r.bytes) rooms

-- the sizes of the rooms in it
abbrev pub rooms_in : List RoomFor → RoomMap
rooms_in rooms = by_name (λ r. Some r.room) rooms

-- At this index is the first room for a name.
pub record IsFirstRoom (rooms : List RoomFor) (name : List ℕ) (i : ℕ) : Type 0 where
  pub within : i < length rooms
  pub named : (r : RoomFor) → (slice_index_or rooms i r).name ≡ name
  pub before : (k : ℕ) (r : RoomFor) → k < i → (slice_index_or rooms k r).name ≢ name

-- No room is for this name.
abbrev pub IsAbsent : List RoomFor → List ℕ → Type 0
IsAbsent rooms name = (k : ℕ) (r : RoomFor) → k < length rooms → (slice_index_or rooms k r).name ≢ name

-- files in memory: the files, the rooms that are kept for their names, and what was counted of calls
pub record Memory : Type 0 where
  pub files : FileMap
  pub rooms : RoomMap
  pub calls : Calls

abbrev pub memory_code : Coded Memory
memory_code =
    code_by (FileMap × (RoomMap × Calls))
    (coded× (map.code {R = slice_cmp nat_cmp} (coded_list coded_ℕ) (coded_list coded_ℕ))
    (coded× (map.code {R = slice_cmp nat_cmp} (coded_list coded_ℕ) coded_ℕ) calls_code))
    (λ m. (m.files, (m.rooms, m.calls))) (λ p. record { files = p.0; rooms = p.1.0; calls = p.1.1 }) (λ _. refl)

-- what is seen of files in memory: what they hold is known
abbrev pub outside_of : Memory → Outside
outside_of m = record {
  held = Some m.files;
  read_faults = m.calls.read_faults;
  write_faults = m.calls.write_faults;
  asked = m.calls.asked;
}
