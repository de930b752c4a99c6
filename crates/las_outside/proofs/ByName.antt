-- What a list of rooms has for a name, after a room was found, changed or added.
use Rattle.std.proofs.Common.{◌≡◌, ◌≢◌, ◌⊎◌, inl, inr, ℕ, zero, suc, Bool, true, false, cond, List, [], ◌∷◌, ◌++◌, get_or, set, Option, Some, None, refl, sym, ◌∙◌, ap, arith}
use Rattle.std.specs.Ordering.{nat_cmp, eq_by_cmp}
use Rattle.std.specs.Cmp.Lexicographic.{slice_cmp, nat_list_cmp_total}
use Rattle.std.specs.FinMap as map
use Rattle.std.proofs.lemmas.Map.Text.{is_eq-slice_cmp}
use Rattle.std.proofs.lemmas.Slice.Eq.{bytes_eq-Decides}
use Rattle.std.proofs.lemmas.Bool.{cases_Bool}
use Rattle.las_outside.specs.Files.{FileMap}
use Rattle.las_outside.specs.MemFiles.{RoomFor, RoomMap, with_or_without, by_name, files_in, rooms_in, IsFirstRoom, IsAbsent}

abbrev Named : Type 0 → Type 0
Named X = map.FinMap (slice_cmp nat_cmp) X

abbrev pub same : List ℕ → List ℕ → Bool
same q k = eq_by_cmp (slice_cmp nat_cmp) q k

-- the order of names tells them apart
pub same_or_not : (q k : List ℕ) → ((same q k ≡ true) × (q ≡ k)) ⊎ ((same q k ≡ false) × (q ≢ k))
same_or_not q k = elim (cases_Bool (same q k)) [
  | inl equal ↦ inl (equal, (bytes_eq-Decides q k).0 (sym (is_eq-slice_cmp q k) ∙ equal))
  | inr other ↦ inr (other, λ e. let t : true ≡ false = sym (is_eq-slice_cmp q k ∙ (bytes_eq-Decides q k).1 e) ∙ other in cc)
]

pub same_itself : (q k : List ℕ) → q ≡ k → same q k ≡ true
same_itself q k e = is_eq-slice_cmp q k ∙ (bytes_eq-Decides q k).1 e

pub same_other : (q k : List ℕ) → q ≢ k → same q k ≡ false
same_other q k ne = elim (same_or_not q k) [ inl equal ↦ absurd (ne equal.1) | inr other ↦ other.0 ]

pub get-with_value : {X : Type 0} (m : Named X) (k : List ℕ) (o : Option X) (q : List ℕ) → map.get (with_or_without m k o) q ≡ cond (same q k) o (map.get m q)
get-with_value m k None q = map.get-remove nat_list_cmp_total m k q
get-with_value m k (Some x) q = map.get-insert nat_list_cmp_total m k x q

-- what was just put in
pub get-insert_same : {X : Type 0} (m : Named X) (k : List ℕ) (x : X) → map.get (map.insert m k x) k ≡ Some x
get-insert_same m k x = map.get-insert nat_list_cmp_total m k x k ∙ ap (λ (b : Bool). cond b (Some x) (map.get m k)) (same_itself k k refl)

-- maps with the same value at each name are one map
pub same_named : {X : Type 0} (m n : Named X) → ((q : List ℕ) → map.get m q ≡ map.get n q) → m ≡ n
same_named m n is = map.same_map nat_list_cmp_total (map.slice_cmp-IsAntisymmetric map.nat_cmp-IsAntisymmetric) m n is

-- a value set twice, and two names set in either order
over : {X : Type 0} (b : Bool) (x y z : Option X) → cond b x z ≡ cond b x (cond b y z)
over true x y z = refl
over false x y z = refl

either_order : {X : Type 0} (q j k : List ℕ) (x y z : Option X) → j ≢ k → cond (same q j) x (cond (same q k) y z) ≡ cond (same q k) y (cond (same q j) x z)
either_order q j k x y z ne = elim (same_or_not q j) [
  | inl at_j ↦
      let other : same q k ≡ false = same_other q k (λ e. ne (sym at_j.1 ∙ e)) in
      rw (at_j.0, other) refl
  | inr not_j ↦ rw not_j.0 refl
]

module _ {X : Type 0} (value : RoomFor → Option X) where
  tail_first : (r : RoomFor) (rs : List RoomFor) (name : List ℕ) (i : ℕ) → IsFirstRoom (r ∷ rs) name (suc i) → IsFirstRoom rs name i
  tail_first r rs name i f = record {
    within = omega (arith, f.within);
    named = f.named;
    before = λ k d lt. f.before (suc k) d (omega (arith, lt));
  }

  head_other : (r : RoomFor) (rs : List RoomFor) (name : List ℕ) (i : ℕ) → IsFirstRoom (r ∷ rs) name (suc i) → r.name ≢ name
  head_other r rs name i f = f.before zero r (omega arith)

  -- the first room for a name is what is found
  pub get-first : (rs : List RoomFor) (name : List ℕ) (i : ℕ) (d : RoomFor) → IsFirstRoom rs name i → map.get (by_name value rs) name ≡ value (get_or rs i d)
  get-first [] name i d f = absurd (omega (arith, f.within))
  get-first (r ∷ rs) name zero d f =
      get-with_value (by_name value rs) r.name (value r) name ∙ ap (λ (b : Bool). cond b (value r) (map.get (by_name value rs) name)) (same_itself name r.name (sym (f.named r)))
  get-first (r ∷ rs) name (suc i) d f =
      get-with_value (by_name value rs) r.name (value r) name
      ∙ ap (λ (b : Bool). cond b (value r) (map.get (by_name value rs) name)) (same_other name r.name (λ e. head_other r rs name i f (sym e)))
      ∙ get-first rs name i d (tail_first r rs name i f)

  pub get-absent : (rs : List RoomFor) (name : List ℕ) → IsAbsent rs name → map.get (by_name value rs) name ≡ None
  get-absent [] name none = map.get-empty (slice_cmp nat_cmp) name
  get-absent (r ∷ rs) name none =
      get-with_value (by_name value rs) r.name (value r) name
      ∙ ap (λ (b : Bool). cond b (value r) (map.get (by_name value rs) name)) (same_other name r.name (λ e. none zero r (omega arith) (sym e)))
      ∙ get-absent rs name (λ k d lt. none (suc k) d (omega (arith, lt)))

  found_after_set : (rs : List RoomFor) (name : List ℕ) (i : ℕ) (n : RoomFor) → IsFirstRoom rs name i → n.name ≡ name → (q : List ℕ) → map.get (by_name value (set rs i n)) q ≡ cond (same q name) (value n) (map.get (by_name value rs) q)
  found_after_set [] name i n f is q = absurd (omega (arith, f.within))
  found_after_set (r ∷ rs) name zero n f is q =
      let rest = map.get (by_name value rs) q in
      get-with_value (by_name value rs) n.name (value n) q
      ∙ ap (λ (k : List ℕ). cond (same q k) (value n) rest) is
      ∙ over (same q name) (value n) (value r) rest
      ∙ ap (λ (k : List ℕ). cond (same q name) (value n) (cond (same q k) (value r) rest)) (sym (f.named r))
      ∙ ap (λ (o : Option X). cond (same q name) (value n) o) (sym (get-with_value (by_name value rs) r.name (value r) q))
  found_after_set (r ∷ rs) name (suc i) n f is q =
      let rest = map.get (by_name value rs) q in
      get-with_value (by_name value (set rs i n)) r.name (value r) q
      ∙ ap (λ (o : Option X). cond (same q r.name) (value r) o) (found_after_set rs name i n (tail_first r rs name i f) is q)
      ∙ either_order q r.name name (value r) (value n) rest (head_other r rs name i f)
      ∙ ap (λ (o : Option X). cond (same q name) (value n) o) (sym (get-with_value (by_name value rs) r.name (value r) q))

  -- a change of the first room for a name
  pub by_name-set : (rs : List RoomFor) (name : List ℕ) (i : ℕ) (n : RoomFor) → IsFirstRoom rs name i → n.name ≡ name → by_name value (set rs i n) ≡ with_or_without (by_name value rs) name (value n)
  by_name-set rs name i n f is = same_named _ _ (λ q. found_after_set rs name i n f is q ∙ sym (get-with_value (by_name value rs) name (value n) q))

  found_after_push : (rs : List RoomFor) (name : List ℕ) (n : RoomFor) → IsAbsent rs name → n.name ≡ name → (q : List ℕ) → map.get (by_name value (rs ++ n ∷ [])) q ≡ cond (same q name) (value n) (map.get (by_name value rs) q)
  found_after_push [] name n none is q = get-with_value map.empty n.name (value n) q ∙ ap (λ (k : List ℕ). cond (same q k) (value n) (map.get (by_name value []) q)) is
  found_after_push (r ∷ rs) name n none is q =
      let rest = map.get (by_name value rs) q in
      get-with_value (by_name value (rs ++ n ∷ [])) r.name (value r) q
      ∙ ap (λ (o : Option X). cond (same q r.name) (value r) o) (found_after_push rs name n (λ k d lt. none (suc k) d (omega (arith, lt))) is q)
      ∙ either_order q r.name name (value r) (value n) rest (none zero r (omega arith))
      ∙ ap (λ (o : Option X). cond (same q name) (value n) o) (sym (get-with_value (by_name value rs) r.name (value r) q))

  -- a room for a name that had none
  pub by_name-push : (rs : List RoomFor) (name : List ℕ) (n : RoomFor) → IsAbsent rs name → n.name ≡ name → by_name value (rs ++ n ∷ []) ≡ with_or_without (by_name value rs) name (value n)
  by_name-push rs name n none is = same_named _ _ (λ q. found_after_push rs name n none is q ∙ sym (get-with_value (by_name value rs) name (value n) q))

-- the value that is there already
pub with_value_same : {X : Type 0} (m : Named X) (name : List ℕ) (o : Option X) → map.get m name ≡ o → with_or_without m name o ≡ m
with_value_same m name o is = same_named _ _ (λ q. get-with_value m name o q ∙ back q)
  where
    back : (q : List ℕ) → cond (same q name) o (map.get m q) ≡ map.get m q
    back q = elim (same_or_not q name) [
      | inl equal ↦ rw equal.0 (sym is ∙ ap (map.get m) (sym equal.1))
      | inr other ↦ rw other.0 refl
    ]

module _ {X : Type 0} (value : RoomFor → Option X) where
  -- the same of the room that was read there
  pub found : (rs : List RoomFor) (name : List ℕ) (i : ℕ) (old : RoomFor) → IsFirstRoom rs name i → old ≡ get_or rs i old → map.get (by_name value rs) name ≡ value old
  found rs name i old first is = get-first value rs name i old first ∙ ap value (sym is)

  pub changed : (rs : List RoomFor) (name : List ℕ) (i : ℕ) (old new : RoomFor) → IsFirstRoom rs name i → old ≡ get_or rs i old → new.name ≡ old.name → by_name value (set rs i new) ≡ with_or_without (by_name value rs) name (value new)
  changed rs name i old new first is names = by_name-set value rs name i new first (names ∙ ap (λ (r : RoomFor). r.name) is ∙ first.named old)

  pub kept : (rs : List RoomFor) (name : List ℕ) (i : ℕ) (old new : RoomFor) → IsFirstRoom rs name i → old ≡ get_or rs i old → new.name ≡ old.name → value new ≡ value old → by_name value (set rs i new) ≡ by_name value rs
  kept rs name i old new first is names stays =
      changed rs name i old new first is names ∙ with_value_same (by_name value rs) name (value new) (found rs name i old first is ∙ sym stays)

-- The same of the files and of the rooms.
module _ (rs : List RoomFor) (name : List ℕ) (i : ℕ) (old : RoomFor) (first : IsFirstRoom rs name i) (is : old ≡ get_or rs i old) where
  pub found_bytes : (files : FileMap) → files_in rs ≡ files → map.get files name ≡ old.bytes
  found_bytes files same_files = ap (λ (m : FileMap). map.get m name) (sym same_files) ∙ found (λ r. r.bytes) rs name i old first is

  pub found_room : (rooms : RoomMap) → rooms_in rs ≡ rooms → map.get rooms name ≡ Some old.room
  found_room rooms same_rooms = ap (λ (m : RoomMap). map.get m name) (sym same_rooms) ∙ found (λ r. Some r.room) rs name i old first is

  pub files_changed : (files : FileMap) (new : RoomFor) (bytes : List ℕ) → files_in rs ≡ files → new.name ≡ old.name → new.bytes ≡ Some bytes → files_in (set rs i new) ≡ map.insert files name bytes
  files_changed files new bytes same_files names holds =
      changed (λ r. r.bytes) rs name i old new first is names ∙ ap (with_or_without (files_in rs) name) holds ∙ ap (λ (m : FileMap). map.insert m name bytes) same_files

  pub files_kept : (files : FileMap) (new : RoomFor) → files_in rs ≡ files → new.name ≡ old.name → new.bytes ≡ old.bytes → files_in (set rs i new) ≡ files
  files_kept files new same_files names stays = kept (λ r. r.bytes) rs name i old new first is names stays ∙ same_files

  pub rooms_changed : (rooms : RoomMap) (new : RoomFor) (room : ℕ) → rooms_in rs ≡ rooms → new.name ≡ old.name → new.room ≡ room → rooms_in (set rs i new) ≡ map.insert rooms name room
  rooms_changed rooms new room same_rooms names wide =
      changed (λ r. Some r.room) rs name i old new first is names ∙ ap (λ (m : RoomMap). map.insert m name new.room) same_rooms ∙ ap (map.insert rooms name) wide

  pub rooms_kept : (rooms : RoomMap) (new : RoomFor) → rooms_in rs ≡ rooms → new.name ≡ old.name → new.room ≡ old.room → rooms_in (set rs i new) ≡ rooms
  rooms_kept rooms new same_rooms names stays = kept (λ r. Some r.room) rs name i old new first is names (ap (λ (n : ℕ). Some n) stays) ∙ same_rooms

module _ (rs : List RoomFor) (name : List ℕ) (none : IsAbsent rs name) where
  pub absent_bytes : (files : FileMap) → files_in rs ≡ files → map.get files name ≡ None
  absent_bytes files same_files = ap (λ (m : FileMap). map.get m name) (sym same_files) ∙ get-absent (λ r. r.bytes) rs name none

  pub absent_room : (rooms : RoomMap) → rooms_in rs ≡ rooms → map.get rooms name ≡ None
  absent_room rooms same_rooms = ap (λ (m : RoomMap). map.get m name) (sym same_rooms) ∙ get-absent (λ r. Some r.room) rs name none

  pub files_after_push : (files : FileMap) (new : RoomFor) (rs' : List RoomFor) → files_in rs ≡ files → rs' ≡ rs ++ new ∷ [] → new.name ≡ name → new.bytes ≡ None → files_in rs' ≡ files
  files_after_push files new rs' same_files pushed named empty =
      ap files_in pushed ∙ by_name-push (λ r. r.bytes) rs name new none named ∙ ap (with_or_without (files_in rs) name) empty ∙ with_value_same (files_in rs) name None (get-absent (λ r. r.bytes) rs name none) ∙ same_files

  pub rooms_after_push : (rooms : RoomMap) (new : RoomFor) (rs' : List RoomFor) (room : ℕ) → rooms_in rs ≡ rooms → rs' ≡ rs ++ new ∷ [] → new.name ≡ name → new.room ≡ room → rooms_in rs' ≡ map.insert rooms name room
  rooms_after_push rooms new rs' room same_rooms pushed named wide =
      ap rooms_in pushed ∙ by_name-push (λ r. Some r.room) rs name new none named ∙ ap (λ (m : RoomMap). map.insert m name new.room) same_rooms ∙ ap (map.insert rooms name) wide
