-- Inputs that were opened, one after another.
use Rattle.std.proofs.Common.{◌≡◌, inl, inr, ℕ, ◌+◌, ◌<◌, ◌≤◌, Bool, true, cond, List, [], ◌∷◌, ◌++◌, length, get_or, take, Option, Some, None, refl, sym, ◌∙◌, ap, subst, length-append, arith}
use Rattle.std.specs.Prelude.{All, String, string_bytes}
use Rattle.std.specs.declared.alloc.Global.{Global}
use Rattle.std.proofs.lemmas.List.{get_or-map, length-map, take_more}
use Rattle.std.proofs.lemmas.List.Elements.{All-nil, All-push}
use Rattle.std.proofs.lemmas.Bool.Decides.{Decides-eqb}
use Rattle.std.proofs.lemmas.Slice.Eq.{bytes_eq-Decides}
use Rattle.las_header.specs.Fields.{format_of, record_length_of}
use Rattle.las_outside.specs.Faults.{Rose}
use Rattle.las_outside.specs.Files.{FileMap, IsMissing, WhereKnown}
use Rattle.las_outside.specs.Outside.{Outside}
use Rattle.laz_forms.specs.declared.fault.Fault.{Fault}
use Rattle.laz_forms.specs.declared.fault.Fault.TheVariants as fault
use Rattle.laz_forms.specs.Refusing.{IsRefusal}
use Rattle.las_merge.specs.declared.field.Field.{Field}
use Rattle.las_merge.specs.declared.field.Field.TheVariants.{Format, Length, Scales, Offsets, Bounds}
use Rattle.las_merge.specs.declared.fault.MergeFault.{MergeFault}
use Rattle.las_merge.specs.declared.fault.MergeFault.TheVariants.{At, Unequal, TooManyPoints, TooManyChunks, Write, Memory}
use Rattle.las_merge.specs.Fields.{field_bytes, first_difference, first_differing, is_same}
use Rattle.las_merge.specs.Inputs.{item_at, names_of}
use Rattle.las_merge.specs.Opening.{AreOpen, EndsOpening, FailsNext, FailsOpening, InputSeen, IsNextInput, IsOpen, first_read, input_names}

-- ---- a head does not differ from itself

same_in : (field : Field) (head : List ℕ) → is_same field head head ≡ true
same_in Format head = (Decides-eqb (format_of head) (format_of head)).1 refl
same_in Length head = (Decides-eqb (record_length_of head) (record_length_of head)).1 refl
same_in Scales head = (bytes_eq-Decides (field_bytes 131 24 head) (field_bytes 131 24 head)).1 refl
same_in Offsets head = (bytes_eq-Decides (field_bytes 155 24 head) (field_bytes 155 24 head)).1 refl
same_in Bounds head = (bytes_eq-Decides (field_bytes 179 48 head) (field_bytes 179 48 head)).1 refl

none_in : (fields : List Field) (head : List ℕ) → first_differing fields head head ≡ None
none_in [] head = refl
none_in (field ∷ fields) head = ap (λ (b : Bool). cond b (first_differing fields head head) (Some field)) (same_in field head) ∙ none_in fields head

pub no_difference : (head : List ℕ) → first_difference head head ≡ None
no_difference head = none_in (Format ∷ Length ∷ Scales ∷ Offsets ∷ Bounds ∷ []) head

-- ---- one input more

alike_more : (readers : List InputSeen) (reader : InputSeen) → All (λ r. first_difference (first_read readers) r.head.bytes ≡ None) readers → (1 ≤ length readers → first_difference (first_read readers) reader.head.bytes ≡ None)
    → All (λ r. first_difference (first_read (readers ++ reader ∷ [])) r.head.bytes ≡ None) (readers ++ reader ∷ [])
alike_more [] reader all here = All-push (λ (r : InputSeen). first_difference reader.head.bytes r.head.bytes ≡ None) [] reader (All-nil (λ (r : InputSeen). first_difference reader.head.bytes r.head.bytes ≡ None)) (no_difference reader.head.bytes)
alike_more (x ∷ xs) reader all here = All-push (λ (r : InputSeen). first_difference x.head.bytes r.head.bytes ≡ None) (x ∷ xs) reader all (here (omega arith))

names_more : (readers : List InputSeen) (reader : InputSeen) → input_names (readers ++ reader ∷ []) ≡ input_names readers ++ reader.name ∷ []
names_more [] reader = refl
names_more (x ∷ xs) reader = ap (λ (ns : List (List ℕ)). x.name ∷ ns) (names_more xs reader)

more_open : (held : Option FileMap) (names : List (List ℕ)) (readers : List InputSeen) (reader : InputSeen) → AreOpen held names readers → length readers < length names → IsNextInput held (item_at names (length readers)) readers reader → AreOpen held names (readers ++ reader ∷ [])
more_open held names readers reader all within next =
    let long : length (readers ++ reader ∷ []) ≡ length readers + 1 = omega (arith, length-append readers (reader ∷ [])) in
    record {
      within = omega (arith, long, within);
      named =
          names_more readers reader
          ∙ ap (λ (ns : List (List ℕ)). ns ++ reader.name ∷ []) all.named
          ∙ ap (λ (n : List ℕ). take (length readers) names ++ n ∷ []) next.named
          ∙ sym (take_more names (length readers) [] within)
          ∙ ap (λ (k : ℕ). take k names) (sym long);
      opened = All-push (IsOpen held) readers reader all.opened next.opened;
      alike = alike_more readers reader all.alike next.alike;
    }

-- and when its name is known, and the files are as they were
pub open_more : (held now : Option FileMap) (names : List (List ℕ)) (name : List ℕ) (readers new : List InputSeen)
    (reader : InputSeen) → AreOpen held names readers → length readers < length names
    → name ≡ item_at names (length readers) → now ≡ held → IsNextInput now name readers reader
    → new ≡ readers ++ reader ∷ [] → AreOpen held names new
open_more held now names name readers new reader all within named same next is =
    subst (λ (rs : List InputSeen). AreOpen held names rs) (sym is) (more_open held names readers reader all within
    (subst (λ (o : Option FileMap). IsNextInput o (item_at names (length readers)) readers reader) same
    (subst (λ (n : List ℕ). IsNextInput now n readers reader) named next)))

-- the input of a number, and its name
pub within_names : (names : List (String Global)) (i : ℕ) → i < length names → i < length (names_of names)
within_names names i lt = omega (arith, lt, length-map names (string_bytes {Z = Global}))

pub name_at : (names : List (String Global)) (i : ℕ) (item : String Global) (name : List ℕ) → i < length names
    → item ≡ get_or names i item → name ≡ string_bytes item → name ≡ item_at (names_of names) i
name_at names i item name lt is same = same ∙ ap string_bytes is ∙ sym (get_or-map string_bytes names i item [] lt)

-- ---- a fault

fails_since : (name : List ℕ) (start old new : Outside) → old.held ≡ start.held → old.read_faults ≡ start.read_faults → (f : Fault) → FailsOpening name old new f → FailsOpening name start new f
fails_since name start old new held reads (fault.Refused cause) h = subst (λ (o : Option FileMap). WhereKnown o name (λ file. IsRefusal file (Some cause))) held h
fails_since name start old new held reads fault.Read (inl missing) = inl (subst (λ (o : Option FileMap). IsMissing o name) held missing)
fails_since name start old new held reads fault.Read (inr rose) = inr (subst (λ (n : ℕ). Rose n new.read_faults) reads rose)
fails_since name start old new held reads fault.Write h = h
fails_since name start old new held reads fault.Memory h = h

pub next_ends : (names : List (List ℕ)) (readers : List InputSeen) (name : List ℕ) (start old new : Outside) → AreOpen start.held names readers → length readers < length names → name ≡ item_at names (length readers) → old.held ≡ start.held → old.read_faults ≡ start.read_faults → (f : MergeFault)
    → FailsNext name readers old new f → EndsOpening names start new f
next_ends names readers name start old new all within named held reads (At number cause) h =
    let at : name ≡ item_at names number = named ∙ ap (λ (k : ℕ). item_at names k) (sym h.0) in (
      readers,
      record { opened = all; number_is = sym h.0; within = omega (arith, within, h.0) },
      subst (λ (n : List ℕ). FailsOpening n start new cause) at (fails_since name start old new held reads cause h.1),
    )
next_ends names readers name start old new all within named held reads (Unequal number field) h =
    let at : name ≡ item_at names number = named ∙ ap (λ (k : ℕ). item_at names k) (sym h.0) in (
      readers,
      h.2.0,
      record { opened = all; number_is = sym h.0; within = omega (arith, within, h.0) },
      omega (arith, h.0, h.1),
      h.2.1 ∙ at,
      subst (λ (o : Option FileMap). IsOpen o h.2.0) held h.2.2,
      h.2.3,
    )
next_ends names readers name start old new all within named held reads TooManyPoints h = absurd h
next_ends names readers name start old new all within named held reads TooManyChunks h = absurd h
next_ends names readers name start old new all within named held reads Write h = absurd h
next_ends names readers name start old new all within named held reads Memory h = absurd h
