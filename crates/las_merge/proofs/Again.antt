-- An input that is opened again for its turn.
use Rattle.std.proofs.Common.{◌≡◌, inl, inr, ℕ, ◌+◌, ◌*◌, ◌≤◌, Bool, true, false, cond, is_some, List, [], ◌∷◌, Option, Some, None, IsSomeAnd, refl, sym, ◌∙◌, ap, subst}
use Rattle.std.proofs.lemmas.Bool.{eqb-true}
use Rattle.std.specs.FinMap as finmap
use Rattle.std.specs.List.{concat}
use Rattle.las_header.specs.declared.refusal.Refusal.{Refusal}
use Rattle.las_header.specs.Fields.{points_of, record_length_of}
use Rattle.las_header.specs.Heads.{HeadView}
use Rattle.las_outside.specs.Faults.{Rose}
use Rattle.las_outside.specs.Files.{FileMap, IsMissing, WhereKnown}
use Rattle.las_outside.specs.Outside.{Outside}
use Rattle.laz_forms.specs.declared.fault.Fault.{Fault}
use Rattle.laz_forms.specs.declared.fault.Fault.TheVariants as fault
use Rattle.laz_file.specs.Copying.{CanTake, LeavesPart, Takes}
use Rattle.laz_forms.specs.FileFaults.{HasCause}
use Rattle.laz_reader.specs.Reading.{AgreesWithHead, EndsReading, IsNewReader, ReaderSeen, StandsFor}
use Rattle.laz_forms.specs.Refusing.{IsRefusal}
use Rattle.laz_writer.specs.Writing.{WriterSeen}
use Rattle.laz_forms.proofs.Public.{known_then, refused_once, not_both}
use Rattle.laz_reader.proofs.Public.{all_points}
use Rattle.laz_file.proofs.Public.{part_stands, part_then, takes_none, takes_read, takes_then}
use Rattle.las_merge.specs.declared.fault.MergeFault.{MergeFault}
use Rattle.las_merge.specs.declared.fault.MergeFault.TheVariants.{At, Unequal, TooManyPoints, TooManyChunks, Write, Memory}
use Rattle.las_merge.specs.Copying.{BeginsWith, HasRoomForInput, IsFaultOf}
use Rattle.las_merge.specs.declared.field.Field.{Field}
use Rattle.las_merge.specs.declared.field.Field.TheVariants.{Format, Length, Scales, Offsets, Bounds}
use Rattle.las_merge.specs.Fields.{first_difference, first_differing, is_same}
use Rattle.las_merge.specs.Opening.{InputSeen, IsAgain, IsItsFile, IsOpen, merge_fault}
use Rattle.las_merge.proofs.Opened.{no_difference}

-- ---- faults

pub some_none : {X : Type 0} (x : X) → Some x ≡ None → ⊥
some_none x e = absurd (cc)

-- a fault of the call that copies an input
pub fault_by : (old new : Outside) (number : ℕ) (f : Fault) → HasCause old new f → IsFaultOf old new number (merge_fault number f)
fault_by old new number (fault.Refused cause) h = absurd h
fault_by old new number fault.Read h = (refl, h)
fault_by old new number fault.Write h = h
fault_by old new number fault.Memory h = refl

-- files that are not known now were not known before
pub none_before : (new old : Option FileMap) → is_some new ≡ is_some old → new ≡ None → old ≡ None
none_before new None same none = refl
none_before None (Some files) same none = absurd (cc)
none_before (Some known) (Some files) same none = absurd (cc)

-- and those that were not known are not known now
pub none_after : (new old : Option FileMap) → is_some new ≡ is_some old → old ≡ None → new ≡ old
none_after new old same none = none_before old new (sym same) none ∙ sym none

pub never_known : (old new : Option FileMap) (known : FileMap) → old ≡ Some known → is_some new ≡ is_some old → new ≡ None → ⊥
never_known old new known holds same none = some_none known (sym holds ∙ none_before new old same none)

-- a fault since the first input
pub fault_since : (old mid new : Outside) (number : ℕ) (r : MergeFault) → is_some mid.held ≡ is_some old.held → mid.read_faults ≡ old.read_faults → mid.write_faults ≡ old.write_faults → IsFaultOf mid new number r → IsFaultOf old new number r
fault_since old mid new number (At input (fault.Refused cause)) known reads writes h = (h.0, none_before mid.held old.held known h.1)
fault_since old mid new number (At input fault.Read) known reads writes h = (h.0, subst (λ (n : ℕ). Rose n new.read_faults) reads h.1)
fault_since old mid new number (At input fault.Write) known reads writes h = absurd h
fault_since old mid new number (At input fault.Memory) known reads writes h = h
fault_since old mid new number (Unequal input field) known reads writes h = (h.0, none_before mid.held old.held known h.1)
fault_since old mid new number TooManyPoints known reads writes h = absurd h
fault_since old mid new number TooManyChunks known reads writes h = absurd h
fault_since old mid new number Write known reads writes h = subst (λ (n : ℕ). Rose n new.write_faults) writes h
fault_since old mid new number Memory known reads writes h = h

-- ---- known files are opened again as they were

module _ (held : Option FileMap) (input : InputSeen) (stands : WhereKnown held input.name (IsItsFile input)) where
  not_missing : IsMissing held input.name → ⊥
  not_missing missing = by held stands missing
    where
      by : (h : Option FileMap) → WhereKnown h input.name (IsItsFile input) → IsMissing h input.name → ⊥
      by None s m = m
      by (Some files) s m = at (finmap.get files input.name) s m
        where
          at : (o : Option (List ℕ)) → IsSomeAnd o (IsItsFile input) → o ≡ None → ⊥
          at None a b = a
          at (Some file) a b = some_none file b

  not_refused : (cause : Refusal) → WhereKnown held input.name (λ file. IsRefusal file (Some cause)) → held ≡ None
  not_refused cause k =
      not_both held input.name (IsItsFile input) (λ file. IsRefusal file (Some cause)) (λ file is refused. some_none cause (sym (refused_once file None (Some cause) is.accepted refused))) stands k

  -- the heads are the same
  same_head : (reader : ReaderSeen) (file : List ℕ) → IsItsFile input file → StandsFor reader file → input.head.bytes ≡ reader.head.bytes
  same_head reader file is there = ap (λ (h : HeadView). h.bytes) (is.head ∙ sym there.head)

  pub no_other : (reader : ReaderSeen) → (first_difference input.head.bytes reader.head.bytes ≡ None → ⊥) → WhereKnown held input.name (StandsFor reader) → held ≡ None
  no_other reader differs k =
      not_both held input.name (IsItsFile input) (StandsFor reader)
      (λ file is there. differs (ap (λ (h : List ℕ). first_difference input.head.bytes h) (sym (same_head reader file is there)) ∙ no_difference input.head.bytes)) stands k

  pub no_others : (reader : ReaderSeen) → (points_of reader.head.bytes ≡ points_of input.head.bytes → ⊥) → WhereKnown held input.name (StandsFor reader) → held ≡ None
  no_others reader other k =
      not_both held input.name (IsItsFile input) (StandsFor reader)
      (λ file is there. other (ap points_of (sym (same_head reader file is there)))) stands k

  -- how opening it again fails
  pub fails_again : (old new : Outside) → old.held ≡ held → (number : ℕ) (f : Fault) → ((cause : Refusal) → f ≡ fault.Refused cause → WhereKnown held input.name (λ file. IsRefusal file (Some cause))) → EndsReading (IsMissing held input.name) old new f → IsFaultOf old new number (merge_fault number f)
  fails_again old new same number (fault.Refused cause) refused ends = (refl, same ∙ not_refused cause (refused cause refl))
  fails_again old new same number fault.Read refused (inl missing) = absurd (not_missing missing)
  fails_again old new same number fault.Read refused (inr rose) = (refl, rose)
  fails_again old new same number fault.Write refused ends = absurd ends
  fails_again old new same number fault.Memory refused ends = refl

-- ---- an input that was opened, and opened again

pub open_by : (held : Option FileMap) (name : List ℕ) (reader : ReaderSeen) → AgreesWithHead reader → WhereKnown held name (StandsFor reader) → IsOpen held (record { name = name; head = reader.head })
open_by held name reader agrees stands =
    let input : InputSeen = record { name = name; head = reader.head } in
    record {
      one = agrees.one;
      none = agrees.none;
      stands = known_then held name (StandsFor reader) (IsItsFile input) (λ file s. record { accepted = s.accepted; head = s.head }) stands;
    }

second_same : (a b : Bool) (x : Option Field) (f g : Field) → cond a (cond b x (Some f)) (Some g) ≡ None → b ≡ true
second_same true true x f g e = refl
second_same true false x f g e = absurd (some_none f e)
second_same false b x f g e = absurd (some_none g e)

-- heads that do not differ have records of one length
pub same_length : (head other : List ℕ) → first_difference head other ≡ None → record_length_of other ≡ record_length_of head
same_length head other e =
    sym (eqb-true (record_length_of head) (record_length_of other)
    (second_same (is_same Format head other) (is_same Length head other) (first_differing (Scales ∷ Offsets ∷ Bounds ∷ []) head other) Length Format e))

pub again_by : (held : Option FileMap) (input : InputSeen) (reader : ReaderSeen) → IsNewReader input.name reader → AgreesWithHead reader → WhereKnown held input.name (StandsFor reader) → first_difference input.head.bytes reader.head.bytes ≡ None → points_of reader.head.bytes ≡ points_of input.head.bytes → IsAgain held input reader
again_by held input reader fresh agrees stands same points = record {
  fresh = fresh;
  stands = stands;
  size = same_length input.head.bytes reader.head.bytes same;
  records = all_points reader fresh.whole agrees ∙ points;
}

-- ---- what is copied after that

pub room_for : (held : Option FileMap) (input : InputSeen) (reader : ReaderSeen) (w : WriterSeen) → IsAgain held input reader → HasRoomForInput input w → CanTake reader w
room_for held input reader w again has = record {
  sound = has.sound;
  size = has.size ∙ sym again.size;
  room = subst (λ (n : ℕ). w.taken + w.size * n ≤ w.size * w.most) (sym again.records) has.room;
}

pub new_again : (name : List ℕ) (reader : ReaderSeen) → IsNewReader name reader → IsNewReader reader.name reader
new_again name reader new = record { named = refl; unread = new.unread; sound = new.sound; unprepared = new.unprepared; empty = new.empty; whole = new.whole }

-- the files and the name are the same
pub there : (P : Option FileMap → List ℕ → Type 0) (old mid : Option FileMap) (name other : List ℕ) → mid ≡ old → other ≡ name → P old name → P mid other
there P old mid name other held named p = subst (λ (n : List ℕ). P mid n) (sym named) (subst (λ (h : Option FileMap). P h name) (sym held) p)

pub back : (P : Option FileMap → List ℕ → Type 0) (old mid : Option FileMap) (name other : List ℕ) → mid ≡ old → other ≡ name → P mid other → P old name
back P old mid name other held named p = there P mid old other name (sym held) (sym named) p

pub takes_after : (old mid new : Outside) (w u : WriterSeen) (records : List ℕ) → mid.held ≡ old.held → mid.write_faults ≡ old.write_faults → Takes mid new w u records → Takes old new w u records
takes_after old mid new w u records held writes takes =
    takes_then old mid new w w u [] records (takes_read old old mid w w [] held writes (takes_none old w)) takes

pub leaves_after : (old mid new : Outside) (w : WriterSeen) (records : List ℕ) → mid.held ≡ old.held → mid.write_faults ≡ old.write_faults → LeavesPart mid new w records → LeavesPart old new w records
leaves_after old mid new w records held writes left =
    part_then old mid new w w [] records (takes_read old old mid w w [] held writes (takes_none old w)) left

-- nothing was copied
pub none_begun : (old mid : Outside) (input : InputSeen) (w : WriterSeen) → WhereKnown old.held input.name (IsItsFile input) → mid.held ≡ old.held
    → (records : List ℕ) × WhereKnown old.held input.name (λ file. BeginsWith file records) × LeavesPart old mid w records
none_begun old mid input w stands held = (
  [],
  known_then old.held input.name (IsItsFile input) (λ file. BeginsWith file []) (λ file is blocks bad are. (concat blocks, refl)) stands,
  part_stands old old mid w w [] held (takes_none old w),
)
