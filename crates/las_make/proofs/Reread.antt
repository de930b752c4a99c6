-- The plain file that is read again and packed, or not.
use Rattle.std.proofs.Common.{◌≡◌, inl, inr, ℕ, ◌+◌, Bool, true, false, cond, List, drop, Option, Some, None, is_some, Err, refl, ◌∙◌, ap, arith}
use Rattle.las_header.specs.declared.refusal.Refusal.{Refusal}
use Rattle.las_header.specs.Fields.{head_of, point_offset_of}
use Rattle.las_outside.specs.Files.{IsMissing, WhereKnown}
use Rattle.las_outside.specs.Outside.{Outside}
use Rattle.laz_table.specs.VlrCauses.{chunk_size_of}
use Rattle.laz_forms.specs.declared.fault.Fault.{Fault}
use Rattle.laz_forms.specs.declared.fault.Fault.TheVariants.{Refused, Read, Write, Memory}
use Rattle.laz_reader.specs.Asking.{AsksAtMost, asked_to_open, bytes_left}
use Rattle.laz_file.specs.Copying.{LeavesInPart, Packs, packed_output}
use Rattle.laz_file.specs.Endings.{EndsMaking, LeavesOf}
use Rattle.laz_file.proofs.Public.{left_before}
use Rattle.laz_forms.specs.Laws.{CanBePacked}
use Rattle.laz_reader.specs.Reading.{EndsReading, ReaderSeen, ReadsAll, StandsFor, chunk_of}
use Rattle.laz_forms.specs.Sizes.{points_size}
use Rattle.laz_forms.specs.Refusing.{IsRefusal}
use Rattle.laz_forms.proofs.Public.{known_both, known_then, refused_once, not_missing}
use Rattle.laz_reader.proofs.Public.{left_size}

some_none : (cause : Refusal) → ◌≡◌ {A = Option Refusal} (Some cause) None → ⊥
some_none cause e = absurd (cc)

module _ (plain packed : List ℕ) (chunk : ℕ) (old new : Outside) where
  abbrev Can : List ℕ → Type 0
  Can file = CanBePacked file chunk

  module _ (known : WhereKnown old.held plain Can) (same : new.held ≡ old.held) where
    abbrev Fails : Fault → Type 0
    Fails fault = EndsMaking {T = Unit {0}} (Packs packed chunk) plain old new (Err fault)

    left : LeavesOf (Packs packed chunk) plain old new
    left = left_before (Packs packed chunk) plain old new Can known same

    pub unread : WhereKnown old.held plain (λ file. LeavesInPart (packed_output packed file chunk) (drop (point_offset_of file) file) old.held new.held)
    unread = known_then old.held plain Can _ (λ file can. inl same) known

    never : (cause : Refusal) (Q : List ℕ → Type 0) → ((file : List ℕ) → Can file → Q file → ⊥) → WhereKnown old.held plain Q → Fails (Refused cause)
    never cause Q clash is = (known_both old.held plain Can Q _ (λ file can q. absurd (clash file can q)) known is, left)

    -- it could not be opened
    pub open_fails : (fault : Fault) → EndsReading (IsMissing old.held plain) old new fault → ((cause : Refusal) → fault ≡ Refused cause → WhereKnown old.held plain (λ file. IsRefusal file (Some cause))) → Fails fault
    open_fails (Refused cause) ends refused = never cause (λ file. IsRefusal file (Some cause)) (λ file can is. some_none cause (refused_once file (Some cause) None is can.accepted)) (refused cause refl)
    open_fails Read (inl missing) refused = absurd (not_missing old.held plain Can known missing)
    open_fails Read (inr rose) refused = (rose, left)
    open_fails Write ends refused = absurd ends
    open_fails Memory ends refused = left

    -- it was opened as a packed file
    pub packed_unknown : (reader : ReaderSeen) (cause : Refusal) → is_some reader.chunk ≡ true → WhereKnown old.held plain (StandsFor reader) → Fails (Refused cause)
    packed_unknown reader cause some stands = never cause (StandsFor reader)
        (λ file can st.
        let plain_one : chunk_of (head_of file) ≡ None = ap (λ (b : Bool). cond b (Some (chunk_size_of (head_of file))) None) can.plain in
        let clash : is_some reader.chunk ≡ false = ap is_some (st.chunk ∙ plain_one) in absurd (cc)) stands

-- ---- how much is asked for
module _ (plain : List ℕ) (chunk : ℕ) (old : Outside) (known : WhereKnown old.held plain (λ file. CanBePacked file chunk)) where
  -- the plain file is opened
  pub asks_opening : (new : Outside) → ((IsMissing old.held plain → ⊥) → WhereKnown old.held plain (λ file. AsksAtMost (asked_to_open file) old new)) → WhereKnown old.held plain (λ file. AsksAtMost (asked_to_open file + points_size file) old new)
  asks_opening new opened =
      known_then old.held plain (λ file. AsksAtMost (asked_to_open file) old new) (λ file. AsksAtMost (asked_to_open file + points_size file) old new) (λ file most. omega (arith, most))
      (opened (λ missing. not_missing old.held plain (λ file. CanBePacked file chunk) known missing))

  -- and read
  pub asks_reading : (reader : ReaderSeen) (mid new : Outside) → ReadsAll reader → WhereKnown old.held plain (StandsFor reader) → ((IsMissing old.held plain → ⊥) → WhereKnown old.held plain (λ file. AsksAtMost (asked_to_open file) old mid)) → AsksAtMost (bytes_left reader) mid new
      → WhereKnown old.held plain (λ file. AsksAtMost (asked_to_open file + points_size file) old new)
  asks_reading reader mid new all stands opened rest =
      known_both old.held plain (StandsFor reader) (λ file. AsksAtMost (asked_to_open file) old mid) (λ file. AsksAtMost (asked_to_open file + points_size file) old new)
      (λ file s most. omega (arith, most, rest, left_size reader file all s)) stands
      (opened (λ missing. not_missing old.held plain (λ file. CanBePacked file chunk) known missing))
