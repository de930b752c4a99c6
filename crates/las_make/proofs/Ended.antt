-- How making ends.
use Rattle.std.proofs.Common.{◌≡◌, ◌⊎◌, inl, inr, Bool, ℕ, ◌+◌, ◌-◌, ◌*◌, cond, max, false, List, length, drop, Option, Some, None, IsSomeAnd, is_some, Err, refl, sym, ◌∙◌, ap, subst, arith}
use Rattle.std.specs.Prelude.{IsSome}
use Rattle.std.specs.FinMap as map
use Rattle.std.specs.List.{concat}
use Rattle.las_header.specs.Fields.{head_of, point_offset_of, points_of, record_length_of}
use Rattle.las_header.specs.Heads.{IsHead}
use Rattle.las_header.specs.Plain.{plain_head}
use Rattle.las_outside.specs.Drafts.{IsPatchedInPart}
use Rattle.las_outside.specs.Faults.{Rose}
use Rattle.las_outside.specs.Files.{FileMap, IsMissing, WhereKnown, with_file}
use Rattle.las_header.specs.Limits.{IsChunkSize}
use Rattle.las_outside.specs.Outside.{Outside, with_bytes, with_read_fault}
use Rattle.las_outside.proofs.Public.{get-insert_same, is_known}
use Rattle.laz_reader.specs.Asking.{AsksAtMost, asked_to_open}
use Rattle.laz_reader.specs.Reading.{table_size}
use Rattle.laz_forms.specs.Refusing.{chunks_place, table_part, table_place}
use Rattle.laz_forms.specs.Sizes.{points_size}
use Rattle.laz_file.specs.Copying.{LeavesInPart, LeavesUnfinished, Packs, packed_output}
use Rattle.laz_file.specs.Endings.{EndsMaking, LeavesOf, MakesAs, Product}
use Rattle.laz_forms.specs.Laws.{CanBePacked}
use Rattle.laz_forms.specs.Outputs.{draft_of, finished, patches_of}
use Rattle.laz_forms.specs.Packing.{pack, packed_file}
use Rattle.laz_forms.proofs.Public.{finished_is, all_patched, not_both}
use Rattle.laz_file.proofs.Public.{packed_left, part_unfinished}
use Rattle.laz_forms.specs.declared.fault.Fault.{Fault}
use Rattle.laz_forms.specs.declared.fault.Fault.TheVariants.{Refused, Read, Write, Memory}
use Rattle.las_header.specs.declared.refusal.Refusal.{Refusal}
use Rattle.las_make.specs.declared.fault.MakeFault.TheVariants as why
use Rattle.las_make.specs.declared.settings.Settings.{Settings}
use Rattle.las_make.specs.Laws.{LeavesUnfinishedOutputs}
use Rattle.las_make.specs.Made.{IsInRange, made_file, made_records}
use Rattle.las_make.specs.Making.{FailsMaking, LeavesPacked, LeavesPackedInPart, make_fault, with_made}
use Rattle.las_make.proofs.Accepting.{made_can, made_offset, made_parts, made_plain_head, made_plain, made_records-is, made_whole}

-- ---- a file that was just written

here_known : (files : FileMap) (name text : List ℕ) (P : List ℕ → Type 0) → WhereKnown (with_file (Some files) name text) name P → P text
here_known files name text P p = subst (λ (o : Option (List ℕ)). IsSomeAnd o P) (get-insert_same files name text) p

not_missing : (held : Option FileMap) (name text : List ℕ) → IsMissing (with_file held name text) name → ⊥
not_missing None name text missing = missing
not_missing (Some files) name text missing = let got = get-insert_same files name text in absurd (cc)

stays_none : (new : Option FileMap) → is_some new ≡ false → new ≡ None
stays_none None e = refl
stays_none (Some files) e = absurd (cc)

-- ---- an output that is whole

module _ (s : Settings) (range : IsInRange s) (plain packed : List ℕ) (chunk : ℕ) where
  abbrev made : List ℕ
  made = made_file s

  abbrev form : List ℕ
  form = packed_file made chunk

  pub whole_form : finished (packed_output packed made chunk) (concat (made_records s)) ≡ form
  whole_form =
      let out = packed_output packed made chunk in
      let records = concat (made_records s) in
      let is_head : IsHead (plain_head made) = subst IsHead (sym (made_plain_head s range)) (made_parts s range).head_is in
      finished_is out records is_head ∙ ap (λ (rs : List ℕ). pack (plain_head made) rs chunk) (sym (made_records-is s range))

  pub both_packed : (old : Option FileMap) → LeavesPacked plain packed s chunk old (with_made plain packed s chunk old)
  both_packed old =
      let out = packed_output packed made chunk in
      let records = concat (made_records s) in
      inr (form, inr (subst (IsPatchedInPart (draft_of out records) (patches_of out records)) whole_form (all_patched (draft_of out records) (patches_of out records))), refl)

  pub made_known : (held : Option FileMap) → IsChunkSize chunk → WhereKnown (with_file held plain made) plain (λ file. CanBePacked file chunk)
  made_known held size = is_known held plain made (λ file. CanBePacked file chunk) (made_can s range chunk size)

  -- what stands if packing ends
  pub form_whole : (held new : Option FileMap) → is_some new ≡ is_some held → WhereKnown (with_file held plain made) plain (λ file. new ≡ with_file (with_file held plain made) packed (packed_file file chunk)) → new ≡ with_made plain packed s chunk held
  form_whole None new same whole = stays_none new same
  form_whole (Some files) new same whole = here_known files plain made (λ file. new ≡ with_file (with_file (Some files) plain made) packed (packed_file file chunk)) whole

  form_left : (held new : Option FileMap) → is_some new ≡ is_some held → WhereKnown (with_file held plain made) plain (λ file. LeavesUnfinished (packed_output packed file chunk) (drop (point_offset_of file) file) (with_file held plain made) new) → LeavesPacked plain packed s chunk held new
  form_left None new same left = inl (stays_none new same)
  form_left (Some files) new same left =
      let was = with_file (Some files) plain made in
      let P = λ (file : List ℕ). LeavesUnfinished (packed_output packed file chunk) (drop (point_offset_of file) file) was new in
      subst (λ (records : List ℕ). LeavesUnfinished (packed_output packed made chunk) records was new) (made_records-is s range) (here_known files plain made P left)

  form_part : (held new : Option FileMap) → is_some new ≡ is_some held → WhereKnown (with_file held plain made) plain (λ file. LeavesInPart (packed_output packed file chunk) (drop (point_offset_of file) file) (with_file held plain made) new) → LeavesPackedInPart plain packed s chunk held new
  form_part None new same left = inl (stays_none new same)
  form_part (Some files) new same left =
      let was = with_file (Some files) plain made in
      let P = λ (file : List ℕ). LeavesInPart (packed_output packed file chunk) (drop (point_offset_of file) file) was new in
      subst (λ (records : List ℕ). LeavesInPart (packed_output packed made chunk) records was new) (made_records-is s range) (here_known files plain made P left)

  none_before : (held : Option FileMap) → with_file held plain made ≡ None → held ≡ None
  none_before None e = refl
  none_before (Some files) e = absurd (cc)

  module _ (old new : Outside) (same : is_some new.held ≡ is_some old.held) where
    abbrev Fails : (mid : Outside) → Fault → Type 0
    Fails mid fault = EndsMaking {T = Unit {0}} (Packs packed chunk) plain mid new (Err fault)
        × (fault ≡ Read → WhereKnown mid.held plain (λ file. LeavesInPart (packed_output packed file chunk) (drop (point_offset_of file) file) mid.held new.held))

    left : LeavesOf (Packs packed chunk) plain (with_bytes old plain made) new → LeavesPacked plain packed s chunk old.held new.held
    left leaves = form_left old.held new.held same (packed_left packed chunk plain (with_bytes old plain made) new leaves)

    never : (cause : Refusal) → MakesAs (Packs packed chunk) plain (with_bytes old plain made) new (Some cause) → old.held ≡ None
    never cause makes = none_before old.held
        (not_both (with_file old.held plain made) plain _ _ (λ file h g. let clash : None ≡ Some cause = sym (ap (λ (p : Product). p.refusal) h.1.makes) ∙ h.2 in absurd (cc)) makes makes)

    pub packing_fails : (mid : Outside) (fault : Fault) → mid ≡ with_bytes old plain made → Fails mid fault → FailsMaking plain packed s chunk old new (make_fault fault)
    packing_fails mid fault is fails = by fault (subst (λ (o : Outside). Fails o fault) is fails)
      where
        by : (fault : Fault) → Fails (with_bytes old plain made) fault → FailsMaking plain packed s chunk old new (make_fault fault)
        by (Refused cause) f = let none = never cause f.0.0 in (none, stays_none new.held (same ∙ ap is_some none))
        by Read f = (f.0.0, form_part old.held new.held same (f.1 refl))
        by Write f = (f.0.0, inr (left f.0.2))
        by Memory f = inr (left f.0)

  -- the size
  pub size_is : (held pre : Option FileMap) (n : ℕ) → pre ≡ with_made plain packed s chunk held → WhereKnown pre packed (λ bytes. n ≡ length bytes) → IsSome held → n ≡ length form
  size_is None pre n is known some = absurd (cc)
  size_is (Some files) pre n is known some =
      let before = with_file (Some files) plain made in
      here_known (map.insert files plain made) packed form (λ bytes. n ≡ length bytes) (subst (λ (h : Option FileMap). WhereKnown h packed (λ bytes. n ≡ length bytes)) is known)

  pub size_fails : (old pre new : Outside) → pre.held ≡ with_made plain packed s chunk old.held → pre.read_faults ≡ old.read_faults → (IsMissing pre.held packed × (new ≡ pre)) ⊎ ((IsMissing pre.held packed → ⊥) × (new ≡ with_read_fault pre)) → FailsMaking plain packed s chunk old new why.ReadPacked
  size_fails old pre new is calm (inl gone) = absurd (not_missing (with_file old.held plain made) packed form (subst (λ (h : Option FileMap). IsMissing h packed) is gone.0))
  size_fails old pre new is calm (inr failed) =
      let rose : Rose pre.read_faults new.read_faults = subst (λ (o : Outside). Rose pre.read_faults o.read_faults) (sym failed.1) (omega arith) in
      (subst (λ (n : ℕ). Rose n new.read_faults) calm rose, ap (λ (o : Outside). o.held) failed.1 ∙ is)

pub faults_left : LeavesUnfinishedOutputs
faults_left s plain packed chunk old new why.ReadPlain range f =
    inr (part_unfinished (packed_output packed (made_file s) chunk) (concat (made_records s)) (with_file old.held plain (made_file s)) new.held f.1)
faults_left s plain packed chunk old new (why.Changed cause) range f = inl (inl (f.1 ∙ sym f.0))
faults_left s plain packed chunk old new why.ReadPacked range f = inr (subst (LeavesPacked plain packed s chunk old.held) (sym f.1) (both_packed s range plain packed chunk old.held))
faults_left s plain packed chunk old new why.Write range f = f.1
faults_left s plain packed chunk old new why.Memory range f = f

-- ---- how much is asked for

-- of the plain file, which stands as it was made: no more than its length
pub made_asked : (s : Settings) (range : IsInRange s) (plain : List ℕ) (held : Option FileMap) (old new : Outside) → WhereKnown (with_file held plain (made_file s)) plain (λ file. AsksAtMost (asked_to_open file + points_size file) old new) → IsSome held
    → AsksAtMost (length (made_file s)) old new
made_asked s range plain None old new asked some = absurd (cc)
made_asked s range plain (Some files) old new asked some =
    let made = made_file s in
    let most = here_known files plain made (λ file. AsksAtMost (asked_to_open file + points_size file) old new) asked in
    let head = head_of made in
    let opened : asked_to_open made ≡ 227 = ap (λ (b : Bool). max 227 (point_offset_of made) + cond b (16 + table_size (table_part made)) 0) (made_plain s range) ∙ ap (λ (n : ℕ). max 227 n + 0) (made_offset s range) ∙ omega arith in
    let points : points_size made ≡ record_length_of head * points_of head = ap (λ (b : Bool). cond b (table_place made - chunks_place made) (record_length_of head * points_of head)) (made_plain s range) in
    omega (arith, most, opened, points, made_whole s range)

-- and nothing of a size
pub size_asked : (pre new : Outside) (name : List ℕ) → (IsMissing pre.held name × (new ≡ pre)) ⊎ ((IsMissing pre.held name → ⊥) × (new ≡ with_read_fault pre)) → new.asked ≡ pre.asked
size_asked pre new name (inl gone) = ap (λ (o : Outside). o.asked) gone.1
size_asked pre new name (inr failed) = ap (λ (o : Outside). o.asked) failed.1
