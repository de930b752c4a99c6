-- What `laszip` makes of every file, from what a run says of every ending that is defined.
use Rattle.std.proofs.Common.{◌≡◌, ◌⊎◌, [], ◌∷◌, inl, inr, ℕ, zero, suc, Bool, true, false, List, drop, take, Option, Some, None, refl, sym, ◌∙◌, ap, subst}
use Rattle.std.specs.FinMap as finmap
use Rattle.std.specs.List.{concat}
use Rattle.las_header.specs.declared.refusal.Refusal.{Refusal}
use Rattle.las_header.specs.declared.refusal.Refusal.TheVariants.{BadChunk}
use Rattle.las_header.specs.Fields.{head_of, is_packed, point_offset_of}
use Rattle.las_outside.specs.Files.{FileMap}
use Rattle.laz_file.specs.Copying.{packed_output, plain_output}
use Rattle.laz_forms.specs.Laws.{CanBePacked}
use Rattle.laz_forms.specs.Outputs as points
use Rattle.laz_forms.specs.Packing.{pack, packed_file}
use Rattle.laz_forms.specs.Refusing.{IsAcceptedFile, IsRefusal}
use Rattle.laz_forms.proofs.Public.{plain_file, packed-is, packed_accepted, plain-is, unpacks_again}
use Rattle.laz_file.specs.Endings.{OutputFile, named, output_file, with_all, Product, writes}
use Rattle.laz_file.proofs.Public.{finished_form}
use Rattle.las_run.specs.Endings.{AreLeft, Cause, Done, Refused, Ending, IsLeft, ends_at_once, files_of}
use Rattle.las_run.specs.Tools.{Zips, ZipsIf, cause_by, ending_of}
use Rattle.las_run.specs.Headline.{CanMissOutput, CanMissRefusal, ChangesOutput, IsLaszip, IsPackedOf, Refuses, Writes, unpacked}
use Rattle.las_run.specs.Seen.{CanMiss, EndsUnlessExcused, EndsWith, Excuse, NoMemory, FailedRead, FailedWrite, FailedOut, IsDue, IsExcused, Leaves, RunSeen}
use Rattle.las_words.specs.Asked.{laszip}
use Rattle.las_run.proofs.Commands.{reads_one_for}
use Rattle.las_run.proofs.Endings.{left_of_none}
use Rattle.las_run.proofs.Opening.{ReadsOne, defined, refused_ending}

-- a run of `laszip` reads its input
reads_of : (run : RunSeen) (zip : IsLaszip run) → ReadsOne run.task zip.input (Zips zip.input zip.output zip.chunk)
reads_of run zip = reads_one_for run.task zip.input (laszip (record { output = zip.output; chunk = zip.chunk })) zip.workers zip.said

-- its ending, by what is made of its input, and that of a refused input
zips_due : (run : RunSeen) (zip : IsLaszip run) (packed : Bool) (product : Product) → IsAcceptedFile zip.file → is_packed (head_of zip.file) ≡ packed → ZipsIf packed zip.output zip.chunk zip.file product → IsDue run zip.known (ending_of zip.input product)
zips_due run zip packed product accepted is makes = record {
  known_is = zip.known_is;
  defined =
      defined run.task zip.input (Zips zip.input zip.output zip.chunk) (reads_of run zip) zip.known (Some zip.file) (ending_of zip.input product) zip.held
      (inr (accepted, (product, subst (λ (b : Bool). ZipsIf b zip.output zip.chunk zip.file product) (sym is) makes, refl)));
}

refused_due : (run : RunSeen) (zip : IsLaszip run) (cause : Refusal) → IsRefusal zip.file (Some cause) → IsDue run zip.known (ends_at_once (Refused zip.input cause))
refused_due run zip cause is = record {
  known_is = zip.known_is;
  defined = (refused_ending run.task zip.input (Zips zip.input zip.output zip.chunk) (reads_of run zip) zip.known zip.file cause zip.held is).defined;
}

-- the packed form of an accepted plain file says that it is packed
pub is_packed_form : (file : List ℕ) (chunk : ℕ) → CanBePacked file chunk → is_packed (head_of (packed_file file chunk)) ≡ true
is_packed_form file chunk can =
    subst (λ (h : List ℕ). is_packed (head_of (pack h (drop (point_offset_of file) file) chunk)) ≡ true) (plain-is file can.plain)
    (packed-is file chunk (plain_file file can.accepted can.plain can.bytes) can.size.0 can.size.1)

-- what can keep `laszip` from its ending
can_miss_output : (ending : Ending) (excuse : Excuse) → ending.text ≡ [] → CanMiss ending excuse → CanMissOutput excuse
can_miss_output ending NoMemory none can = tt
can_miss_output ending FailedRead none can = tt
can_miss_output ending FailedWrite none can = tt
can_miss_output ending FailedOut none can = can none

can_miss_refusal : (cause : Cause) (excuse : Excuse) → CanMiss (ends_at_once cause) excuse → CanMissRefusal excuse
can_miss_refusal cause NoMemory can = tt
can_miss_refusal cause FailedRead can = tt
can_miss_refusal cause FailedWrite can = can refl
can_miss_refusal cause FailedOut can = can refl

-- what is left of one output, and of none
left_of_one : (o : OutputFile) (known now : FileMap) → IsLeft (o ∷ []) known now → (now ≡ known) ⊎ ((bytes : List ℕ) × (now ≡ finmap.insert known o.name bytes))
left_of_one o known now left = go (take left.0 (o ∷ [])) left.1 (take_one left.0) left.2 left.3
  where
    take_none : (k : ℕ) → take k (let xs : List OutputFile = [] in xs) ≡ []
    take_none zero = refl
    take_none (suc k) = refl

    take_one : (k : ℕ) → (take k (o ∷ []) ≡ []) ⊎ (take k (o ∷ []) ≡ o ∷ [])
    take_one zero = inl refl
    take_one (suc k) = inr (ap (λ (os : List OutputFile). o ∷ os) (take_none k))

    one : (texts : List (List ℕ)) → AreLeft (o ∷ []) texts → now ≡ with_all known (named (o ∷ []) texts) → (now ≡ known) ⊎ ((bytes : List ℕ) × (now ≡ finmap.insert known o.name bytes))
    one [] (inl are) is = absurd are
    one [] (inr are) is = absurd are
    one (t ∷ texts) are is = inr (t, is)

    go : (os : List OutputFile) (texts : List (List ℕ)) → (os ≡ []) ⊎ (os ≡ o ∷ []) → AreLeft os texts → now ≡ with_all known (named os texts) → (now ≡ known) ⊎ ((bytes : List ℕ) × (now ≡ finmap.insert known o.name bytes))
    go os texts (inl e) are is = inl (subst (λ (xs : List OutputFile). now ≡ with_all known (named xs texts)) e is)
    go os texts (inr e) are is = one texts (subst (λ (xs : List OutputFile). AreLeft xs texts) e are) (subst (λ (xs : List OutputFile). now ≡ with_all known (named xs texts)) e is)

-- a run that ends as every ending that is due says, and leaves what it says
module _ (run : RunSeen) (complete : (known : FileMap) (ending : Ending) → IsDue run known ending → EndsUnlessExcused run known ending)
    (left : (known : FileMap) (ending : Ending) → IsDue run known ending → Leaves run known ending) where
  -- with other words for its excuses
  ends_by : (known : FileMap) (ending : Ending) (CanBe : Excuse → Type 0) (P : Type 0) → ending.text ≡ [] → ((excuse : Excuse) → CanMiss ending excuse → CanBe excuse) → P → EndsUnlessExcused run known ending
      → EndsWith run ending.cause (files_of ending known) [] ⊎ (IsExcused run CanBe × P)
  ends_by known ending CanBe P none can p (inl ends) = inl (subst (λ (t : List ℕ). EndsWith run ending.cause (files_of ending known) t) none ends)
  ends_by known ending CanBe P none can p (inr has) = inr (record { excuse = has.excuse; can_be = can has.excuse has.can_be; shown = has.shown }, p)

  -- what stands after an ending with one output, the command's
  changes : (zip : IsLaszip run) (o : OutputFile) → o.name ≡ zip.output → (l : (now : FileMap) × (run.files_now.held ≡ Some now) × IsLeft (o ∷ []) zip.known now) → ChangesOutput run zip
  changes zip o name l = by (left_of_one o zip.known l.0 l.2)
    where
      by : (l.0 ≡ zip.known) ⊎ ((bytes : List ℕ) × (l.0 ≡ finmap.insert zip.known o.name bytes)) → ChangesOutput run zip
      by (inl same) = inl (l.1 ∙ ap (λ (m : FileMap). Some m) same)
      by (inr put) = inr (put.0, l.1 ∙ ap (λ (m : FileMap). Some m) put.1 ∙ ap (λ (n : List ℕ). Some (finmap.insert zip.known n put.0)) name)

  written : (zip : IsLaszip run) (out : points.Output) (records : List ℕ) (refusal : Option Refusal) → out.name ≡ zip.output → IsDue run zip.known (ending_of zip.input (writes out records refusal))
      → EndsWith run (cause_by zip.input refusal) (files_of (ending_of zip.input (writes out records refusal)) zip.known) [] ⊎ (IsExcused run CanMissOutput × ChangesOutput run zip)
  written zip out records refusal name due =
      let ending = ending_of zip.input (writes out records refusal) in
      ends_by zip.known ending CanMissOutput (ChangesOutput run zip) refl (λ excuse can. can_miss_output ending excuse refl can) (changes zip (output_file out records) name (left zip.known ending due)) (complete zip.known ending due)

  pub packs : (zip : IsLaszip run) → CanBePacked zip.file zip.chunk → Writes run zip Done (packed_file zip.file zip.chunk)
  packs zip can =
      let out = packed_output zip.output zip.file zip.chunk in
      let records = drop (point_offset_of zip.file) zip.file in
      subst (λ (t : List ℕ). Writes run zip Done t) (finished_form zip.file zip.output zip.chunk can)
      (written zip out records None refl (zips_due run zip false (writes out records None) can.accepted can.plain refl))

  pub unpacks : (zip : IsLaszip run) (blocks : List (List ℕ)) → IsPackedOf zip.file blocks None → Writes run zip Done (unpacked zip.file blocks)
  unpacks zip blocks is =
      let out = plain_output zip.output zip.file in
      written zip out (concat blocks) None refl (zips_due run zip true (writes out (concat blocks) None) is.accepted is.packed (blocks, None, is.records, refl))

  pub gives_back : (zip : IsLaszip run) (file : List ℕ) (chunk : ℕ) → CanBePacked file chunk → zip.file ≡ packed_file file chunk → Writes run zip Done file
  gives_back zip file chunk can is =
      let whole = unpacks_again file chunk can in
      let form : IsPackedOf (packed_file file chunk) whole.0 None = record { accepted = packed_accepted file chunk can; packed = is_packed_form file chunk can; records = whole.1 } in
      subst (λ (t : List ℕ). Writes run zip Done t) (ap (λ (f : List ℕ). unpacked f whole.0) is ∙ sym whole.2)
      (unpacks zip whole.0 (subst (λ (f : List ℕ). IsPackedOf f whole.0 None) (sym is) form))

  pub refuses : (zip : IsLaszip run) (cause : Refusal) → IsRefusal zip.file (Some cause) → Refuses run zip cause
  refuses zip cause is =
      let ending = ends_at_once (Refused zip.input cause) in
      let due = refused_due run zip cause is in
      let l = left zip.known ending due in
      ends_by zip.known ending CanMissRefusal (run.files_now.held ≡ Some zip.known) refl (λ excuse can. can_miss_refusal (Refused zip.input cause) excuse can)
      (l.1 ∙ ap (λ (m : FileMap). Some m) (left_of_none [] zip.known l.0 refl l.2)) (complete zip.known ending due)

  pub refuses_chunks : (zip : IsLaszip run) (blocks : List (List ℕ)) (chunk : ℕ) → IsPackedOf zip.file blocks (Some chunk) → Writes run zip (Refused zip.input (BadChunk chunk)) (unpacked zip.file blocks)
  refuses_chunks zip blocks chunk is =
      let out = plain_output zip.output zip.file in
      written zip out (concat blocks) (Some (BadChunk chunk)) refl (zips_due run zip true (writes out (concat blocks) (Some (BadChunk chunk))) is.accepted is.packed (blocks, Some chunk, is.records, refl))
