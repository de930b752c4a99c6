-- How a call ends that makes files of a file.
use Rattle.std.proofs.Common.{◌≡◌, ◌≢◌, ◌⊎◌, inl, inr, ℕ, zero, suc, ◌≤◌, true, false, List, [], ◌∷◌, length, map, take, drop, Option, Some, None, is_none, Result, Ok, Err, IfErr, OnOk, refl, sym, ◌∙◌, ap, subst, arith}
use Rattle.std.specs.Prelude.{IsErrAnd}
use Rattle.std.specs.FinMap as finmap
use Rattle.std.specs.List.{concat}
use Rattle.std.specs.Option.{option_map}
use Rattle.std.proofs.lemmas.List.{take_all}
use Rattle.las_header.specs.declared.refusal.Refusal.{Refusal}
use Rattle.las_header.specs.declared.refusal.Refusal.TheVariants.{BadChunk}
use Rattle.las_header.specs.Fields.{is_packed, point_offset_of}
use Rattle.las_header.specs.Heads.{IsHead}
use Rattle.las_header.specs.Plain.{plain_of}
use Rattle.las_outside.specs.Drafts.{IsPatchedInPart, IsUnfinished, with_patches}
use Rattle.las_outside.specs.Faults.{Rose}
use Rattle.las_outside.specs.Files.{FileMap, WhereKnown, with_file}
use Rattle.las_outside.specs.Frames.{IsCalm}
use Rattle.las_outside.specs.Outside.{Outside, with_bytes}
use Rattle.laz_forms.specs.declared.fault.Fault.{Fault}
use Rattle.laz_forms.specs.declared.fault.Fault.TheVariants.{Refused, Read, Write, Memory}
use Rattle.laz_forms.specs.Laws.{CanBePacked}
use Rattle.laz_forms.specs.Outputs.{Output, finished, front, stopped}
use Rattle.laz_forms.specs.Packing.{packed_file}
use Rattle.laz_forms.specs.Pieces.{piece_bytes}
use Rattle.laz_forms.specs.Records.{AreRecordsOf}
use Rattle.laz_forms.proofs.Public.{all_patched, finished_is, hold-plain, known_both, known_then, plain-is, plain_file}
use Rattle.laz_reader.specs.Reading.{ReaderSeen, ReadsAll, StandsFor}
use Rattle.laz_writer.specs.Writing.{Stands, Stops, WriterSeen}
use Rattle.laz_file.specs.Copying.{AreOnlyRecords, EndsCopying, Finishes, LeavesRecords, LeavesUnfinished, Packs, Refuses, Unpacks, packed_output, plain_output}
use Rattle.laz_file.specs.Endings.{AreBegun, AreEnding, EndsMaking, IsOnlyProduct, LeavesFiles, LeavesOf, MakesAs, MakesOutput, OutputFile, Product, at_end, files_after, named, output_file, with_all, writes}
use Rattle.laz_file.proofs.WholeOutputs.{create_left, ends_left, finishes, is_plain, leaves, packed_out, plain_out, records_joined, refuses}

-- ---- what is left of files

-- nothing was created
pub nothing_left : (files : List OutputFile) (old : FileMap) → LeavesFiles files old old
nothing_left files old = (0, [], inl tt, refl)

pub done_texts : List OutputFile → List (List ℕ)
done_texts files = map (λ o. with_patches o.draft o.patches) files

pub all_done : (files : List OutputFile) → AreEnding files (done_texts files)
unfolding done_texts
all_done [] = tt
all_done (o ∷ os) = inl (refl, all_done os)

pub named_done : (files : List OutputFile) → map (at_end true) files ≡ named files (done_texts files)
unfolding done_texts
named_done [] = refl
named_done (o ∷ os) = ap (λ (t : List (List ℕ × List ℕ)). at_end true o ∷ t) (named_done os)

-- what stands if all is done is left
left_if_done : (product : Product) (old : FileMap) → product.refusal ≡ None → LeavesFiles product.files old (files_after product old)
left_if_done product old is =
    let all : take (length product.files) product.files ≡ product.files = take_all (length product.files) product.files (omega arith) in (
      length product.files,
      done_texts product.files,
      inr (omega arith, subst (λ (os : List OutputFile). AreEnding os (done_texts product.files)) (sym all) (all_done product.files)),
      ap (λ (r : Option Refusal). with_all old (map (at_end (is_none r)) product.files)) is
          ∙ ap (with_all old) (named_done product.files)
          ∙ ap (λ (os : List OutputFile). with_all old (named os (done_texts product.files))) (sym all),
    )

-- an output that was left unfinished
pub left_one : (out : Output) (records : List ℕ) (held now : Option FileMap) (files : FileMap) → LeavesUnfinished out records held now → held ≡ Some files → (after : FileMap) × (now ≡ Some after) × LeavesFiles (output_file out records ∷ []) files after
left_one out records held now files (inl same) known = (files, same ∙ known, nothing_left (output_file out records ∷ []) files)
left_one out records held now files (inr left) known =
    (finmap.insert files out.name left.0, left.2 ∙ ap (λ (h : Option FileMap). with_file h out.name left.0) known, (1, left.0 ∷ [], inr (omega arith, inr (left.1, tt)), refl))

pub some_files : (files : List OutputFile) (o : OutputFile) (rest : List OutputFile) → files ≡ o ∷ rest → files ≢ []
some_files files o rest is empty = absurd (cc)

-- ---- what a call says of its outcome
module _ (Makes : List ℕ → Product → Type 0) (name : List ℕ) (old new : Outside) where
  -- a fault, as the outcome
  pub ends_err : (T : Type 0) (outcome : Result T Fault) (fault : Fault) → IsErrAnd outcome (λ e. e ≡ fault) → EndsMaking {T = T} Makes name old new (Err fault) → EndsMaking Makes name old new outcome
  ends_err T (Ok x) fault is ends = absurd is
  ends_err T (Err e) fault is ends = subst (λ (f : Fault). EndsMaking {T = T} Makes name old new (Err f)) (sym is) ends

  -- if all is done, the files of every product stand
  pub left_done : MakesAs Makes name old new None → LeavesOf Makes name old new
  left_done made = known_then old.held name _ _
      (λ file h files product known makes.
      let is = h.1.only product makes in
      (files_after h.0 files, h.3 files known, subst (λ (p : Product). LeavesFiles p.files files (files_after h.0 files)) (sym is) (left_if_done h.0 files h.2))) made

  -- no file has changed
  pub left_before : (P : List ℕ → Type 0) → WhereKnown old.held name P → new.held ≡ old.held → LeavesOf Makes name old new
  left_before P stands same = known_then old.held name P _ (λ file p files product known makes. (files, same ∙ known, nothing_left product.files files)) stands

-- one product is made for another: what is said of the one holds of the other
module _ (P Q : List ℕ → Product → Type 0) (name : List ℕ) (old new : Outside) (same : WhereKnown old.held name (λ file. (product : Product) → (P file product → Q file product) × (Q file product → P file product))) where
  makes_same : (refusal : Option Refusal) → MakesAs P name old new refusal → MakesAs Q name old new refusal
  makes_same refusal made = known_both old.held name _ _ _
      (λ file to h. (h.0, record { makes = (to h.0).0 h.1.makes; only = λ other makes. h.1.only other ((to other).1 makes) }, h.2, h.3)) same made

  leaves_same : LeavesOf P name old new → LeavesOf Q name old new
  leaves_same left = known_both old.held name _ _ _ (λ file to h files product known makes. h files product known ((to product).1 makes)) same left

  output_same : MakesOutput P name old → MakesOutput Q name old
  output_same some = known_both old.held name _ _ _ (λ file to h product makes. h product ((to product).1 makes)) same some

  pub ends_same : {T : Type 0} (outcome : Result T Fault) → EndsMaking P name old new outcome → EndsMaking Q name old new outcome
  ends_same (Ok x) ends = (makes_same None ends.0, leaves_same ends.1, ends.2)
  ends_same (Err (Refused cause)) ends = (makes_same (Some cause) ends.0, leaves_same ends.1)
  ends_same (Err Read) ends = (ends.0, leaves_same ends.1)
  ends_same (Err Write) ends = (ends.0, output_same ends.1, leaves_same ends.2)
  ends_same (Err Memory) ends = leaves_same ends

-- ---- records that are copied into an output
abbrev pub copied : Output → (blocks : List (List ℕ)) → Option ℕ → Product
copied out blocks bad = writes out (concat blocks) (option_map BadChunk bad)

-- Of the file of a reader a call makes one output, of the records up to the first bad chunk.
pub record CopiesInto (Makes : List ℕ → Product → Type 0) (first : ReaderSeen) (out : Output) : Type 0 where
  pub gives : (file : List ℕ) → StandsFor first file → (blocks : List (List ℕ)) (bad : Option ℕ) → AreOnlyRecords file blocks bad → IsOnlyProduct (Makes file) (copied out blocks bad)
  pub given : (file : List ℕ) → StandsFor first file → (product : Product) → Makes file product → (blocks : List (List ℕ)) × (bad : Option ℕ) × AreRecordsOf file blocks bad × (product ≡ copied out blocks bad)

-- What a call makes of the file of a reader is this output, of some records.
abbrev pub WritesTo : (Makes : List ℕ → Product → Type 0) → ReaderSeen → Output → Type 0
WritesTo Makes first out = (file : List ℕ) → StandsFor first file → (product : Product) → Makes file product → (records : List ℕ) × (refusal : Option Refusal) × (product ≡ writes out records refusal)

module _ (Makes : List ℕ → Product → Type 0) (first : ReaderSeen) (out : Output) (to : WritesTo Makes first out) (old new : Outside) (stands : WhereKnown old.held first.name (StandsFor first)) where
  some_output : MakesOutput Makes first.name old
  some_output = known_then old.held first.name (StandsFor first) _
      (λ file st product makes. let h = to file st product makes in some_files product.files _ _ (ap (λ (p : Product). p.files) h.2)) stands

  fails_writing : (T : Type 0) (fault : Fault) → (fault ≡ Memory) ⊎ (fault ≡ Write) → (fault ≡ Write → Rose old.write_faults new.write_faults) → LeavesOf Makes first.name old new → EndsMaking {T = T} Makes first.name old new (Err fault)
  fails_writing T (Refused cause) (inl e) rose left = absurd (cc)
  fails_writing T (Refused cause) (inr e) rose left = absurd (cc)
  fails_writing T Read (inl e) rose left = absurd (cc)
  fails_writing T Read (inr e) rose left = absurd (cc)
  fails_writing T Write kind rose left = (rose refl, some_output, left)
  fails_writing T Memory kind rose left = left

  -- the output could not be created
  pub ends_created : (T : Type 0) (fault : Fault) → (fault ≡ Memory) ⊎ (fault ≡ Write) → Stops fault old new ⊎ ((n : ℕ) × Stops fault (with_bytes old out.name (take n (front out))) new) → (fault ≡ Write → Rose old.write_faults new.write_faults)
      → EndsMaking {T = T} Makes first.name old new (Err fault)
  ends_created T fault kind stops rose =
      fails_writing T fault kind rose
      (known_then old.held first.name (StandsFor first) _
      (λ file st files product known makes.
      let h = to file st product makes in
      let l = left_one out h.0 old.held new.held files (create_left old new out fault h.0 stops) known in
      (l.0, l.1, subst (λ (p : Product). LeavesFiles p.files files l.0) (sym h.2) l.2)) stands)

module _ (Makes : List ℕ → Product → Type 0) (first : ReaderSeen) (out : Output) (copies : CopiesInto Makes first out) (old new : Outside) (stands : WhereKnown old.held first.name (StandsFor first)) where
  left_records : WhereKnown old.held first.name (λ file. LeavesRecords out file old.held new.held) → LeavesOf Makes first.name old new
  left_records left = known_both old.held first.name (StandsFor first) _ _
      (λ file st leaves files product known makes.
      let h = copies.given file st product makes in
      let l = left_one out (concat h.0) old.held new.held files (leaves h.0 h.1 h.2) known in
      (l.0, l.1, subst (λ (p : Product). LeavesFiles p.files files l.0) (sym h.3) l.2)) stands left

  written : WritesTo Makes first out
  written file st product makes = let h = copies.given file st product makes in (concat h.0, option_map BadChunk h.1, h.3)

  -- the output was created, and then filled with the records of a new reader
  module _ (mid : Outside) (reader : ReaderSeen) (buffers : ℕ) (ready : reader ≡ record first { buffers = buffers }) (new_one : ReadsAll first) (w : WriterSeen) (s : Stands old mid w out []) (ne : first.name ≢ out.name) (created : IsCalm old mid) where
    filled : Finishes mid.held old.held new.held reader out [] → MakesAs Makes first.name old new None
    filled all = known_both old.held first.name (StandsFor first) _ _
        (λ file st k. (
          copied out k.0 None,
          copies.gives file st k.0 None k.1,
          refl,
          λ files known. k.2 ∙ ap (λ (h : Option FileMap). with_file h out.name (finished out (concat k.0))) known,
        )) stands (finishes old mid new first reader buffers ready new_one w out s ne stands all)

    refused : (cause : Refusal) → Refuses mid.held old.held new.held reader out [] cause → MakesAs Makes first.name old new (Some cause)
    refused cause ends = known_both old.held first.name (StandsFor first) _ _
        (λ file st k. (
          copied out k.0 (Some k.1),
          copies.gives file st k.0 (Some k.1) k.3,
          ap (λ (c : Refusal). Some c) (sym k.2),
          λ files known. k.4 ∙ ap (λ (h : Option FileMap). with_file h out.name (stopped out (concat k.0))) known,
        )) stands (refuses old mid new first reader buffers ready new_one w out s ne stands cause ends)

    left_filling : (fault : Fault) → EndsCopying mid.held old.held mid new reader out [] fault → LeavesOf Makes first.name old new
    left_filling fault ends = left_records (leaves old mid new first reader buffers ready new_one w out s ne stands (ends_left mid.held old mid new reader w out [] fault s ends))

    pub ends_filled : {T : Type 0} (outcome : Result T Fault) → OnOk outcome (Finishes mid.held old.held new.held reader out []) → IfErr outcome (EndsCopying mid.held old.held mid new reader out []) → OnOk outcome (IsCalm mid new)
        → EndsMaking Makes first.name old new outcome
    ends_filled (Ok x) done ends calm =
        let made = filled done in
        (made, left_done Makes first.name old new made, record { reads = calm.reads ∙ created.reads; writes = calm.writes ∙ created.writes })
    ends_filled (Err (Refused cause)) done ends calm = (refused cause ends, left_filling (Refused cause) ends)
    ends_filled (Err Read) done ends calm = (subst (λ (n : ℕ). Rose n new.read_faults) created.reads ends.0, left_filling Read ends)
    ends_filled (Err Write) done ends calm = (subst (λ (n : ℕ). Rose n new.write_faults) created.writes ends.0, some_output Makes first out written old new stands, left_filling Write ends)
    ends_filled (Err Memory) done ends calm = left_filling Memory ends

-- ---- a packed file is unpacked
pub copies_unpacked : (first : ReaderSeen) (name head : List ℕ) → head ≡ plain_of first.head.bytes → let out : Output = record { name = name; head = head; chunk = None; counted = false } in CopiesInto (Unpacks name) first out
copies_unpacked first name head is =
    let out : Output = record { name = name; head = head; chunk = None; counted = false } in
    let as_out : (file : List ℕ) → StandsFor first file → (blocks : List (List ℕ)) (bad : Option ℕ) → copied (plain_output name file) blocks bad ≡ copied out blocks bad =
    λ file st blocks bad. ap (λ (o : Output). copied o blocks bad) (sym (plain_out first file name head st is)) in
    record {
      gives = λ file st blocks bad are. record {
        makes = (blocks, bad, are.are, sym (as_out file st blocks bad));
        only = λ other m.
            let same = are.only m.0 m.1 m.2 in
            m.3 ∙ as_out file st m.0 m.1 ∙ ap (λ (bs : List (List ℕ)). copied out bs m.1) same.0 ∙ ap (λ (b : Option ℕ). copied out blocks b) same.1;
      };
      given = λ file st product m. (m.0, m.1, m.2, m.3 ∙ as_out file st m.0 m.1);
    }

pub writes_unpacked : (first : ReaderSeen) (name head : List ℕ) → head ≡ plain_of first.head.bytes → let out : Output = record { name = name; head = head; chunk = None; counted = false } in WritesTo (Unpacks name) first out
writes_unpacked first name head is file st product makes =
    (concat makes.0, option_map BadChunk makes.1, makes.3 ∙ ap (λ (o : Output). copied o makes.0 makes.1) (sym (plain_out first file name head st is)))

-- ---- a plain file is packed
pub writes_packed : (first : ReaderSeen) (name head : List ℕ) (chunk : ℕ) → is_packed first.head.bytes ≡ false → head ≡ first.head.bytes → let out : Output = record { name = name; head = head; chunk = Some chunk; counted = false } in WritesTo (Packs name chunk) first out
writes_packed first name head chunk plain is file st product makes =
    let records = drop (point_offset_of file) file in
    (records, None, makes ∙ ap (λ (o : Output). writes o records None) (sym (packed_out first file name head chunk st plain is)))

module _ (first : ReaderSeen) (name head : List ℕ) (chunk : ℕ) (plain : is_packed first.head.bytes ≡ false) (is : head ≡ first.head.bytes) (head_is : IsHead first.head.bytes) where
  abbrev packed_by : Output
  packed_by = record { name = name; head = head; chunk = Some chunk; counted = false }

  -- all records, as they are read
  all_read : (file : List ℕ) → StandsFor first file → (blocks : List (List ℕ)) × AreRecordsOf file blocks None
  all_read file st = (map (piece_bytes file) st.pieces, (st.pieces, st.are, hold-plain file (is_plain first file st plain head_is) st.pieces))

  as_packed : (file : List ℕ) → StandsFor first file → (blocks : List (List ℕ)) → AreRecordsOf file blocks None → writes (packed_output name file chunk) (drop (point_offset_of file) file) None ≡ copied packed_by blocks None
  as_packed file st blocks are =
      ap (λ (o : Output). writes o (drop (point_offset_of file) file) None) (sym (packed_out first file name head chunk st plain is))
      ∙ ap (λ (records : List ℕ). writes packed_by records None) (sym (records_joined first file st plain head_is blocks are))

  gives_packed : (file : List ℕ) → StandsFor first file → (blocks : List (List ℕ)) (bad : Option ℕ) → AreOnlyRecords file blocks bad → IsOnlyProduct (Packs name chunk file) (copied packed_by blocks bad)
  gives_packed file st blocks None are =
      let same = as_packed file st blocks are.are in
      record { makes = sym same; only = λ other makes. makes ∙ same }
  gives_packed file st blocks (Some i) are =
      let all = all_read file st in
      let clash : None ≡ Some i = (are.only all.0 None all.1).1 in
      absurd (cc)

  pub copies_packed : let out : Output = record { name = name; head = head; chunk = Some chunk; counted = false } in CopiesInto (Packs name chunk) first out
  copies_packed = record {
    gives = gives_packed;
    given = λ file st product makes. let all = all_read file st in (all.0, None, all.1, makes ∙ as_packed file st all.0 all.1);
  }

-- what is left of one output
pub one_left : (o : OutputFile) (old now : FileMap) → LeavesFiles (o ∷ []) old now → (now ≡ old) ⊎ ((left : List ℕ) × IsUnfinished o.draft o.patches left × (now ≡ finmap.insert old o.name left))
one_left o old now l = go l.0 l.1 l.2 l.3
  where
    take_none : (k : ℕ) → take k (let xs : List OutputFile = [] in xs) ≡ []
    take_none zero = refl
    take_none (suc k) = refl

    unfinished : (os : List OutputFile) (t : List ℕ) (ts : List (List ℕ)) → AreEnding (o ∷ os) (t ∷ ts) → IsUnfinished o.draft o.patches t
    unfinished os t ts (inl done) = inr (subst (IsPatchedInPart o.draft o.patches) (sym done.0) (all_patched o.draft o.patches))
    unfinished os t ts (inr part) = part.0

    go : (k : ℕ) (texts : List (List ℕ)) → AreBegun (take k (o ∷ [])) texts ⊎ ((1 ≤ k) × AreEnding (take k (o ∷ [])) texts) → now ≡ with_all old (named (take k (o ∷ [])) texts)
        → (now ≡ old) ⊎ ((left : List ℕ) × IsUnfinished o.draft o.patches left × (now ≡ finmap.insert old o.name left))
    go zero texts are is = inl is
    go (suc k) [] (inl are) is = absurd are
    go (suc k) [] (inr are) is = absurd are.1
    go (suc k) (t ∷ ts) (inl are) is = inr (t, inl are.0, is ∙ ap (λ (os : List OutputFile). with_all (finmap.insert old o.name t) (named os ts)) (take_none k))
    go (suc k) (t ∷ ts) (inr are) is = inr (t, unfinished (take k []) t ts are.1, is ∙ ap (λ (os : List OutputFile). with_all (finmap.insert old o.name t) (named os ts)) (take_none k))

-- the packed form of an accepted plain file as a finished output
pub finished_form : (file output : List ℕ) (chunk : ℕ) → CanBePacked file chunk → finished (packed_output output file chunk) (drop (point_offset_of file) file) ≡ packed_file file chunk
finished_form file output chunk can =
    finished_is (packed_output output file chunk) (drop (point_offset_of file) file) (subst IsHead (plain-is file can.plain) (plain_file file can.accepted can.plain can.bytes).head)

-- what follows if the files are known
with_known : (held : Option FileMap) (name : List ℕ) (P Q : List ℕ → Type 0) → ((files : FileMap) → held ≡ Some files → (file : List ℕ) → P file → Q file) → WhereKnown held name P → WhereKnown held name Q
with_known None name P Q to p = tt
with_known (Some files) name P Q to p = known_then (Some files) name P Q (to files refl) p

-- a plain file was packed, or not
module _ (output : List ℕ) (chunk : ℕ) (name : List ℕ) (old new : Outside) where
  pub packed_stands : WhereKnown old.held name (λ file. CanBePacked file chunk) → MakesAs (Packs output chunk) name old new None → WhereKnown old.held name (λ file. new.held ≡ with_file old.held output (packed_file file chunk))
  packed_stands can made = with_known old.held name (λ file. CanBePacked file chunk × ((product : Product) × IsOnlyProduct (Packs output chunk file) product × (product.refusal ≡ None) × ((files : FileMap) → old.held ≡ Some files → new.held ≡ Some (files_after product files)))) _
      (λ files known file h.
      h.1.3 files known ∙ ap (λ (p : Product). Some (files_after p files)) h.1.1.makes
      ∙ ap (λ (t : List ℕ). Some (finmap.insert files output t)) (finished_form file output chunk h.0)
      ∙ sym (ap (λ (held : Option FileMap). with_file held output (packed_file file chunk)) known))
      (known_both old.held name _ _ _ (λ file c m. (c, m)) can made)

  pub packed_left : LeavesOf (Packs output chunk) name old new → WhereKnown old.held name (λ file. LeavesUnfinished (packed_output output file chunk) (drop (point_offset_of file) file) old.held new.held)
  packed_left left = with_known old.held name _ _
      (λ files known file leaves.
      let out = packed_output output file chunk in
      let records = drop (point_offset_of file) file in
      let l = leaves files (writes out records None) known refl in
      elim (one_left (output_file out records) files l.0 l.2) [
        | inl same ↦ inl (l.1 ∙ ap (λ (m : FileMap). Some m) same ∙ sym known)
        | inr part ↦ inr (part.0, part.1, l.1 ∙ ap (λ (m : FileMap). Some m) part.2 ∙ sym (ap (λ (held : Option FileMap). with_file held output part.0) known))
      ]) left
