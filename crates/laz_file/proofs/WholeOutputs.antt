-- Whole files that were packed or unpacked, or not.
use Rattle.std.proofs.Common.{◌≡◌, ◌≢◌, ◌⊎◌, inl, inr, ℕ, ◌+◌, ◌-◌, ◌*◌, ◌≤◌, Bool, true, false, cond, List, [], ◌++◌, length, map, take, drop, Option, Some, None, Result, Err, IfErr, refl, sym, ◌∙◌, ap, subst, arith}
use Rattle.std.specs.Prelude.{IsSome}
use Rattle.std.specs.List.{concat}
use Rattle.std.proofs.lemmas.List.{take_all}
use Rattle.las_header.specs.declared.refusal.Refusal.{Refusal}
use Rattle.las_header.specs.declared.refusal.Refusal.TheVariants.{BadChunk}
use Rattle.las_header.specs.Fields.{head_of, is_packed, point_offset_of, points_of, record_length_of}
use Rattle.las_header.specs.Heads.{HeadView, IsHead}
use Rattle.las_header.specs.Plain.{plain_of}
use Rattle.las_outside.specs.Files.{FileMap, WhereKnown, with_file}
use Rattle.las_outside.specs.Outside.{Outside, with_bytes}
use Rattle.laz_forms.specs.declared.fault.Fault.{Fault}
use Rattle.laz_forms.specs.declared.fault.Fault.TheVariants.{Refused, Read, Write, Memory}
use Rattle.laz_file.specs.Copying.{AreOnlyRecords, EndsCopying, Finishes, HoldFirst, LeavesFirst, LeavesInPart, LeavesRecords, LeavesStopped, LeavesUnfinished, Refuses, packed_output, plain_output}
use Rattle.laz_forms.specs.Outputs.{Output, finished, front, stopped}
use Rattle.laz_forms.specs.Pieces.{Piece, piece_bytes}
use Rattle.laz_reader.specs.Reading.{ReaderSeen, ReadsAll, StandsFor}
use Rattle.laz_forms.specs.Ranges.{Range, parts_of, whole_range}
use Rattle.laz_forms.specs.Records.{AreRead, AreRecordsOf, HoldOnly, IsBadPiece}
use Rattle.laz_writer.specs.Writing.{Stands, Stops, WriterSeen}
use Rattle.laz_forms.proofs.Public.{plain_records}
use Rattle.laz_reader.proofs.Public.{all_of}
use Rattle.laz_writer.proofs.Public.{held_text}
use Rattle.laz_reader.proofs.Public.{read_begins}
use Rattle.laz_file.proofs.Endings.{leaves_part, short_part}
use Rattle.laz_forms.proofs.Public.{known_both}
use Rattle.laz_forms.proofs.Public.{one_pieces}
use Rattle.laz_forms.proofs.Public.{plain-is}
use Rattle.laz_writer.proofs.Public.{front_unfinished}
use Rattle.laz_file.proofs.Taking.{held_after, known_after, known_before}
use Rattle.laz_forms.proofs.Public.{hold-plain, plain_read, read_once}

-- ---- a new reader, and its file

pub stands_ready : (first reader : ReaderSeen) (buffers : ℕ) (file : List ℕ) → reader ≡ record first { buffers = buffers } → StandsFor first file → StandsFor reader file
stands_ready first reader buffers file is s = subst (λ (r : ReaderSeen). StandsFor r file) (sym is) (record {
  accepted = s.accepted;
  head = s.head;
  chunk = s.chunk;
  pieces = s.pieces;
  are = s.are;
  chunks = s.chunks;
  all_lie = s.all_lie;
  begun = s.begun;
  first = s.first;
  left = s.left;
  lie = s.lie;
  bad = s.bad;
})

module _ (first : ReaderSeen) (file : List ℕ) (s : StandsFor first file) (new : ReadsAll first) where
  -- all pieces are left to a new reader
  pub left_is : first.left ≡ s.pieces
  left_is =
      let none : first.next - first.first ≡ 0 = omega (arith, new.first) in
      let range : first.range ≡ whole_range (head_of file) = new.all ∙ ap (λ (h : HeadView). whole_range h.bytes) s.head in
      s.left ∙ ap (λ (n : ℕ). drop n (parts_of file first.range s.pieces)) none ∙ ap (λ (r : Range). parts_of file r s.pieces) range ∙ (all_of file s.pieces s.are).0

  -- what is read of it is all that can be read of it
  pub all_records : (blocks : List (List ℕ)) → HoldOnly file (take (length first.left) first.left) blocks → AreOnlyRecords file blocks None
  all_records blocks hold =
      let here : HoldOnly file s.pieces blocks = subst (λ (ps : List Piece). HoldOnly file ps blocks) (take_all (length first.left) first.left (omega arith) ∙ left_is) hold in
      record { are = (s.pieces, s.are, here.hold); only = read_once file s.pieces blocks None s.are here tt }

  pub records_before : (n : ℕ) (blocks : List (List ℕ)) → HoldOnly file (take n first.left) blocks → IsBadPiece file first.left n → AreOnlyRecords file blocks (Some n)
  records_before n blocks hold bad =
      let here : HoldOnly file (take n s.pieces) blocks = subst (λ (ps : List Piece). HoldOnly file (take n ps) blocks) left_is hold in
      let there : IsBadPiece file s.pieces n = subst (λ (ps : List Piece). IsBadPiece file ps n) left_is bad in
      record { are = (s.pieces, s.are, (here.hold, there)); only = read_once file s.pieces blocks (Some n) s.are here there }

  -- what holds of the first records and any that may come after them holds of all
  pub left_at : (P : List ℕ → Type 0) (n : ℕ) (blocks : List (List ℕ)) → n ≤ length first.left → HoldOnly file (take n first.left) blocks → ((more : List ℕ) → (n ≡ length first.left → more ≡ []) → P (concat blocks ++ more))
      → (others : List (List ℕ)) (bad : Option ℕ) → AreRecordsOf file others bad → P (concat others)
  left_at P n blocks within hold to others bad are =
      let same : are.0 ≡ s.pieces = one_pieces file are.0 s.pieces are.1 s.are in
      let read = subst (λ (ps : List Piece). AreRead file ps others bad) same are.2 in
      let few = subst (λ (ps : List Piece). n ≤ length ps) left_is within in
      let b = read_begins file s.pieces n blocks others bad few (subst (λ (ps : List Piece). HoldOnly file (take n ps) blocks) left_is hold) read in
      subst P (sym b.1) (to b.0 (λ all. b.2 (subst (λ (ps : List Piece). n ≡ length ps) left_is all)))

-- ---- what is known of the file while the output is written

pub hold_ready : (known was : Option FileMap) (first reader : ReaderSeen) (buffers : ℕ) (other text : List ℕ) (n : ℕ) (blocks : List (List ℕ)) → reader ≡ record first { buffers = buffers } → known ≡ with_file was other text → first.name ≢ other → HoldFirst known reader n blocks
    → HoldFirst was first n blocks
hold_ready known was first reader buffers other text n blocks is written ne hold =
    let ready : ReaderSeen = record first { buffers = buffers } in
    let h = subst (λ (r : ReaderSeen). HoldFirst known r n blocks) is hold in
    record {
      within = h.within;
      whole = h.whole;
      hold = known_before was other text first.name (λ file. HoldOnly file (take n first.left) blocks) ne (subst (λ (k : Option FileMap). WhereKnown k first.name (λ file. HoldOnly file (take n first.left) blocks)) written h.hold);
    }

-- ---- faults

pub err_at : {T E : Type 0} (P : E → Type 0) (r : Result T E) (e : E) → IfErr r P → r ≡ Err e → P e
err_at P r e p is = let Q = λ (x : Result _ _). IfErr x P in subst Q is p

-- an output that could not be created
pub create_left : (old new : Outside) (out : Output) (fault : Fault) (records : List ℕ) → Stops fault old new ⊎ ((n : ℕ) × Stops fault (with_bytes old out.name (take n (front out))) new) → LeavesUnfinished out records old.held new.held
create_left old new out fault records (inl stops) = inl (held_after fault old new stops)
create_left old new out fault records (inr s) = inr (take s.0 (front out), front_unfinished out records s.0, held_after fault (with_bytes old out.name (take s.0 (front out))) new s.1)

-- what a fault leaves, a refusal too
pub ends_left : (known : Option FileMap) (before old new : Outside) (reader : ReaderSeen) (w : WriterSeen) (out : Output) (bytes : List ℕ) (fault : Fault) → Stands before old w out bytes → EndsCopying known before.held old new reader out bytes fault
    → LeavesFirst known before.held new.held reader out bytes
ends_left known before old new reader w out bytes (Refused cause) s e =
    let text = stopped out (bytes ++ concat e.1) in
    (e.0, e.1, e.2, λ more none. leaves_part before old w out bytes s (concat e.1) more new.held (length text) (e.4 ∙ ap (with_file before.held out.name) (sym (take_all (length text) text (omega arith)))))
ends_left known before old new reader w out bytes Read s e =
    let l = e.1 in
    (l.0, l.1, l.2, λ more none. leaves_part before old w out bytes s (concat l.1) more new.held l.3.0 l.3.1)
ends_left known before old new reader w out bytes Write s e = e.1
ends_left known before old new reader w out bytes Memory s e = e

-- ---- plain files

pub plain_kind : (packed : Bool) (n : ℕ) → (cond packed (Some n) None) ≡ None → packed ≡ false
plain_kind true n e = absurd (cc)
plain_kind false n e = refl

pub no_chunk : (chunk : Option ℕ) → chunk ≡ None → IsSome chunk → ⊥
no_chunk None none some = absurd (cc)
no_chunk (Some n) none some = absurd (cc)

-- ---- an output that was created, and then filled with the records of a new reader
module _ (old mid new : Outside) (first reader : ReaderSeen) (buffers : ℕ) (ready : reader ≡ record first { buffers = buffers }) (new_one : ReadsAll first) (w : WriterSeen) (out : Output) (s : Stands old mid w out []) (ne : first.name ≢ out.name) (stands : WhereKnown old.held first.name (StandsFor first)) where
  written : (text : List ℕ) × (mid.held ≡ with_file old.held out.name text)
  written = let h = held_text old mid w out [] s in (h.0, ap (λ (o : Outside). o.held) h.1)

  same_left : reader.left ≡ first.left
  same_left = ap (λ (r : ReaderSeen). r.left) ready

  held_first : (n : ℕ) (blocks : List (List ℕ)) → HoldFirst mid.held reader n blocks → HoldFirst old.held first n blocks
  held_first n blocks h = hold_ready mid.held old.held first reader buffers out.name written.0 n blocks ready written.1 ne h

  pub known_reader : (P : List ℕ → Type 0) → WhereKnown old.held first.name P → WhereKnown mid.held reader.name P
  known_reader P k =
      subst (λ (name : List ℕ). WhereKnown mid.held name P) (sym (ap (λ (r : ReaderSeen). r.name) ready))
      (subst (λ (h : Option FileMap). WhereKnown h first.name P) (sym written.1) (known_after old.held out.name written.0 first.name P ne k))

  pub finishes : Finishes mid.held old.held new.held reader out [] → WhereKnown old.held first.name (λ file. (blocks : List (List ℕ)) × AreOnlyRecords file blocks None × (new.held ≡ with_file old.held out.name (finished out (concat blocks))))
  finishes f =
      let h = held_first (length reader.left) f.0 f.1 in
      let all = subst (λ (ps : List Piece). HoldFirst old.held first (length ps) f.0) same_left h in
      known_both old.held first.name (StandsFor first) (λ file. HoldOnly file (take (length first.left) first.left) f.0) (λ file. (blocks : List (List ℕ)) × AreOnlyRecords file blocks None × (new.held ≡ with_file old.held out.name (finished out (concat blocks))))
      (λ file st ho. (f.0, all_records first file st new_one f.0 ho, f.2)) stands all.hold

  pub refuses : (cause : Refusal) → Refuses mid.held old.held new.held reader out [] cause
      → WhereKnown old.held first.name (λ file. (blocks : List (List ℕ)) × (i : ℕ) × (cause ≡ BadChunk i) × AreOnlyRecords file blocks (Some i) × (new.held ≡ with_file old.held out.name (stopped out (concat blocks))))
  refuses cause r =
      let h = held_first r.0 r.1 r.2 in
      let bad : WhereKnown old.held first.name (λ file. IsBadPiece file first.left r.0) =
      known_before old.held out.name written.0 first.name (λ file. IsBadPiece file first.left r.0) ne
      (subst (λ (k : Option FileMap). WhereKnown k first.name (λ file. IsBadPiece file first.left r.0)) written.1
      (subst (λ (x : ReaderSeen). WhereKnown mid.held x.name (λ file. IsBadPiece file x.left r.0)) ready r.3.2)) in
      let number : reader.next + r.0 ≡ r.0 = omega (arith, ap (λ (x : ReaderSeen). x.next) ready, new_one.first) in
      known_both old.held first.name (λ file. StandsFor first file × HoldOnly file (take r.0 first.left) r.1) (λ file. IsBadPiece file first.left r.0)
      (λ file. (blocks : List (List ℕ)) × (i : ℕ) × (cause ≡ BadChunk i) × AreOnlyRecords file blocks (Some i) × (new.held ≡ with_file old.held out.name (stopped out (concat blocks))))
      (λ file a b. (r.1, r.0, r.3.0 ∙ ap BadChunk number, records_before first file a.0 new_one r.0 r.1 a.1 b, r.4))
      (known_both old.held first.name (StandsFor first) (λ file. HoldOnly file (take r.0 first.left) r.1) (λ file. StandsFor first file × HoldOnly file (take r.0 first.left) r.1) (λ file st ho. (st, ho)) stands h.hold) bad

  pub leaves : LeavesFirst mid.held old.held new.held reader out [] → WhereKnown old.held first.name (λ file. LeavesRecords out file old.held new.held)
  leaves l =
      let h = held_first l.0 l.1 l.2 in
      known_both old.held first.name (StandsFor first) (λ file. HoldOnly file (take l.0 first.left) l.1) (λ file. LeavesRecords out file old.held new.held)
      (λ file st ho. left_at first file st new_one (λ t. LeavesUnfinished out t old.held new.held) l.0 l.1 h.within ho (λ more none. l.3 more (λ all. none (all ∙ ap (λ (ps : List Piece). length ps) same_left)))) stands h.hold

  -- after a read that failed a packed output stands in part
  pub leaves_short : (chunk : ℕ) → out.chunk ≡ Some chunk → LeavesStopped mid.held old.held new.held reader out []
      → WhereKnown old.held first.name (λ file. (blocks : List (List ℕ)) (bad : Option ℕ) → AreRecordsOf file blocks bad → LeavesInPart out (concat blocks) old.held new.held)
  leaves_short chunk packed l =
      let h = held_first l.0 l.1 l.2 in
      known_both old.held first.name (StandsFor first) (λ file. HoldOnly file (take l.0 first.left) l.1) (λ file. (blocks : List (List ℕ)) (bad : Option ℕ) → AreRecordsOf file blocks bad → LeavesInPart out (concat blocks) old.held new.held)
      (λ file st ho. left_at first file st new_one (λ t. LeavesInPart out t old.held new.held) l.0 l.1 h.within ho (λ more none. short_part old mid w out [] s chunk packed (concat l.1) more new.held l.3.0 l.3.1)) stands h.hold

-- ---- the head of an output

pub plain_out : (first : ReaderSeen) (file name head : List ℕ) → StandsFor first file → head ≡ plain_of first.head.bytes → let out : Output = record { name = name; head = head; chunk = None; counted = false } in out ≡ plain_output name file
plain_out first file name head s is =
    ap (λ (h : List ℕ). let out : Output = record { name = name; head = h; chunk = None; counted = false } in out)
    (is ∙ ap (λ (h : HeadView). plain_of h.bytes) s.head)

pub packed_out : (first : ReaderSeen) (file name head : List ℕ) (chunk : ℕ) → StandsFor first file → is_packed first.head.bytes ≡ false → head ≡ first.head.bytes
    → let out : Output = record { name = name; head = head; chunk = Some chunk; counted = false } in out ≡ packed_output name file chunk
packed_out first file name head chunk s plain is =
    let bytes = ap (λ (h : HeadView). h.bytes) s.head in
    ap (λ (h : List ℕ). let out : Output = record { name = name; head = h; chunk = Some chunk; counted = false } in out)
    (is ∙ bytes ∙ plain-is file (ap is_packed (sym bytes) ∙ plain))

-- all records of a plain file, and its packed form
module _ (first : ReaderSeen) (file : List ℕ) (s : StandsFor first file) (plain : is_packed first.head.bytes ≡ false) (head : IsHead first.head.bytes) where
  bytes_is : first.head.bytes ≡ head_of file
  bytes_is = ap (λ (h : HeadView). h.bytes) s.head

  pub is_plain : is_packed (head_of file) ≡ false
  is_plain = ap is_packed (sym bytes_is) ∙ plain

  records_is : length (drop (point_offset_of file) file) ≡ record_length_of (head_of file) * points_of (head_of file)
  records_is = plain_records file s.accepted is_plain (subst IsHead bytes_is head)

  pub records_joined : (blocks : List (List ℕ)) → AreRecordsOf file blocks None → concat blocks ≡ drop (point_offset_of file) file
  records_joined blocks are = plain_read file is_plain records_is are.0 blocks are.1 are.2

  pub leaves_plain : (P : List ℕ → Type 0) → ((blocks : List (List ℕ)) (bad : Option ℕ) → AreRecordsOf file blocks bad → P (concat blocks)) → P (drop (point_offset_of file) file)
  leaves_plain P to =
      let blocks = map (piece_bytes file) s.pieces in
      let are : AreRecordsOf file blocks None = (s.pieces, s.are, hold-plain file is_plain s.pieces) in
      subst P (records_joined blocks are) (to blocks None are)
