use Rattle.std.proofs.Common.{◌≡◌, ℕ, false, List, [], drop, Err, Option, Some, refl, sym, ◌∙◌, ap, subst}
use Rattle.std.specs.List.{concat}
use Rattle.las_header.specs.Fields.{is_packed, point_offset_of}
use Rattle.las_header.specs.Heads.{HeadView, IsHead}
use Rattle.las_outside.specs.Outside.{Outside}
use Rattle.laz_forms.specs.declared.fault.Fault.{Fault}
use Rattle.laz_forms.specs.declared.fault.Fault.TheVariants.{Refused, Read, Memory}
use Rattle.laz_forms.specs.Outputs.{Output}
use Rattle.laz_forms.specs.Records.{AreRecordsOf}
use Rattle.laz_forms.proofs.Public.{known_both, known_then}
use Rattle.laz_reader.specs.Asking.{ReadsAndWrites, bytes_left}
use Rattle.laz_reader.specs.Reading.{ReaderSeen, StandsFor}
use Rattle.laz_reader.proofs.Public.{after_writes}
use Rattle.laz_file.specs.Copying.{EndsCopying, LeavesInPart, Packs, packed_output}
use Rattle.laz_file.proofs.Making.{copies_packed, ends_created, ends_err, ends_filled, left_before, writes_packed}
use Rattle.laz_file.proofs.WholeOutputs.{err_at, known_reader, leaves_plain, leaves_short, no_chunk, packed_out}
use Rattle.laz_file.proofs.WholeOutputs.{plain_kind, stands_ready}
use Rattle.laz_file.proofs.whole_files.pack.Given.{Over}
use Rattle.laz_file.proofs.whole_files.pack.Goals.{After-copy_and_finish, After-head-head}
use Rattle.laz_file.proofs.whole_files.pack.Goals as goal

-- the output, whose head is the input's
module _ (g : Over) (c : After-head-head g) where
  abbrev out : Output
  out = record {
    name = c.args.output.now;
    head = c.head-head.result.now.bytes;
    chunk = Some c.args.chunk;
    counted = false;
  }

  same : c.head-head.result.now.bytes ≡ c.args.reader.head.bytes
  same = ap (λ (h : HeadView). h.bytes)
      (c.head-head.ensures ∙ ap (λ (r : ReaderSeen). r.head) c.in_ok-crew.ensures.kept)

  plain : is_packed c.args.reader.head.bytes ≡ false
  plain = plain_kind (is_packed c.args.reader.head.bytes) _ (sym c.requires.whole.chunk ∙ c.requires.plain)

-- what stands when the records were copied, or could not be
module _ (g : Over) (c : After-copy_and_finish g) where
  abbrev old : Outside
  old = g.F.Files.seen c.args.files.now

  abbrev mid : Outside
  mid = g.F.Files.seen c.create.new.files

  abbrev new : Outside
  new = g.F.Files.seen c.copy_and_finish.new.files

  abbrev made : After-head-head g
  made = (goal.at.After-copy_and_finish g c).After-head-head

  is_head : IsHead c.args.reader.head.bytes
  is_head = subst IsHead (same g made) c.in_ok-writer.ensures.stands.head

  ended : (fault : Fault) → c.copy_and_finish.result ≡ Err fault
      → EndsCopying mid.held old.held mid new c.crew.new.self (out g made) [] fault
  ended fault is = err_at (EndsCopying mid.held old.held mid new c.crew.new.self (out g made) []) c.copy_and_finish.result fault
      (c.copy_and_finish.ensures.ends old (out g made) [] c.in_ok-writer.ensures.stands) is

pub returns-in_err-crew-clause-ends : goal.returns-in_err-crew-clause-ends
returns-in_err-crew-clause-ends g c =
    let files = g.F.Files.seen c.args.files.now in
    let first = c.args.reader in
    let Makes = Packs c.args.output.now c.args.chunk in
    ends_err Makes first.name files files (Unit {0}) c.from_residual.result Memory c.from_residual.ensures.1
    (left_before Makes first.name files files (StandsFor first) c.requires.stands refl)

pub returns-in_err-writer-clause-ends : goal.returns-in_err-writer-clause-ends
returns-in_err-writer-clause-ends g c =
    let k = (goal.at.returns-in_err-writer-clause-ends g c).After-head-head in
    let old = g.F.Files.seen c.args.files.now in
    let new = g.F.Files.seen c.create.new.files in
    let first = c.args.reader in
    let name = c.args.output.now in
    let chunk = c.args.chunk in
    let h = c.in_err-writer.ensures in
    let fault = c.in_err-writer.field-0.0 in
    ends_err (Packs name chunk) first.name old new (Unit {0}) c.from_residual-in_err-writer.result fault
    c.from_residual-in_err-writer.ensures.1
    (ends_created (Packs name chunk) first (out g k)
    (writes_packed first name c.head-head.result.now.bytes chunk (plain g k) (same g k)) old new c.requires.stands
    (Unit {0}) fault h.fault h.stopped (λ e. h.write (ap Err e)))

pub copy_and_finish-requires-clause-reads : goal.copy_and_finish-requires-clause-reads
copy_and_finish-requires-clause-reads g c κs within =
    let k = (goal.at.copy_and_finish-requires-clause-reads g c).After-head-head in
    let old = g.F.Files.seen c.args.files.now in
    let mid = g.F.Files.seen c.create.new.files in
    let first = c.args.reader in
    known_reader old mid mid first c.crew.new.self 2 c.in_ok-crew.ensures.kept c.requires.new.whole
    c.in_ok-writer.writer (out g k) c.in_ok-writer.ensures.stands (λ e. c.requires.names (sym e)) c.requires.stands
    (StandsFor c.crew.new.self)
    (known_then old.held first.name (StandsFor first) (StandsFor c.crew.new.self)
    (λ file s. stands_ready first c.crew.new.self 2 file c.in_ok-crew.ensures.kept s) c.requires.stands)

pub returns-clause-ends : goal.returns-clause-ends
returns-clause-ends g c =
    let k = (goal.at.returns-clause-ends g c).After-copy_and_finish in
    let m = (goal.at.returns-clause-ends g c).After-head-head in
    let first = c.args.reader in
    let name = c.args.output.now in
    let chunk = c.args.chunk in
    let h = c.in_ok-writer.ensures in
    let copies = copies_packed first name c.head-head.result.now.bytes chunk (plain g m) (same g m) (is_head g k) in
    ends_filled (Packs name chunk) first (out g m) copies (old g k) (new g k) c.requires.stands (mid g k)
    c.crew.new.self 2 c.in_ok-crew.ensures.kept c.requires.new.whole c.in_ok-writer.writer h.stands
    (λ e. c.requires.names (sym e)) h.calm c.copy_and_finish.result (c.copy_and_finish.ensures.finished (old g k) (out g m) [] h.stands)
    (c.copy_and_finish.ensures.ends (old g k) (out g m) [] h.stands) c.copy_and_finish.ensures.calm

pub returns-clause-never : goal.returns-clause-never
returns-clause-never g c cause is =
    let e = ended g (goal.at.returns-clause-never g c).After-copy_and_finish (Refused cause) is in
    no_chunk c.crew.new.self.chunk (ap (λ (r : ReaderSeen). r.chunk) c.in_ok-crew.ensures.kept ∙ c.requires.plain) e.3.1

pub returns-clause-frame : goal.returns-clause-frame
returns-clause-frame g c =
    let same : bytes_left c.crew.new.self ≡ bytes_left c.args.reader = ap bytes_left c.in_ok-crew.ensures.kept in
    subst (λ (n : ℕ). ReadsAndWrites n (g.F.Files.seen c.args.files.now) (g.F.Files.seen c.copy_and_finish.new.files)) same
    (after_writes _ _ _ _ c.create.ensures.writes c.copy_and_finish.ensures.frame)

pub returns-clause-in_part : goal.returns-clause-in_part
returns-clause-in_part g c is =
    let k = (goal.at.returns-clause-in_part g c).After-copy_and_finish in
    let m = (goal.at.returns-clause-in_part g c).After-head-head in
    let first = c.args.reader in
    let name = c.args.output.now in
    let chunk = c.args.chunk in
    let was = (old g k).held in
    let now = (new g k).held in
    known_both was first.name (StandsFor first)
    (λ file. (blocks : List (List ℕ)) (bad : Option ℕ) → AreRecordsOf file blocks bad
    → LeavesInPart (out g m) (concat blocks) was now)
    (λ file. LeavesInPart (packed_output name file chunk) (drop (point_offset_of file) file) was now)
    (λ file st f.
    subst (λ (o : Output). LeavesInPart o (drop (point_offset_of file) file) was now)
    (packed_out first file name c.head-head.result.now.bytes chunk st (plain g m) (same g m))
    (leaves_plain first file st (plain g m) (is_head g k) (λ t. LeavesInPart (out g m) t was now) f))
    c.requires.stands
    (leaves_short (old g k) (mid g k) (new g k) first c.crew.new.self 2 c.in_ok-crew.ensures.kept c.requires.new.whole
    c.in_ok-writer.writer (out g m) c.in_ok-writer.ensures.stands (λ e. c.requires.names (sym e)) c.requires.stands
    chunk refl (ended g k Read is).1)
