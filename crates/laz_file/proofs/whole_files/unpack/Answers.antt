use Rattle.std.proofs.Common.{◌≡◌, ℕ, ◌*◌, false, [], Err, None, refl, sym, ◌∙◌, ap, subst}
use Rattle.las_header.specs.Heads.{HeadView}
use Rattle.las_header.specs.Plain.{plain_of}
use Rattle.laz_forms.specs.declared.fault.Fault.TheVariants.{Refused, Memory}
use Rattle.laz_reader.specs.Asking.{ReadsAndWrites, bytes_left}
use Rattle.laz_file.specs.Copying.{EndsCopying, Unpacks}
use Rattle.laz_forms.specs.Outputs.{Output}
use Rattle.laz_reader.specs.Reading.{StandsFor}
use Rattle.laz_reader.proofs.Public.{after_writes}
use Rattle.laz_forms.proofs.Public.{known_then}
use Rattle.laz_file.proofs.Making.{copies_unpacked, ends_created, ends_err, ends_filled, left_before, writes_unpacked}
use Rattle.laz_file.proofs.WholeOutputs.{err_at, known_reader, stands_ready}
use Rattle.laz_file.proofs.whole_files.unpack.Goals as goal

pub returns-in_err-head-clause-ends : goal.returns-in_err-head-clause-ends
returns-in_err-head-clause-ends g c =
    let files = g.F.Files.seen c.args.files.now in
    let first = c.args.reader in
    let Makes = Unpacks c.args.output.now in
    ends_err Makes first.name files files (Unit {0}) c.from_residual.result Memory c.from_residual.ensures.1
    (left_before Makes first.name files files (StandsFor first) c.requires.stands refl)

pub returns-in_err-crew-clause-ends : goal.returns-in_err-crew-clause-ends
returns-in_err-crew-clause-ends g c =
    let files = g.F.Files.seen c.args.files.now in
    let first = c.args.reader in
    let Makes = Unpacks c.args.output.now in
    ends_err Makes first.name files files (Unit {0}) c.from_residual-in_err-crew.result Memory c.from_residual-in_err-crew.ensures.1
    (left_before Makes first.name files files (StandsFor first) c.requires.stands refl)

pub returns-in_err-writer-clause-ends : goal.returns-in_err-writer-clause-ends
returns-in_err-writer-clause-ends g c =
    let old = g.F.Files.seen c.args.files.now in
    let new = g.F.Files.seen c.create.new.files in
    let first = c.args.reader in
    let name = c.args.output.now in
    let head = c.in_ok-head.head.bytes in
    let out : Output = record { name = name; head = head; chunk = None; counted = false } in
    let plain : head ≡ plain_of first.head.bytes = c.in_ok-head.ensures.bytes ∙ ap (λ (h : HeadView). plain_of h.bytes) c.head.ensures in
    let h = c.in_err-writer.ensures in
    let fault = c.in_err-writer.field-0.0 in
    ends_err (Unpacks name) first.name old new (Unit {0}) c.from_residual-in_err-writer.result fault c.from_residual-in_err-writer.ensures.1
    (ends_created (Unpacks name) first out (writes_unpacked first name head plain) old new c.requires.stands (Unit {0}) fault h.fault h.stopped (λ e. h.write (ap Err e)))

pub copy_and_finish-requires-clause-reads : goal.copy_and_finish-requires-clause-reads
copy_and_finish-requires-clause-reads g c κs within =
    let old = g.F.Files.seen c.args.files.now in
    let mid = g.F.Files.seen c.create.new.files in
    let first = c.args.reader in
    let head = c.in_ok-head.head.bytes in
    let out : Output = record { name = c.args.output.now; head = head; chunk = None; counted = false } in
    known_reader old mid mid first c.crew.new.self (2 * c.hands-hands.result) c.in_ok-crew.ensures.kept c.requires.new.whole c.in_ok-writer.writer out c.in_ok-writer.ensures.stands (λ e. c.requires.names (sym e)) c.requires.stands (StandsFor c.crew.new.self)
    (known_then old.held first.name (StandsFor first) (StandsFor c.crew.new.self) (λ file s. stands_ready first c.crew.new.self (2 * c.hands-hands.result) file c.in_ok-crew.ensures.kept s) c.requires.stands)

pub returns-clause-ends : goal.returns-clause-ends
returns-clause-ends g c =
    let old = g.F.Files.seen c.args.files.now in
    let mid = g.F.Files.seen c.create.new.files in
    let new = g.F.Files.seen c.copy_and_finish.new.files in
    let first = c.args.reader in
    let name = c.args.output.now in
    let head = c.in_ok-head.head.bytes in
    let out : Output = record { name = name; head = head; chunk = None; counted = false } in
    let plain : head ≡ plain_of first.head.bytes = c.in_ok-head.ensures.bytes ∙ ap (λ (h : HeadView). plain_of h.bytes) c.head.ensures in
    let h = c.in_ok-writer.ensures in
    ends_filled (Unpacks name) first out (copies_unpacked first name head plain) old new c.requires.stands mid c.crew.new.self (2 * c.hands-hands.result) c.in_ok-crew.ensures.kept c.requires.new.whole c.in_ok-writer.writer h.stands (λ e. c.requires.names (sym e)) h.calm
    c.copy_and_finish.result (c.copy_and_finish.ensures.finished old out [] h.stands) (c.copy_and_finish.ensures.ends old out [] h.stands) c.copy_and_finish.ensures.calm

pub returns-clause-bad : goal.returns-clause-bad
returns-clause-bad g c cause is =
    let old = g.F.Files.seen c.args.files.now in
    let mid = g.F.Files.seen c.create.new.files in
    let new = g.F.Files.seen c.copy_and_finish.new.files in
    let out : Output = record { name = c.args.output.now; head = c.in_ok-head.head.bytes; chunk = None; counted = false } in
    let e = err_at (EndsCopying mid.held old.held mid new c.crew.new.self out []) c.copy_and_finish.result (Refused cause) (c.copy_and_finish.ensures.ends old out [] c.in_ok-writer.ensures.stands) is in
    (_, e.3.0)

pub returns-clause-frame : goal.returns-clause-frame
returns-clause-frame g c =
    let same : bytes_left c.crew.new.self ≡ bytes_left c.args.reader = ap bytes_left c.in_ok-crew.ensures.kept in
    subst (λ (n : ℕ). ReadsAndWrites n (g.F.Files.seen c.args.files.now) (g.F.Files.seen c.copy_and_finish.new.files)) same
    (after_writes _ _ _ _ c.create.ensures.writes c.copy_and_finish.ensures.frame)
