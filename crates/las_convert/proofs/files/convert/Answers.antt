use Rattle.las_outside.proofs.Public.{later-refl}
use Rattle.laz_forms.specs.FileFaults.{HasCause}
use Rattle.las_header.specs.declared.refusal.Refusal.TheVariants.{BadChunk}
use Rattle.std.proofs.lemmas.Result.{IfOk-from_err}
use Rattle.std.proofs.Common.{ℕ, ◌*◌, List, [], map, refl, sym, ap, subst, arith}
use Rattle.las_filter.specs.Kept.{Steps, steps_of}
use Rattle.las_outside.specs.Outside.{Outside}
use Rattle.las_thin.specs.Placed.{Placed}
use Rattle.las_thin.specs.Sieving.{Sieving}
use Rattle.laz_forms.specs.declared.fault.Fault.TheVariants.{Memory, Refused}
use Rattle.laz_forms.specs.Outputs.{Output}
use Rattle.laz_reader.specs.Asking.{ReadsAndWrites, bytes_left}
use Rattle.laz_reader.specs.Reading.{ReaderSeen, StandsFor}
use Rattle.laz_forms.proofs.Public.{known_then}
use Rattle.laz_reader.proofs.Public.{after_writes}
use Rattle.laz_file.proofs.Public.{ends_err, left_before, stands_ready}
use Rattle.las_convert.specs.Adding.{HaveCounted, IsAfter}
use Rattle.las_convert.specs.Converting.{Converts, output_of, wanted_of}
use Rattle.las_convert.proofs.Making.{bad_by, ends_begun, ends_filled, given_by, looked_by, tallied_by, is_fault}
use Rattle.las_convert.proofs.Passing.{after_start}
use Rattle.las_convert.proofs.Shown.{none_counted}
use Rattle.las_convert.proofs.Wholes.{IsBegunFor, known_here}
use Rattle.las_convert.proofs.files.convert.Given.{Over}
use Rattle.las_convert.proofs.files.convert.Goals.{After-convert_and_finish}
use Rattle.las_convert.proofs.files.convert.Goals as goal

pub returns-in_err-grow-clause-ends : goal.returns-in_err-grow-clause-ends
returns-in_err-grow-clause-ends g c =
    let files = g.F.Files.seen c.args.files.now in
    let first = c.args.reader in
    let wanted = wanted_of (steps_of c.args.plan.now) c.args.passage.now.sieve.settings first.range in
    let Makes = Converts wanted c.args.output.now c.args.chunk in
    ends_err Makes first.name files files (Unit {0}) c.from_residual.result Memory c.from_residual.ensures.1
    (left_before Makes first.name files files (StandsFor first) c.requires.stands refl)

pub returns-in_err-crew-clause-ends : goal.returns-in_err-crew-clause-ends
returns-in_err-crew-clause-ends g c =
    let files = g.F.Files.seen c.args.files.now in
    let first = c.args.reader in
    let wanted = wanted_of (steps_of c.args.plan.now) c.args.passage.now.sieve.settings first.range in
    let Makes = Converts wanted c.args.output.now c.args.chunk in
    ends_err Makes first.name files files (Unit {0}) c.from_residual-in_err-crew.result Memory
    c.from_residual-in_err-crew.ensures.1
    (left_before Makes first.name files files (StandsFor first) c.requires.stands refl)

pub returns-in_err-writer-clause-ends : goal.returns-in_err-writer-clause-ends
returns-in_err-writer-clause-ends g c =
    let h = c.in_err-writer.ensures in
    ends_begun (g.F.Files.seen c.args.files.now) (g.F.Files.seen c.begin.new.files) (steps_of c.args.plan.now)
    c.args.passage.now.sieve.settings c.requires.ready.0 c.args.reader c.crew.new.self c.args.output.now c.args.chunk
    (ap (λ (r : ReaderSeen). r.head) c.in_ok-crew.ensures.kept) c.requires.stands c.requires.ready.2 (Unit {0})
    c.from_residual-in_err-writer.result c.in_err-writer.field-0.0 c.from_residual-in_err-writer.ensures.1 h.cause
    h.left

pub convert_and_finish-requires-clause-reads : goal.convert_and_finish-requires-clause-reads
convert_and_finish-requires-clause-reads g c κs within =
    let old = g.F.Files.seen c.args.files.now in
    let mid = g.F.Files.seen c.begin.new.files in
    let first = c.args.reader in
    let reader = c.crew.new.self in
    let buffers = 2 * c.hands-hands.result in
    let ready = c.in_ok-crew.ensures.kept in
    let h = c.in_ok-writer.ensures in
    let b : IsBegunFor old mid (steps_of c.args.plan.now) c.args.passage.now.sieve.settings c.requires.ready.0 first
    reader c.in_ok-writer.writer c.args.output.now c.args.chunk c.args.passage.now.sieve.settings = record {
      buffers = buffers;
      ready = ready;
      unread = c.requires.fresh.unread;
      wide = h.can.size;
      begun = h.stands;
      apart = c.requires.names;
      stands = c.requires.stands;
      are_looked = c.requires.ready.2;
      same = refl;
    } in
    known_here mid b (StandsFor reader)
    (known_then old.held first.name (StandsFor first) (StandsFor reader)
    (λ file st. stands_ready first reader buffers file ready st) c.requires.stands)

pub convert_and_finish-requires-clause-after : goal.convert_and_finish-requires-clause-after
convert_and_finish-requires-clause-after g c κs within =
    let grown = c.grow.new.self in (
      c.requires.ready.0,
      after_start (steps_of c.args.plan.now) c.requires.ready.0 c.args.passage.now.sieve grown.sieve
          c.args.passage.now.read grown.read c.grow.ensures.sieve c.grow.ensures.read c.requires.unread
          c.requires.ready.1,
    )

pub convert_and_finish-requires-clause-counted : goal.convert_and_finish-requires-clause-counted
convert_and_finish-requires-clause-counted g c κs within =
    subst (λ xs. HaveCounted 0 (map (λ tap. (goal.Tap-dyn g (tap.vtable, tap.value)).tap_seen tap.value) xs))
    (sym c.grow.ensures.taps) (none_counted (λ tap. (goal.Tap-dyn g (tap.vtable, tap.value)).tap_seen tap.value)
    c.args.passage.now.taps.items c.requires.counted)

-- what stands when the records were read, or could not be
module _ (g : Over) (c : After-convert_and_finish g) where
  abbrev old : Outside
  old = g.F.Files.seen c.args.files.now

  abbrev mid : Outside
  mid = g.F.Files.seen c.begin.new.files

  abbrev new : Outside
  new = g.F.Files.seen c.convert_and_finish.new.files

  abbrev plan : Steps
  plan = steps_of c.args.plan.now

  abbrev looked : List Placed
  looked = c.requires.ready.0

  abbrev out : Output
  out = output_of c.crew.new.self c.args.output.now c.args.chunk

  after : IsAfter plan looked [] c.grow.new.self.sieve c.grow.new.self.read
  after = after_start plan looked c.args.passage.now.sieve c.grow.new.self.sieve c.args.passage.now.read
      c.grow.new.self.read c.grow.ensures.sieve c.grow.ensures.read c.requires.unread c.requires.ready.1

  begun : IsBegunFor old mid plan c.args.passage.now.sieve.settings looked c.args.reader c.crew.new.self
      c.in_ok-writer.writer c.args.output.now c.args.chunk c.grow.new.self.sieve.settings
  begun = record {
    buffers = 2 * c.hands-hands.result;
    ready = c.in_ok-crew.ensures.kept;
    unread = c.requires.fresh.unread;
    wide = c.in_ok-writer.ensures.can.size;
    begun = c.in_ok-writer.ensures.stands;
    apart = c.requires.names;
    stands = c.requires.stands;
    are_looked = c.requires.ready.2;
    same = ap (λ (s : Sieving). s.settings) c.grow.ensures.sieve;
  }

pub returns-clause-ends : goal.returns-clause-ends
returns-clause-ends g c =
    let k = (goal.at.returns-clause-ends g c).After-convert_and_finish in
    let h = c.in_ok-writer.ensures in
    ends_filled (new g k) (begun g k) c.convert_and_finish.result _ _
    (c.convert_and_finish.ensures.finished (looked g k) (after g k) (old g k) (out g k) [] h.stands)
    (c.convert_and_finish.ensures.ends (looked g k) (after g k) (old g k) (out g k) [] h.stands) h.calm c.convert_and_finish.ensures.calm

pub returns-clause-tallied : goal.returns-clause-tallied
returns-clause-tallied g c =
    let k = (goal.at.returns-clause-tallied g c).After-convert_and_finish in
    tallied_by (new g k) (begun g k) c.convert_and_finish.result
    (λ tap. (goal.Tap-dyn g (tap.vtable, tap.value)).tap_seen tap.value) c.grow.new.self.taps.items
    c.args.passage.now.taps.items c.convert_and_finish.new.passage.taps.items c.grow.ensures.taps
    (c.convert_and_finish.ensures.finished (looked g k) (after g k) (old g k) (out g k) [] c.in_ok-writer.ensures.stands)

pub returns-clause-given : goal.returns-clause-given
returns-clause-given g c cause is =
    let k = (goal.at.returns-clause-given g c).After-convert_and_finish in
    given_by (new g k) (begun g k) c.convert_and_finish.result
    (c.convert_and_finish.ensures.ends (looked g k) (after g k) (old g k) (out g k) [] c.in_ok-writer.ensures.stands) cause is

pub returns-clause-bad : goal.returns-clause-bad
returns-clause-bad g c cause is =
    let k = (goal.at.returns-clause-bad g c).After-convert_and_finish in
    bad_by (new g k) (begun g k) c.convert_and_finish.result
    (c.convert_and_finish.ensures.ends (looked g k) (after g k) (old g k) (out g k) [] c.in_ok-writer.ensures.stands) cause is

pub returns-clause-looked : goal.returns-clause-looked
returns-clause-looked g c i is =
    let k = (goal.at.returns-clause-looked g c).After-convert_and_finish in
    looked_by (new g k) (begun g k) c.convert_and_finish.result
    (c.convert_and_finish.ensures.ends (looked g k) (after g k) (old g k) (out g k) [] c.in_ok-writer.ensures.stands) i is

pub returns-clause-frame : goal.returns-clause-frame
returns-clause-frame g c =
    after_writes _ _ _ _ c.begin.ensures.writes
    (subst (λ (n : ℕ). ReadsAndWrites n (g.F.Files.seen c.begin.new.files) (g.F.Files.seen c.convert_and_finish.new.files))
    (ap bytes_left c.in_ok-crew.ensures.kept) c.convert_and_finish.ensures.frame)

pub returns-in_err-grow-clause-tallied : goal.returns-in_err-grow-clause-tallied
returns-in_err-grow-clause-tallied g c = IfOk-from_err c.from_residual.result _ c.from_residual.ensures.0

pub returns-in_err-crew-clause-tallied : goal.returns-in_err-crew-clause-tallied
returns-in_err-crew-clause-tallied g c =
    IfOk-from_err c.from_residual-in_err-crew.result _ c.from_residual-in_err-crew.ensures.0

pub returns-in_err-writer-clause-tallied : goal.returns-in_err-writer-clause-tallied
returns-in_err-writer-clause-tallied g c =
    IfOk-from_err c.from_residual-in_err-writer.result _ c.from_residual-in_err-writer.ensures.0

pub returns-in_err-grow-clause-given : goal.returns-in_err-grow-clause-given
returns-in_err-grow-clause-given g c cause is =
    let e = is_fault c.from_residual.result Memory (Refused cause) c.from_residual.ensures.1 is in
    cc

pub returns-in_err-grow-clause-bad : goal.returns-in_err-grow-clause-bad
returns-in_err-grow-clause-bad g c cause is =
    let e = is_fault c.from_residual.result Memory (Refused cause) c.from_residual.ensures.1 is in
    cc

pub returns-in_err-grow-clause-looked : goal.returns-in_err-grow-clause-looked
returns-in_err-grow-clause-looked g c i is =
    let e = is_fault c.from_residual.result Memory (Refused (BadChunk i)) c.from_residual.ensures.1 is in
    cc

pub returns-in_err-grow-clause-frame : goal.returns-in_err-grow-clause-frame
returns-in_err-grow-clause-frame g c = record { asked = omega arith; later = later-refl _ }

pub returns-in_err-crew-clause-given : goal.returns-in_err-crew-clause-given
returns-in_err-crew-clause-given g c cause is =
    let e =
    is_fault c.from_residual-in_err-crew.result Memory (Refused cause) c.from_residual-in_err-crew.ensures.1 is in
    cc

pub returns-in_err-crew-clause-bad : goal.returns-in_err-crew-clause-bad
returns-in_err-crew-clause-bad g c cause is =
    let e =
    is_fault c.from_residual-in_err-crew.result Memory (Refused cause) c.from_residual-in_err-crew.ensures.1 is in
    cc

pub returns-in_err-crew-clause-looked : goal.returns-in_err-crew-clause-looked
returns-in_err-crew-clause-looked g c i is =
    let e =
    is_fault c.from_residual-in_err-crew.result Memory (Refused (BadChunk i)) c.from_residual-in_err-crew.ensures.1
    is in
    cc

pub returns-in_err-crew-clause-frame : goal.returns-in_err-crew-clause-frame
returns-in_err-crew-clause-frame g c = record { asked = omega arith; later = later-refl _ }

pub returns-in_err-writer-clause-given : goal.returns-in_err-writer-clause-given
returns-in_err-writer-clause-given g c cause is =
    let e =
    is_fault c.from_residual-in_err-writer.result c.in_err-writer.field-0.0 (Refused cause)
    c.from_residual-in_err-writer.ensures.1 is in
    absurd
    (subst (HasCause (g.F.Files.seen c.args.files.now) (g.F.Files.seen c.begin.new.files)) e
    c.in_err-writer.ensures.cause)

pub returns-in_err-writer-clause-bad : goal.returns-in_err-writer-clause-bad
returns-in_err-writer-clause-bad g c cause is =
    let e =
    is_fault c.from_residual-in_err-writer.result c.in_err-writer.field-0.0 (Refused cause)
    c.from_residual-in_err-writer.ensures.1 is in
    absurd
    (subst (HasCause (g.F.Files.seen c.args.files.now) (g.F.Files.seen c.begin.new.files)) e
    c.in_err-writer.ensures.cause)

pub returns-in_err-writer-clause-looked : goal.returns-in_err-writer-clause-looked
returns-in_err-writer-clause-looked g c i is =
    let e =
    is_fault c.from_residual-in_err-writer.result c.in_err-writer.field-0.0 (Refused (BadChunk i))
    c.from_residual-in_err-writer.ensures.1 is in
    absurd
    (subst (HasCause (g.F.Files.seen c.args.files.now) (g.F.Files.seen c.begin.new.files)) e
    c.in_err-writer.ensures.cause)

pub returns-in_err-writer-clause-frame : goal.returns-in_err-writer-clause-frame
returns-in_err-writer-clause-frame g c = record {
  asked = omega (arith, c.begin.ensures.writes.asked);
  later = c.begin.ensures.writes.later;
}

pub convert_and_finish-requires-clause-room : goal.convert_and_finish-requires-clause-room
convert_and_finish-requires-clause-room g c κs within = c.in_ok-writer.ensures.can

pub convert_and_finish-requires-clause-stands : goal.convert_and_finish-requires-clause-stands
convert_and_finish-requires-clause-stands g c κs within = (
  g.F.Files.seen c.args.files.now,
  output_of c.crew.new.self c.args.output.now c.args.chunk,
  [],
  c.in_ok-writer.ensures.stands,
)
