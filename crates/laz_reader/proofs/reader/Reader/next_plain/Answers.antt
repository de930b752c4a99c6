use Rattle.las_outside.proofs.Public.{calm-refl}
use Rattle.laz_reader.proofs.Exits.{at_exit, reads-refl}
use Rattle.std.proofs.lemmas.Result.{IfOk-from_err}
use Rattle.std.proofs.Common.{◌≡◌, ◌*◌, ◌+◌, ◌-◌, ◌∙◌, refl, sym, ap, subst, false, ℕ, List, [], ◌∷◌, None, take, drop, arith}
use Rattle.las_header.specs.Fields.{record_length_of}
use Rattle.laz_reader.specs.Reading.{AreWholeBlocks, Position, ReaderSeen, pieces_left, FailsReading}
use Rattle.laz_reader.proofs.Asking.{asked_block, asked_part, asked_since}
use Rattle.laz_forms.proofs.Public.{known_as, known_both, known_then}
use Rattle.laz_reader.proofs.Batches.{block_held, first_size, parts, plain_fine, block_is, block_lies, block_rest, block_whole, IsNextBlock, one_lent, plain_left, stands_plain}
use Rattle.laz_reader.proofs.reader.Reader.next_plain.Given.{Over}
use Rattle.laz_reader.proofs.reader.Reader.next_plain.Goals.{After-deref}
use Rattle.laz_reader.proofs.reader.Reader.next_plain.Goals as goal
use Rattle.laz_reader.proofs.PiecesRead.{hold_only_none}

pub returns-then-self-eq0-clause-blocks : goal.returns-then-self-eq0-clause-blocks
returns-then-self-eq0-clause-blocks g c = ([], refl, λ k lt. absurd (omega arith), tt, known_then _ _ _ _ (λ file s. hold_only_none file) c.requires.stands)

-- what stands before the block is read
module _ (g : Over) (c : After-deref g) where
  abbrev size : ℕ
  size = record_length_of c.self.inside.head.bytes

  abbrev place : Position
  place =
      let r = c.self.inside in
      record {
        at = r.place;
        blocks = r.blocks;
        records = r.records;
        ends = r.ends;
        next = r.next;
        batch = r.batch;
        bad = r.bad;
      }

  abbrev taken : ℕ
  taken = c.from.result * c.min-count.result

  chunk : c.self.inside.chunk ≡ None
  chunk = ap (λ (s : ReaderSeen). s.chunk) c.self.view_is ∙ c.requires.plain

  block : IsNextBlock size place.at place.records c.min-count.result taken c.args.self.now.left
  block = record {
    some = omega (arith, c.if-self-eq0.false);
    count_is = omega (arith, c.min-count.ensures);
    taken_is = ap (λ (n : ℕ). n * c.min-count.result) (c.from.ensures ∙ c.record_length.ensures.field);
    left_is = sym (ap (λ (s : ReaderSeen). s.left) c.self.view_is)
        ∙ plain_left c.self.inside.chunk size place _ _ chunk;
  }

  name : c.deref.result.now ≡ c.args.self.now.name
  name = c.deref.ensures ∙ ap (λ (s : ReaderSeen). s.name) c.self.view_is

  not_bad : c.self.inside.bad ≡ false
  not_bad = plain_fine c.self.inside.chunk _ _ _ place _ _ c.self.invariant.0 c.self.invariant.1 chunk

  fine : c.args.self.now.bad ≡ false
  fine = sym (ap (λ (s : ReaderSeen). s.bad) c.self.view_is) ∙ not_bad

  -- where the reader stands then
  abbrev later : Position
  later = record place {
    at = place.at + taken;
    blocks = place.blocks + 1;
    records = place.records - c.min-count.result;
  }

  left_later : pieces_left c.self.inside.chunk size later c.self.inside.points.items c.self.inside.bytes.items
      ≡ drop 1 c.args.self.now.left
  left_later = plain_left c.self.inside.chunk size later _ _ chunk ∙ block_rest block

pub read_part-requires : goal.read_part-requires
read_part-requires g c =
    let k = (goal.at.read_part-requires g c).After-deref in
    known_as _ _ _ _ (sym (name g k))
    (known_then _ _ _ _ (λ file s. block_lies (block g k) file s.lie) c.requires.stands)

pub returns-clause-blocks : goal.returns-clause-blocks
returns-clause-blocks g c =
    let k = (goal.at.returns-clause-blocks g c).After-deref in
    let head = ap (λ (s : ReaderSeen). s.head.bytes) c.self.view_is in
    let now = c.args.self.now in
    let read = c.read_part.new.buffer.items in
    let e = c.in_ok-read_part.ensures in (
      read ∷ [],
      refl,
      one_lent read,
      subst (λ (b : List ℕ). AreWholeBlocks (record_length_of b) (take 1 now.left) (read ∷ [])) head
          (block_whole (block g k) read e.len),
      known_both _ _ _ _ _
          (λ file s is. block_held (block g k) file read (stands_plain now file s c.requires.plain) is)
          c.requires.stands (known_as _ _ _ _ (name g k) e.bytes),
    )

pub returns-clause-whole : goal.returns-clause-whole
returns-clause-whole g c = block_is (block g (goal.at.returns-clause-whole g c).After-deref)

pub returns-clause-moved : goal.returns-clause-moved
returns-clause-moved g c =
    let k = (goal.at.returns-clause-moved g c).After-deref in
    let r = c.self.inside in
    let number = ap (λ (s : ReaderSeen). s.next) c.self.view_is in
    let next : r.next + (r.blocks + 1) ≡ c.args.self.now.next + 1 = omega (arith, number) in
    λ i. record (c.self.view_is i) { next = next i; left = left_later g k i; lent = c.read_part.new.buffer.items }

pub returns-in_err-read_part-clause-reads : goal.returns-in_err-read_part-clause-reads
returns-in_err-read_part-clause-reads g c =
    let k = (goal.at.returns-in_err-read_part-clause-reads g c).After-deref in
    let old = (g.F.Files.seen c.args.files.now).asked in
    let new = (g.F.Files.seen c.read_part.new.files).asked in
    let reads = c.read_part.ensures.reads in
    record {
      only = reads.only;
      asked = asked_part c.args.self.now _ _ _ c.requires.plain (parts (block g k)) (first_size (block g k)) (fine g k) old new reads.asked;
    }

pub returns-clause-asked : goal.returns-clause-asked
returns-clause-asked g c =
    let k = (goal.at.returns-clause-asked g c).After-deref in
    let old = (g.F.Files.seen c.args.files.now).asked in
    let new = (g.F.Files.seen c.read_part.new.files).asked in
    let r = c.self.inside in
    asked_since _ c.args.self.now r.bad (pieces_left r.chunk (size g k) (later g k) r.points.items r.bytes.items) new _
    c.self.view_is
    (asked_block c.args.self.now c.self.inside.bad _ _ _ _ c.requires.plain (parts (block g k)) (first_size (block g k))
    (left_later g k ∙ ap (drop 1) (parts (block g k))) (fine g k) (not_bad g k) old new c.read_part.ensures.reads.asked)

pub returns-clause-reads : goal.returns-clause-reads
returns-clause-reads g c = record {
  only = c.read_part.ensures.reads.only;
  asked = omega (arith, returns-clause-asked g c);
}

pub returns-then-self-eq0-clause-ends : goal.returns-then-self-eq0-clause-ends
returns-then-self-eq0-clause-ends g c = tt

pub returns-in_err-read_part-clause-blocks : goal.returns-in_err-read_part-clause-blocks
returns-in_err-read_part-clause-blocks g c = IfOk-from_err c.from_residual.result _ c.from_residual.ensures.0

pub returns-in_err-read_part-clause-whole : goal.returns-in_err-read_part-clause-whole
returns-in_err-read_part-clause-whole g c = IfOk-from_err c.from_residual.result _ c.from_residual.ensures.0

pub returns-in_err-read_part-clause-moved : goal.returns-in_err-read_part-clause-moved
returns-in_err-read_part-clause-moved g c = IfOk-from_err c.from_residual.result _ c.from_residual.ensures.0

pub returns-in_err-read_part-clause-calm : goal.returns-in_err-read_part-clause-calm
returns-in_err-read_part-clause-calm g c = IfOk-from_err c.from_residual.result _ c.from_residual.ensures.0

pub returns-in_err-read_part-clause-asked : goal.returns-in_err-read_part-clause-asked
returns-in_err-read_part-clause-asked g c = IfOk-from_err c.from_residual.result _ c.from_residual.ensures.0

pub returns-clause-ends : goal.returns-clause-ends
returns-clause-ends g c = tt

pub returns-in_err-read_part-clause-ends : goal.returns-in_err-read_part-clause-ends
returns-in_err-read_part-clause-ends g c =
    at_exit c.from_residual.result c.in_err-read_part.field-0.0
    (FailsReading (g.F.Files.seen c.args.files.now) (g.F.Files.seen c.read_part.new.files))
    c.from_residual.ensures.1 c.in_err-read_part.ensures.ends

pub returns-then-self-eq0-clause-reads : goal.returns-then-self-eq0-clause-reads
returns-then-self-eq0-clause-reads g c = reads-refl _ (g.F.Files.seen c.args.files.now)

pub returns-then-self-eq0-clause-calm : goal.returns-then-self-eq0-clause-calm
returns-then-self-eq0-clause-calm g c = calm-refl (g.F.Files.seen c.args.files.now)

pub returns-clause-calm : goal.returns-clause-calm
returns-clause-calm g c = c.in_ok-read_part.ensures.calm
