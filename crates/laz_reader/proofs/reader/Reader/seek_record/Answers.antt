use Rattle.std.proofs.Common.{◌≡◌, ◌+◌, ◌-◌, ◌*◌, ◌∙◌, refl, ℕ, List, length, take, drop, sym, ap, subst, arith}
use Rattle.std.specs.Option.{is_some}
use Rattle.las_header.specs.Fields.{points_of, record_length_of}
use Rattle.las_header.specs.Heads.{IsHead}
use Rattle.laz_workers.specs.Rooms.{HandSeen}
use Rattle.laz_chunk.specs.Layouts.{Format}
use Rattle.laz_forms.specs.Pieces.{Piece, pieces_from}
use Rattle.laz_forms.specs.Ranges.{Range, first_if, parts_if}
use Rattle.laz_reader.specs.Keeping.{IsSought, cuts_from}
use Rattle.laz_reader.specs.Reading.{AgreesWithHead, AreListed, IsCrewOf, IsInPlace, Position, ReaderSeen, StandsFor, with_range}
use Rattle.laz_reader.proofs.Sought.{no_blocks, no_cuts, no_first, no_next, not_bad, packed_sought, plain_placed, plain_sought, sought_agrees, sought_stands}
use Rattle.laz_reader.proofs.reader.Reader.seek_record.Goals.{After-bytes, After-from}
use Rattle.laz_reader.proofs.reader.Reader.seek_record.Goals as goal

-- what stands when the head's bytes are known
module _ (c : After-bytes) where
  abbrev now : ReaderSeen
  now = c.args.self.now

  abbrev range : Range
  range = record { start = c.args.start; stop = c.args.stop }

  abbrev place : Position
  place =
      let r = c.self.inside in
      record {
        at = r.place;
        blocks = r.blocks;
        records = r.records;
        ends = r.ends;
        next = r.next;
        batch = r.batch;
        bad = r.bad;
      }

  listed : AreListed c.self.inside.chunk (length c.self.inside.head.bytes) (points_of c.self.inside.head.bytes)
      c.self.inside.points.items c.self.inside.bytes.items
  listed = c.self.invariant.0

  placed : IsInPlace (record_length_of c.self.inside.head.bytes) place c.self.inside.points.items
      c.self.inside.bytes.items
  placed = c.self.invariant.1

  unread : place.next + place.blocks ≡ place.ends.first
  unread =
      ap (λ (s : ReaderSeen). s.next) c.self.view_is ∙ c.requires.unread
      ∙ sym (ap (λ (s : ReaderSeen). s.first) c.self.view_is)

  -- what a reader is to read of the range, and the number of the first of it
  abbrev left_in : ReaderSeen → List Piece
  left_in s = parts_if (is_some s.chunk) s.head.bytes (length s.head.bytes) range s.pieces

  abbrev first_in : ReaderSeen → ℕ
  first_in s = first_if (is_some s.chunk) range s.pieces

  stands : (new : ReaderSeen) → new ≡ with_range now range → (file : List ℕ) → StandsFor now file
      → StandsFor new file
  stands new is file s =
      let head = subst (λ (x : ReaderSeen). IsHead x.head.bytes) c.self.view_is c.bytes.ensures.head in
      let fine = sym (ap (λ (x : ReaderSeen). x.bad) c.self.view_is) ∙ not_bad _ _ _ _ _ _ _ listed placed unread in
      subst (λ (x : ReaderSeen). StandsFor x file) (sym is)
      (sought_stands now file s range head fine c.requires.order c.requires.within)

  agrees : (new : ReaderSeen) → new ≡ with_range now range → AgreesWithHead now → AgreesWithHead new
  agrees new is a =
      let v = c.self.view_is in
      subst AgreesWithHead (sym is)
      (sought_agrees now range _ _ _ (sym (ap (λ (x : ReaderSeen). x.pieces) v)) listed.same
      (λ n some. listed.all n (ap (λ (x : ReaderSeen). x.chunk) v ∙ some)
      ∙ ap (λ (x : ReaderSeen). points_of x.head.bytes) v) c.requires.order c.requires.within a)

  crewed : (new : ReaderSeen) → new ≡ with_range now range → (crew : List (HandSeen Format)) → IsCrewOf now crew
      → IsCrewOf new crew
  crewed new is crew k = subst (λ (x : ReaderSeen). IsCrewOf x crew) (sym is) (record {
    hands = k.hands;
    buffers = k.buffers;
    spaces = k.spaces;
    rooms = k.rooms;
  })

-- where the first record of the range begins in a plain file
module _ (c : After-from) where
  abbrev begin : ℕ
  begin = length c.bytes.result.now + c.from-size.result * c.from.result

  begin_is : begin ≡ length c.self.inside.head.bytes + record_length_of c.self.inside.head.bytes * c.args.start
  begin_is = λ i. length (c.bytes.ensures.bytes i)
      + (c.from-size.ensures ∙ c.record_length.ensures.field) i * c.from.ensures i

pub invariant_of-self : goal.invariant_of-self
invariant_of-self c =
    let k = (goal.at.invariant_of-self c).After-bytes in
    let r = c.self.inside in
    let h = c.bytes.ensures.head in (
      listed k,
      subst (λ (n : ℕ). IsInPlace (record_length_of r.head.bytes) (record (place k) {
        at = n;
        records = c.args.stop - c.args.start;
      }) r.points.items r.bytes.items) (sym (begin_is (goal.at.invariant_of-self c).After-from))
          (plain_placed _ _ _ _ _ _ _ (listed k) (placed k) (unread k) c.in-None.is c.args.start c.args.stop
          c.requires.order (omega arith) (omega (arith, h.extra, h.format)) (omega (arith, h.small))),
    )

pub returns-in-None-clause-sought : goal.returns-in-None-clause-sought
returns-in-None-clause-sought c =
    let k = (goal.at.returns-in-None-clause-sought c).After-bytes in
    let r = c.self.inside in
    let v = c.self.view_is in
    let offset = length r.head.bytes in
    let f = (goal.at.returns-in-None-clause-sought c).After-from in
    let after : Position = record (place k) { at = begin f; records = c.args.stop - c.args.start } in
    let s = plain_sought r.chunk r.head.bytes offset (range k) after r.points.items r.bytes.items
    (pieces_from (offset + 8) r.points.items r.bytes.items) c.in-None.is (begin_is f) refl in
    let left = s.0 ∙ ap (left_in k) v in
    let number = s.1 ∙ ap (first_in k) v in
    let first = no_first _ _ _ _ _ _ _ (listed k) (placed k) (unread k) c.in-None.is ∙ number in
    let next = no_next _ _ _ _ _ _ _ (listed k) (placed k) (unread k) c.in-None.is ∙ number in
    λ i. record (v i) { range = range k; first = first i; next = next i; left = left i }

pub returns-in-None-clause-stands : goal.returns-in-None-clause-stands
returns-in-None-clause-stands c =
    stands (goal.at.returns-in-None-clause-stands c).After-bytes _ (returns-in-None-clause-sought c)

pub returns-in-None-clause-whole : goal.returns-in-None-clause-whole
returns-in-None-clause-whole c =
    agrees (goal.at.returns-in-None-clause-whole c).After-bytes _ (returns-in-None-clause-sought c)

pub returns-in-None-clause-crew : goal.returns-in-None-clause-crew
returns-in-None-clause-crew c =
    crewed (goal.at.returns-in-None-clause-crew c).After-bytes _ (returns-in-None-clause-sought c)

pub returns-in-Some-clause-sought : goal.returns-in-Some-clause-sought
returns-in-Some-clause-sought c =
    let k = (goal.at.returns-in-Some-clause-sought c).After-bytes in
    let r = c.self.inside in
    let v = c.self.view_is in
    let offset = length r.head.bytes in
    let counts = r.points.items in
    let sizes = r.bytes.items in
    let found = c.seek-sought.result in
    let front = length c.bytes.result.now + 8 in
    let front_is = ap (λ (b : List ℕ). length b + 8) c.bytes.ensures.bytes in
    let sought = subst (λ (n : ℕ). IsSought (range k) n counts sizes found.ends found.place) front_is
    (subst (λ (xs : List ℕ). IsSought (range k) front xs sizes found.ends found.place) c.deref.ensures.value
    (subst (λ (xs : List ℕ). IsSought (range k) front c.deref.result.now xs found.ends found.place)
    c.deref-in-Some.ensures.value c.seek-sought.ensures)) in
    let after : Position = record (place k) {
      at = found.place;
      records = 0;
      ends = found.ends;
      next = found.ends.first;
      batch = found.ends.first;
    } in
    let s = packed_sought r.chunk r.head.bytes (record_length_of r.head.bytes) offset (range k) after counts sizes
    (pieces_from (offset + 8) counts sizes) c.in-Some.field-0 c.in-Some.is sought refl refl in
    let left = s.0 ∙ ap (left_in k) v in
    let first = s.1 ∙ ap (first_in k) v in
    let blocks = no_blocks _ _ _ _ _ _ _ (listed k) (placed k) (unread k) in
    let next : found.ends.first + r.blocks ≡ first_in k (now k) = omega (arith, first, blocks) in
    let none : found.ends.first - found.ends.first ≡ 0 = omega arith in
    let cuts = ap (λ (n : ℕ). cuts_from found.ends found.ends.first (take n (drop found.ends.first counts))) none
    ∙ sym (no_cuts _ _ _ _ _ _ _ (listed k) (placed k) (unread k)) ∙ ap (λ (x : ReaderSeen). x.cuts) v in
    λ i. record (v i) { range = range k; first = first i; next = next i; left = left i; cuts = cuts i }

pub returns-in-Some-clause-stands : goal.returns-in-Some-clause-stands
returns-in-Some-clause-stands c =
    stands (goal.at.returns-in-Some-clause-stands c).After-bytes _ (returns-in-Some-clause-sought c)

pub returns-in-Some-clause-whole : goal.returns-in-Some-clause-whole
returns-in-Some-clause-whole c =
    agrees (goal.at.returns-in-Some-clause-whole c).After-bytes _ (returns-in-Some-clause-sought c)

pub returns-in-Some-clause-crew : goal.returns-in-Some-clause-crew
returns-in-Some-clause-crew c =
    crewed (goal.at.returns-in-Some-clause-crew c).After-bytes _ (returns-in-Some-clause-sought c)
