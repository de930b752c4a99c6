use Rattle.std.proofs.Common.{rules, ◌≡◌, true, false, sym, ◌∙◌, ap, subst, arith, refl}
use Rattle.std.proofs.lemmas.Grind.{common_steps}
use Rattle.las_header.specs.Fields.{record_length_of}
use Rattle.las_header.specs.Heads.{HeadView}
use Rattle.laz_workers.specs.Rooms.{rooms_of}
use Rattle.laz_reader.specs.Reading.{AreCutFrom, ReaderSeen, StandsFor}
use Rattle.laz_forms.specs.Records.{IsBadPiece}
use Rattle.laz_reader.proofs.Crews.{lends_parts}
use Rattle.laz_forms.proofs.Public.{known_both, known_then, ok_no_fault}
use Rattle.laz_reader.proofs.Batches.{known_if, stands_later}
use Rattle.laz_reader.proofs.reader.Reader.next_batch.Goals as goal

pub returns-in-Ok : goal.returns-in-Ok
returns-in-Ok g c =
    record {
      blocks = search rules;
      end = grind (arith, common_steps);
      most = search rules;
      cut = search rules;
      moved = search rules;
      stands = let now = c.args.self.now in
          let new = c.next_plain.new.self in
          let moved = c.in-Ok.ensures.moved in
          known_then _ _ _ _ (λ file s. stands_later now new c.in-Ok.n now.bad now.cuts new.lent file moved
          (λ is. let never : true ≡ false = sym is ∙ sym (ap (λ (r : ReaderSeen). r.bad) moved) ∙
          c.next_plain.ensures.fine in absurd (cc)) s) c.requires.stands;
      crew = search rules;
      hands = refl;
      bad = λ cause is. ok_no_fault _ _ is;
      packed = λ cause is. ok_no_fault _ _ is;
      failed = tt;
      reads = c.next_plain.ensures.reads;
      calm = c.in-Ok.ensures.calm;
      ends = tt;
      asked = c.in-Ok.ensures.asked;
    }

pub returns-in-Err : goal.returns-in-Err
returns-in-Err g c =
    record {
      blocks = tt;
      end = tt;
      most = tt;
      cut = tt;
      moved = tt;
      stands = tt;
      crew = tt;
      hands = refl;
      bad = search rules;
      packed = search rules;
      failed = c.fail.ensures.failed;
      reads = c.next_plain.ensures.reads;
      calm = tt;
      ends = search rules;
      asked = tt;
    }

pub returns-in-Ok-next_packed : goal.returns-in-Ok-next_packed
returns-in-Ok-next_packed g c =
    record {
      blocks = let new = c.next_packed.new.self in
          let e = c.in-Ok-next_packed.ensures in
          let b = e.blocks in
          let chunk =
          ap (λ (r : ReaderSeen). r.chunk) e.moved ∙ sym (ap (λ (r : ReaderSeen). r.chunk) c.self.view_is) ∙
          c.in-Some.is in
          let cut =
          subst (λ (h : HeadView). AreCutFrom (record_length_of h.bytes) new.cuts b.2.0 b.0)
          (sym (ap (λ (r : ReaderSeen). r.head) e.moved)) b.2.2 in (
            b.0,
            b.1,
            lends_parts new.chunk _ new (rooms_of c.next_packed.new.crew) b.0 chunk (b.2.0, b.2.1, cut),
            b.3,
            b.4,
          );
      end = search rules;
      most = search rules;
      cut = search rules;
      moved = search rules;
      stands = let held = (g.F.Files.seen c.args.files.now).held in
          let now = c.args.self.now in
          let new = c.next_packed.new.self in
          let n = c.in-Ok-next_packed.n in
          let e = c.in-Ok-next_packed.ensures in
          known_both held now.name (StandsFor now) (λ file. new.bad ≡ true → IsBadPiece file now.left n) (StandsFor new)
          (λ file s known. stands_later now new n new.bad new.cuts now.lent file e.moved known s) c.requires.stands
          (known_if new.bad held now.name (StandsFor now) (λ file. IsBadPiece file now.left n) c.requires.stands
          (λ is. e.cut (e.bad_next is)));
      crew = search rules;
      hands = c.next_packed.ensures.hands;
      bad = λ cause is. ok_no_fault _ _ is;
      packed = λ cause is. ok_no_fault _ _ is;
      failed = tt;
      reads = c.next_packed.ensures.reads;
      calm = c.in-Ok-next_packed.ensures.calm;
      ends = tt;
      asked = c.in-Ok-next_packed.ensures.asked;
    }

pub returns-in-Err-next_packed : goal.returns-in-Err-next_packed
returns-in-Err-next_packed g c =
    record {
      blocks = tt;
      end = tt;
      most = tt;
      cut = tt;
      moved = tt;
      stands = tt;
      crew = tt;
      hands = c.next_packed.ensures.hands;
      bad = search rules;
      packed = search rules;
      failed = c.fail-in-Err-next_packed.ensures.failed;
      reads = c.next_packed.ensures.reads;
      calm = tt;
      ends = search rules;
      asked = tt;
    }
