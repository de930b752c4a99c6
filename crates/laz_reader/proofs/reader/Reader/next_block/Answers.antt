use Rattle.las_outside.proofs.Public.{calm-refl}
use Rattle.laz_reader.proofs.Exits.{reads-refl}
use Rattle.std.proofs.Common.{rules, ◌≡◌, ◌<◌, ℕ, List, Err, length, take, sym, ◌∙◌, ap, subst, arith, refl}
use Rattle.std.proofs.lemmas.Grind.{common_steps}
use Rattle.las_outside.specs.Files.{WhereKnown}
use Rattle.laz_forms.specs.declared.fault.Fault.TheVariants.{Refused}
use Rattle.laz_reader.specs.Reading.{ReaderSeen, StandsFor}
use Rattle.laz_forms.specs.Records.{HoldOnly, IsBadPiece}
use Rattle.laz_forms.proofs.Public.{ok_no_fault}
use Rattle.laz_reader.specs.Turns.{file_at}
use Rattle.laz_reader.proofs.Turns.{bad_next, first_of_batch, known_same, next_of, no_more, one_block}
use Rattle.laz_reader.proofs.reader.Reader.next_block.Goals as goal

pub next_batch-requires-clause-open : goal.next_batch-requires-clause-open
next_batch-requires-clause-open g c κs within = c.requires.come.4.sound

pub next_batch-requires-clause-crew : goal.next_batch-requires-clause-crew
next_batch-requires-clause-crew g c κs within = c.requires.come.4.crew_is

pub next_batch-requires-clause-stands : goal.next_batch-requires-clause-stands
next_batch-requires-clause-stands g c κs within =
    let h = c.requires.come in
    let now = g.F.Files.seen c.args.files.now in
    let reader = c.args.self.now in
    known_same h.0 now.held reader.name (StandsFor reader) (subst (λ (name : List ℕ). file_at now.held name ≡ file_at h.0 name) (sym h.4.read.named) h.5) h.4.stands

pub returns-in-Err : goal.returns-in-Err
returns-in-Err g c =
    record {
      next = search rules;
      bad = λ held first n blocks t same cause is. let now = g.F.Files.seen c.args.files.now in
          let reader = c.args.self.now in
          let fault : c.in-Err.fault ≡ Refused cause = cc in
          let bad = c.in-Err.ensures.bad cause (ap Err fault) in
          let here = subst (λ (name : List ℕ). file_at now.held name ≡ file_at held name) (sym t.read.named) same in
          bad_next held first reader c.args.crew.now c.args.turn.now n blocks t c.if-turn.true cause bad.0
          (c.in-Err.ensures.packed cause (ap Err fault))
          (known_same now.held held reader.name (λ file. IsBadPiece file reader.left 0) (sym here) bad.2);
      failed = c.in-Err.ensures.failed;
      head = tt;
      less = tt;
      ends = c.in-Err.ensures.ends;
      reads = c.next_batch.ensures.reads;
      calm = tt;
      asked = tt;
    }

pub returns-then-count-eq0 : goal.returns-then-count-eq0
returns-then-count-eq0 g c =
    record {
      next =
          λ held first n blocks t same. no_more held first c.args.self.now c.args.crew.now c.args.turn.now n blocks t
          c.if-turn.true (c.in-Ok.ensures.end c.if-count-eq0.true);
      bad = λ held first n blocks t same cause is. ok_no_fault _ _ is;
      failed = tt;
      head = ap (λ (r : ReaderSeen). r.head) c.in-Ok.ensures.moved;
      less = λ some. absurd (cc);
      ends = tt;
      reads = c.next_batch.ensures.reads;
      calm = c.in-Ok.ensures.calm;
      asked = c.in-Ok.ensures.asked;
    }

pub returns-then-turn : goal.returns-then-turn
returns-then-turn g c =
    record {
      next = λ held first n blocks t same. let now = g.F.Files.seen c.args.files.now in
          let reader = c.args.self.now in
          let new = c.next_batch.new.self in
          let h = c.in-Ok.ensures in
          let k = c.in-Ok.count in
          let b = h.blocks in
          let here =
          subst (λ (name : List ℕ). file_at held name ≡ file_at now.held name) (sym t.read.named) (sym same) in
          let named : new.name ≡ reader.name = ap (λ (r : ReaderSeen). r.name) h.moved in
          first_of_batch held first reader c.args.crew.now c.args.turn.now n blocks t c.if-turn.true new
          c.next_batch.new.crew k b.0
          (record {
            within = omega (arith, h.most);
            whole = b.3;
            hold =
                known_same now.held held reader.name (λ file. HoldOnly file (take k reader.left) b.0) here b.4;
            moved = h.moved;
          }) b.1
          c.if-count-eq0.false b.2 (λ none. one_block reader.chunk (length c.args.crew.now) k (length reader.left) (sym
          (ap (λ (r : ReaderSeen). r.chunk) h.moved) ∙ none) h.most)
          (ap (λ (r : ReaderSeen). r.failed) h.moved ∙ t.sound) h.crew
          (subst (λ (name : List ℕ). WhereKnown held name (StandsFor new)) (sym named)
          (known_same now.held held reader.name (StandsFor new) here h.stands));
      bad = λ held first n blocks t same cause is. ok_no_fault _ _ is;
      failed = tt;
      head = ap (λ (r : ReaderSeen). r.head) c.in-Ok.ensures.moved;
      less = grind (arith, common_steps);
      ends = tt;
      reads = c.next_batch.ensures.reads;
      calm = c.in-Ok.ensures.calm;
      asked = c.in-Ok.ensures.asked;
    }

pub returns : goal.returns
returns g c =
    record {
      next =
          λ held first n blocks t same. let less : c.args.turn.now.next < c.args.turn.now.count =
          omega (arith, t.within, c.if-turn.false) in
          next_of held first c.args.self.now c.args.crew.now c.args.turn.now n blocks t less;
      bad = λ held first n blocks t same cause is. ok_no_fault _ _ is;
      failed = tt;
      head = refl;
      less = search rules;
      ends = tt;
      reads = reads-refl _ (g.F.Files.seen c.args.files.now);
      calm = calm-refl (g.F.Files.seen c.args.files.now);
      asked = search rules;
    }
