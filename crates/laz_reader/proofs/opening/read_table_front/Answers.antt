use Rattle.las_outside.proofs.Public.{calm-trans, only_reads-trans}
use Rattle.laz_reader.proofs.Exits.{at_exit, fails_later}
use Rattle.std.proofs.lemmas.Result.{IfOk-from_err}
use Rattle.std.proofs.Common.{rules, ◌-◌, refl, drop, sym, ◌∙◌, ap, List, ℕ, length, take, arith}
use Rattle.laz_reader.specs.Reading.{table_size, FailsReading}
use Rattle.laz_forms.proofs.Public.{known_at, known_three}
use Rattle.laz_reader.proofs.OpeningAsks.{part_asks}
use Rattle.laz_reader.proofs.TableFront.{front_of_table, short_front}
use Rattle.laz_reader.proofs.opening.read_table_front.Goals as goal

pub returns-in_err-read_on : goal.returns-in_err-read_on
returns-in_err-read_on g c =
    record {
      bytes = IfOk-from_err c.from_residual.result _ c.from_residual.ensures.0;
      reads = c.read_on.ensures.reads.only;
      calm = IfOk-from_err c.from_residual.result _ c.from_residual.ensures.0;
      ends =
          at_exit c.from_residual.result c.in_err-read_on.field-0.0
          (FailsReading (g.F.Files.seen c.args.files.now) (g.F.Files.seen c.read_on.new.files))
          c.from_residual.ensures.1
          c.in_err-read_on.ensures.ends;
      asked = IfOk-from_err c.from_residual.result _ c.from_residual.ensures.0;
      asked_of = search rules;
      short = IfOk-from_err c.from_residual.result _ c.from_residual.ensures.0;
    }

pub returns-in_err-read_on-2 : goal.returns-in_err-read_on-2
returns-in_err-read_on-2 g c =
    record {
      bytes = IfOk-from_err c.from_residual-in_err-read_on-2.result _ c.from_residual-in_err-read_on-2.ensures.0;
      reads = only_reads-trans _ _ _ c.read_on.ensures.reads.only c.read_on-2.ensures.reads.only;
      calm = IfOk-from_err c.from_residual-in_err-read_on-2.result _ c.from_residual-in_err-read_on-2.ensures.0;
      ends = let old = g.F.Files.seen c.args.files.now in
          let mid = g.F.Files.seen c.read_on.new.files in
          let new = g.F.Files.seen c.read_on-2.new.files in
          at_exit c.from_residual-in_err-read_on-2.result c.in_err-read_on-2.field-0.0 (FailsReading old new)
          c.from_residual-in_err-read_on-2.ensures.1
          (fails_later old mid new c.in_err-read_on-2.field-0.0 c.in_ok-read_on.ensures.calm.reads
          c.in_err-read_on-2.ensures.ends);
      asked = IfOk-from_err c.from_residual-in_err-read_on-2.result _ c.from_residual-in_err-read_on-2.ensures.0;
      asked_of = let first = c.read_on.new.bytes.items in
          let one = c.in_ok-read_on.ensures in
          let two = c.in_err-read_on-2.ensures in
          part_asks (g.F.Files.seen c.args.files.now).held c.args.name.now _ first c.args.place.start c.args.place.end _
          _ c.table_size-most.result (g.F.Files.seen c.args.files.now).asked
          (g.F.Files.seen c.read_on-2.new.files).asked
          c.requires.order c.requires.within c.new-bytes.ensures.items c.new-bytes.ensures.len c.min.ensures one.bytes
          (λ long. c.table_size-most.ensures.size
          (omega (arith, long, ap (λ (l : List ℕ). length l) c.deref.ensures.value)) ∙
          ap (λ (l : List ℕ). table_size l) c.deref.ensures.value)
          (omega (
            arith,
            one.reads.asked,
            two.reads.asked,
            one.len,
            c.min.ensures,
            c.min-2.ensures,
            c.new-bytes.ensures.len,
            c.table_size-most.ensures.bounds,
          ));
      short = IfOk-from_err c.from_residual-in_err-read_on-2.result _ c.from_residual-in_err-read_on-2.ensures.0;
    }

pub returns : goal.returns
returns g c =
    record {
      bytes = let first = c.read_on.new.bytes.items in
          let bytes = c.read_on-2.new.bytes.items in
          let start = c.args.place.start in
          let end = c.args.place.end in
          let most = c.table_size-most.result in
          let held1 = c.in_ok-read_on.ensures.reads.only.held in
          known_three _ _ _ _ _ _ (λ file within one two.
          let first_is =
          one (c.new-bytes.ensures.items ∙ ap (λ (n : ℕ). take n (drop start file)) (sym c.new-bytes.ensures.len)) ∙
          ap (λ (n : ℕ). take n (drop start file)) c.min.ensures in
          let first_known =
          first_is ∙ ap (λ (n : ℕ). take n (drop start file)) (sym (c.in_ok-read_on.ensures.len ∙ c.min.ensures)) in
          front_of_table file first bytes start end (end - start) most c.requires.order within refl first_is
          c.table_size-most.ensures.bounds.0
          (λ long. c.table_size-most.ensures.size
          (omega (arith, long, ap (λ (l : List ℕ). length l) c.deref.ensures.value)) ∙
          ap (λ (l : List ℕ). table_size l) c.deref.ensures.value)
          (two first_known ∙ ap (λ (n : ℕ). take n (drop start file)) c.min-2.ensures)) c.requires.within
          c.in_ok-read_on.ensures.bytes (known_at _ _ _ _ held1 c.in_ok-read_on-2.ensures.bytes);
      reads = only_reads-trans _ _ _ c.read_on.ensures.reads.only c.read_on-2.ensures.reads.only;
      calm = calm-trans _ _ _ c.in_ok-read_on.ensures.calm c.in_ok-read_on-2.ensures.calm;
      ends = tt;
      asked = search rules;
      asked_of = let first = c.read_on.new.bytes.items in
          let one = c.in_ok-read_on.ensures in
          let two = c.in_ok-read_on-2.ensures in
          part_asks (g.F.Files.seen c.args.files.now).held c.args.name.now _ first c.args.place.start c.args.place.end _
          _ c.table_size-most.result (g.F.Files.seen c.args.files.now).asked
          (g.F.Files.seen c.read_on-2.new.files).asked
          c.requires.order c.requires.within c.new-bytes.ensures.items c.new-bytes.ensures.len c.min.ensures one.bytes
          (λ long. c.table_size-most.ensures.size
          (omega (arith, long, ap (λ (l : List ℕ). length l) c.deref.ensures.value)) ∙
          ap (λ (l : List ℕ). table_size l) c.deref.ensures.value)
          (omega (
            arith,
            one.reads.asked,
            two.reads.asked,
            one.len,
            c.min.ensures,
            c.min-2.ensures,
            c.new-bytes.ensures.len,
            c.table_size-most.ensures.bounds,
          ));
      short = let first = c.read_on.new.bytes.items in
          let bytes = c.read_on-2.new.bytes.items in
          let one = c.in_ok-read_on.ensures in
          let two = c.in_ok-read_on-2.ensures in
          short_front first bytes (c.args.place.end - c.args.place.start) c.table_size-most.result
          (omega (arith, c.read_on.new.bytes.ok.0, one.len, c.min.ensures))
          (omega (arith, c.read_on-2.new.bytes.ok.0, two.len, c.min-2.ensures))
          (ap (λ (n : ℕ). take n bytes) (sym c.read_on.new.bytes.ok.0) ∙ two.front)
          (λ long. c.table_size-most.ensures.size
          (omega (arith, long, ap (λ (l : List ℕ). length l) c.deref.ensures.value)) ∙
          ap (λ (l : List ℕ). table_size l) c.deref.ensures.value);
    }
