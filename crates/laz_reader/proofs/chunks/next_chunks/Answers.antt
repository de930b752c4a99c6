use Rattle.laz_reader.specs.Reading.{EndsReading}
use Rattle.laz_reader.proofs.Exits.{at_exit, fails_after, reads-refl}
use Rattle.std.proofs.lemmas.Result.{IfOk-from_err}
use Rattle.std.proofs.Common.{rules, ◌≡◌, ⊎_elim, ◌<◌, ◌≤◌, ◌==◌, ◌*◌, ◌∙◌, false, min, refl, sym, ap, subst, length, ℕ}
use Rattle.std.proofs.Common.{List, [], take, get_or, arith}
use Rattle.std.proofs.lemmas.Bool.{cases_lt}
use Rattle.std.proofs.lemmas.Bool.Decides.{nat_tests}
use Rattle.std.proofs.lemmas.Grind.{common_steps}
use Rattle.std.proofs.lemmas.List.{get_or-take, length-take-le}
use Rattle.las_header.specs.declared.refusal.Refusal.TheVariants.{BadChunk}
use Rattle.las_outside.proofs.Public.{reads-more, calm-refl}
use Rattle.laz_chunk.specs.Layouts.{layout, record_length}
use Rattle.laz_reader.specs.Unpacking.{HoldsNone}
use Rattle.laz_forms.proofs.Public.{known_then, ok_no_fault}
use Rattle.laz_reader.proofs.Heads.{same_cause, never_refused}
use Rattle.laz_reader.specs.Asking.{sizes_asked}
use Rattle.laz_reader.proofs.Asking.{may_asked, sum_front, sum_take}
use Rattle.laz_reader.proofs.BatchAnswers.{cut_short, front_lies, front_none, front_only}
use Rattle.laz_reader.proofs.chunks.next_chunks.Goals as goal

pub work_chunks-requires-clause-run : goal.work_chunks-requires-clause-run
work_chunks-requires-clause-run g c κs within =
    let run = c.requires.run in
    let points = c.args.run.now.points.now in
    let bytes = c.args.run.now.bytes.now in
    let batch = c.batch_of-batch.result in
    let few : batch ≤ length points = omega (arith, c.batch_of-batch.ensures.within) in
    record {
      same = length-take-le batch points few ∙ sym (length-take-le batch bytes (omega (arith, few, run.same)));
      near = omega (arith, run.near, sum_front batch bytes);
      lie = known_then _ _ _ _ (λ file lie. front_lies file c.args.run.now.place points bytes batch lie) run.lie;
    }

pub work_chunks-requires-clause-some : goal.work_chunks-requires-clause-some
work_chunks-requires-clause-some g c = grind (arith, common_steps)

pub work_chunks-requires-clause-crew : goal.work_chunks-requires-clause-crew
work_chunks-requires-clause-crew g c = grind (arith, common_steps)

pub returns-then-is_empty : goal.returns-then-is_empty
returns-then-is_empty g c =
    record {
      within = search rules;
      end = search rules;
      blocks = record {
        blocks = [];
        count = refl;
        in_rooms = record { once = λ k lt. absurd (omega arith); answers = λ k lt. absurd (omega arith) };
        lengths = λ k lt. absurd (omega arith);
        only = known_then _ _ _ _ (λ file lie. λ k d lt. absurd (omega arith)) c.requires.run.lie;
      };
      cut = search rules;
      bad = λ cause is. ok_no_fault _ _ is;
      hands = refl;
      rooms = refl;
      spaces = c.requires.crew.spaces;
      reads = reads-refl _ (g.F.Files.seen c.args.files.now);
      calm = calm-refl (g.F.Files.seen c.args.files.now);
      ends = tt;
    }

pub returns-then-batch-eq0 : goal.returns-then-batch-eq0
returns-then-batch-eq0 g c =
    record {
      within = tt;
      end = tt;
      blocks = tt;
      cut = tt;
      bad = λ cause is.
          let l = layout c.args.job.now in
          let counts = c.args.run.now.points.now in
          let sizes = c.args.run.now.bytes.now in
          let none : (length counts == 0) ≡ false = sym c.is_empty.ensures ∙ c.if-is_empty.false in
          let some : 0 < length counts = grind (arith, nat_tests) in
          let cut =
          subst (λ (n : ℕ). n < min (length c.args.inputs.now) (length counts) → (bytes : List ℕ) →
          length bytes ≡ get_or sizes n 0 → HoldsNone l (get_or counts n 0) bytes) c.if-batch-eq0.true
          c.batch_of-batch.ensures.cut (omega (arith, some, c.requires.inputs, c.requires.crew.hands)) in (
            sym (same_cause (BadChunk c.args.run.now.number) cause is),
            some,
            known_then _ _ _ _ (λ file lie. cut_short l file c.args.run.now.place counts sizes 0 c.requires.run.same
                some lie cut) c.requires.run.lie,
          );
      hands = refl;
      rooms = refl;
      spaces = c.requires.crew.spaces;
      reads = reads-refl _ (g.F.Files.seen c.args.files.now);
      calm = tt;
      ends = refl;
    }

pub returns-in_err-good : goal.returns-in_err-good
returns-in_err-good g c =
    record {
      within = IfOk-from_err c.from_residual.result _ c.from_residual.ensures.0;
      end = IfOk-from_err c.from_residual.result _ c.from_residual.ensures.0;
      blocks = IfOk-from_err c.from_residual.result _ c.from_residual.ensures.0;
      cut = IfOk-from_err c.from_residual.result _ c.from_residual.ensures.0;
      bad = λ cause is.
          never_refused (g.F.Files.seen c.args.files.now) (g.F.Files.seen c.work_chunks.new.files)
          c.from_residual.result c.in_err-good.field-0.0 cause c.from_residual.ensures.1 c.in_err-good.ensures.ends
          is;
      hands = c.work_chunks.ensures.hands;
      rooms = c.work_chunks.ensures.rooms;
      spaces = c.work_chunks.ensures.spaces;
      reads = let most = min (2 * length c.args.crew.now) (length c.args.run.now.points.now) in
          let fits : c.batch_of-batch.result ≤ most =
          omega (arith, c.batch_of-batch.ensures.within, c.requires.inputs) in
          let counts = c.args.run.now.points.now in
          let sizes = c.args.run.now.bytes.now in
          let l = layout c.args.job.now in
          let may = may_asked l c.batch_of-batch.result counts sizes (omega (arith, c.batch_of-batch.ensures.within))
          c.requires.run.same c.batch_of-batch.ensures.may in
          reads-more _ _ _ _ (omega (arith, may, sum_take c.batch_of-batch.result most (sizes_asked l counts sizes) fits))
          c.work_chunks.ensures.reads;
      calm = IfOk-from_err c.from_residual.result _ c.from_residual.ensures.0;
      ends = let old = g.F.Files.seen c.args.files.now in
          let new = g.F.Files.seen c.work_chunks.new.files in
          at_exit c.from_residual.result c.in_err-good.field-0.0 (EndsReading ⊥ old new) c.from_residual.ensures.1
          (fails_after ⊥ old old new c.in_err-good.field-0.0 refl c.in_err-good.ensures.ends);
    }

pub returns-then-good-eq0 : goal.returns-then-good-eq0
returns-then-good-eq0 g c =
    record {
      within = tt;
      end = tt;
      blocks = tt;
      cut = tt;
      bad = λ cause is.
          let l = layout c.args.job.now in
          let counts = c.args.run.now.points.now in
          let sizes = c.args.run.now.bytes.now in
          let batch = c.batch_of-batch.result in
          let long : length (take batch counts) ≡ batch =
          length-take-le batch counts (omega (arith, c.batch_of-batch.ensures.within)) in
          let zero = c.if-good-eq0.true in
          let some : 0 < batch = omega (arith, c.if-batch-eq0.false) in
          let lt : c.in_ok-good.good < batch = omega (arith, zero, some) in (
            sym (same_cause (BadChunk c.args.run.now.number) cause is),
            omega (arith, some, c.batch_of-batch.ensures.within),
            known_then _ _ _ _ (λ file none. λ d. front_none l file c.args.run.now.place counts sizes batch
                c.in_ok-good.good 0 d zero lt (none d)) (c.in_ok-good.ensures.cut (omega (arith, lt, long))),
          );
      hands = c.work_chunks.ensures.hands;
      rooms = c.work_chunks.ensures.rooms;
      spaces = c.work_chunks.ensures.spaces;
      reads = let most = min (2 * length c.args.crew.now) (length c.args.run.now.points.now) in
          let fits : c.batch_of-batch.result ≤ most =
          omega (arith, c.batch_of-batch.ensures.within, c.requires.inputs) in
          let counts = c.args.run.now.points.now in
          let sizes = c.args.run.now.bytes.now in
          let l = layout c.args.job.now in
          let may = may_asked l c.batch_of-batch.result counts sizes (omega (arith, c.batch_of-batch.ensures.within))
          c.requires.run.same c.batch_of-batch.ensures.may in
          reads-more _ _ _ _ (omega (arith, may, sum_take c.batch_of-batch.result most (sizes_asked l counts sizes) fits))
          c.work_chunks.ensures.reads;
      calm = tt;
      ends = c.in_ok-good.ensures.calm.reads;
    }

pub returns : goal.returns
returns g c =
    record {
      within = search rules;
      end = search rules;
      blocks = let l = layout c.args.job.now in
          let counts = c.args.run.now.points.now in
          let sizes = c.args.run.now.bytes.now in
          let batch = c.batch_of-batch.result in
          let long : length (take batch counts) ≡ batch =
          length-take-le batch counts (omega (arith, c.batch_of-batch.ensures.within)) in
          let b = c.in_ok-good.ensures.blocks in
          let within : c.in_ok-good.good ≤ batch = omega (arith, long, c.in_ok-good.ensures.within) in
          record {
            blocks = b.blocks;
            count = b.count;
            in_rooms = b.in_rooms;
            lengths =
                λ k lt. b.lengths k lt ∙ ap (λ (n : ℕ). record_length l * n)
                (get_or-take batch counts k 0 (omega (arith, lt, within)));
            only =
                known_then _ _ _ _ (λ file are. λ k d lt. front_only l file c.args.run.now.place counts sizes batch k d
                (get_or b.blocks k []) (omega (arith, lt, within)) (are k d lt)) b.only;
          };
      cut = λ lt.
          let l = layout c.args.job.now in
          let counts = c.args.run.now.points.now in
          let sizes = c.args.run.now.bytes.now in
          let batch = c.batch_of-batch.result in
          let good = c.in_ok-good.good in
          let long : length (take batch counts) ≡ batch =
          length-take-le batch counts (omega (arith, c.batch_of-batch.ensures.within)) in
          let most : good ≤ batch = omega (arith, long, c.in_ok-good.ensures.within) in
          ⊎_elim
          (λ (below : good < batch). known_then _ _ _ _
          (λ file none. λ d. front_none l file c.args.run.now.place counts sizes batch good good d refl below
          (none d)) (c.in_ok-good.ensures.cut (omega (arith, below, long))))
          (λ (ge : batch ≤ good).
          let same : batch ≡ good = omega (arith, most, ge) in
          let cut =
          subst (λ (n : ℕ). n < min (length c.args.inputs.now) (length counts) → (bytes : List ℕ) →
          length bytes ≡ get_or sizes n 0 → HoldsNone l (get_or counts n 0) bytes) same
          c.batch_of-batch.ensures.cut (omega (arith, lt, c.requires.inputs)) in
          known_then _ _ _ _ (λ file lie. cut_short l file c.args.run.now.place counts sizes good c.requires.run.same
          (omega (arith, lt)) lie cut) c.requires.run.lie)
          (cases_lt good batch);
      bad = λ cause is. ok_no_fault _ _ is;
      hands = c.work_chunks.ensures.hands;
      rooms = c.work_chunks.ensures.rooms;
      spaces = c.work_chunks.ensures.spaces;
      reads = let most = min (2 * length c.args.crew.now) (length c.args.run.now.points.now) in
          let fits : c.batch_of-batch.result ≤ most =
          omega (arith, c.batch_of-batch.ensures.within, c.requires.inputs) in
          let counts = c.args.run.now.points.now in
          let sizes = c.args.run.now.bytes.now in
          let l = layout c.args.job.now in
          let may = may_asked l c.batch_of-batch.result counts sizes (omega (arith, c.batch_of-batch.ensures.within))
          c.requires.run.same c.batch_of-batch.ensures.may in
          reads-more _ _ _ _ (omega (arith, may, sum_take c.batch_of-batch.result most (sizes_asked l counts sizes) fits))
          c.work_chunks.ensures.reads;
      calm = c.in_ok-good.ensures.calm;
      ends = tt;
    }
