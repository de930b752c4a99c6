use Rattle.laz_reader.specs.Reading.{FailsReading}
use Rattle.laz_reader.proofs.Exits.{at_exit}
use Rattle.std.proofs.lemmas.Result.{IfOk-from_err}
use Rattle.std.proofs.Common.{rules, ◌≡◌, ◌<◌, ◌≤◌, ◌∙◌, length, [], get_or, arith, refl}
use Rattle.laz_chunk.specs.Layouts.{layout}
use Rattle.laz_workers.specs.Rooms.{lengths_of, rooms_of}
use Rattle.laz_workers.specs.Work.{texts}
use Rattle.laz_workers.proofs.Public.{length-texts}
use Rattle.laz_forms.specs.Pieces.{piece_bytes, pieces_from}
use Rattle.laz_forms.proofs.Public.{known_then}
use Rattle.laz_reader.proofs.BatchAnswers.{blocks_answered, inputs_fit, length_answered, none_in_chunk, only_in_chunk, refused_there}
use Rattle.laz_reader.proofs.chunks.work_chunks.Goals as goal

pub work_batch-requires-clause-fits : goal.work_batch-requires-clause-fits
work_batch-requires-clause-fits g c κs within =
    let inputs = c.read_inputs.new.inputs in
    let count : length (texts inputs) ≡ length c.args.run.now.points.now = length-texts inputs ∙ c.read_inputs.auto.inputs ∙ c.requires.same in
    inputs_fit (layout c.args.job.now) c.args.run.now.points.now (texts inputs) (lengths_of (rooms_of c.args.crew.now)) count c.in_ok-read_inputs.ensures.shape c.requires.some c.requires.crew.rooms

pub returns-in_err-read_inputs : goal.returns-in_err-read_inputs
returns-in_err-read_inputs g c =
    record {
      within = IfOk-from_err c.from_residual.result _ c.from_residual.ensures.0;
      blocks = IfOk-from_err c.from_residual.result _ c.from_residual.ensures.0;
      cut = IfOk-from_err c.from_residual.result _ c.from_residual.ensures.0;
      hands = refl;
      rooms = refl;
      spaces = c.requires.crew.spaces;
      reads = c.read_inputs.ensures.reads;
      calm = IfOk-from_err c.from_residual.result _ c.from_residual.ensures.0;
      ends =
          at_exit c.from_residual.result c.in_err-read_inputs.field-0.0
          (FailsReading (g.F.Files.seen c.args.files.now) (g.F.Files.seen c.read_inputs.new.files))
          c.from_residual.ensures.1 c.in_err-read_inputs.ensures.ends;
    }

pub returns-in_err-work_batch : goal.returns-in_err-work_batch
returns-in_err-work_batch g c =
    record {
      within = IfOk-from_err c.from_residual-in_err-work_batch.result _ c.from_residual-in_err-work_batch.ensures.0;
      blocks = IfOk-from_err c.from_residual-in_err-work_batch.result _ c.from_residual-in_err-work_batch.ensures.0;
      cut = IfOk-from_err c.from_residual-in_err-work_batch.result _ c.from_residual-in_err-work_batch.ensures.0;
      hands = c.work_batch.ensures.hands;
      rooms = c.work_batch.ensures.lengths;
      spaces = c.work_batch.ensures.suits;
      reads = c.read_inputs.ensures.reads;
      calm = IfOk-from_err c.from_residual-in_err-work_batch.result _ c.from_residual-in_err-work_batch.ensures.0;
      ends = search rules;
    }

pub returns : goal.returns
returns g c =
    record {
      within = search rules;
      blocks = let l = layout c.args.job.now in
          let inputs = c.read_inputs.new.inputs in
          let counts = c.args.run.now.points.now in
          let n = c.good_answers.result in
          let within : n ≤ length counts =
          omega (arith, c.good_answers.ensures.within, c.read_inputs.auto.inputs, c.requires.same) in
          let b =
          blocks_answered l (texts inputs) (rooms_of c.work_batch.new.crew) c.in_ok-work_batch.ensures.answers n
          (length inputs) c.good_answers.ensures.within c.in_ok-work_batch.ensures.numbers
          c.good_answers.ensures.good in
          record {
            blocks = b.0;
            count = b.1;
            in_rooms = b.2;
            lengths =
                λ k lt. length_answered l (get_or counts k 0) (get_or (texts inputs) k []) (get_or b.0 k [])
                (c.in_ok-read_inputs.ensures.shape k (omega (arith, lt, within))) (b.3 k lt);
            only =
                known_then _ _ _ _ (λ file are. λ k d lt. let below : k < length counts = omega (arith, lt, within) in
                only_in_chunk l (get_or counts k 0) (get_or (texts inputs) k [])
                (piece_bytes file (get_or (pieces_from c.args.run.now.place counts c.args.run.now.bytes.now) k d))
                (get_or b.0 k []) (c.in_ok-read_inputs.ensures.shape k below) (are k d below) (b.3 k lt))
                c.in_ok-read_inputs.ensures.known;
          };
      cut = λ lt.
          let l = layout c.args.job.now in
          let inputs = c.read_inputs.new.inputs in
          let counts = c.args.run.now.points.now in
          let n = c.good_answers.result in
          let r = c.good_answers.ensures.bad (omega (arith, lt, c.read_inputs.auto.inputs, c.requires.same)) in
          let none =
          refused_there l (texts inputs) (rooms_of c.work_batch.new.crew) c.in_ok-work_batch.ensures.answers n r.0
          r.1 r.2 in
          known_then _ _ _ _ (λ file are. λ d. none_in_chunk l (get_or counts n 0) (get_or (texts inputs) n [])
          (piece_bytes file (get_or (pieces_from c.args.run.now.place counts c.args.run.now.bytes.now) n d))
          (c.in_ok-read_inputs.ensures.shape n lt) (are n d lt) none) c.in_ok-read_inputs.ensures.known;
      hands = c.work_batch.ensures.hands;
      rooms = c.work_batch.ensures.lengths;
      spaces = c.work_batch.ensures.suits;
      reads = c.read_inputs.ensures.reads;
      calm = c.in_ok-read_inputs.ensures.calm;
      ends = tt;
    }
