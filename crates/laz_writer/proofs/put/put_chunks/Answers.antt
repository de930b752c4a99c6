use Rattle.std.proofs.Common.{◌≡◌, ◌<◌, ℕ, List, [], ◌∷◌, ◌++◌, length, take, map, get_or, sym, ◌∙◌, ap, subst, append_assoc, arith}
use Rattle.std.proofs.lemmas.List.{append-nil}
use Rattle.las_outside.specs.Outside.{Outside, with_bytes}
use Rattle.las_outside.proofs.Public.{only_writes-trans}
use Rattle.laz_chunk.specs.Chunks.{chunk_bytes}
use Rattle.laz_chunk.specs.Layouts.{layout}
use Rattle.laz_workers.specs.Rooms.{rooms_of}
use Rattle.laz_workers.specs.Work.{texts}
use Rattle.laz_workers.proofs.Public.{answer_there, length-texts}
use Rattle.laz_writer.specs.Writing.{IsChunk, Stops, all_chunks, chunks}
use Rattle.laz_forms.proofs.Public.{if_err, in_part, is_lent, joined_more, lent_is, lent_small, sizes_more}
use Rattle.laz_writer.proofs.put.put_chunks.Goals as goal

pub result-requires : goal.result-requires
result-requires g c = c.requires.stand c.loop-i.i c.loop-i-test.true

pub unreachable-requires : goal.unreachable-requires
unreachable-requires g c =
    let inputs = texts c.args.blocks.now in
    let room = c.result.ensures.0 in
    is_lent c.result.result _ (chunk_bytes (layout c.args.job) (get_or inputs c.loop-i.i [])) c.result.ensures.2 (answer_there (IsChunk c.args.job) inputs (rooms_of c.args.crew.now) c.loop-i.i room c.result.ensures.1 c.requires.answers) c.in_default.is

pub overflow_cast-chunk : goal.overflow_cast-chunk
overflow_cast-chunk g c = omega (arith, lent_small (rooms_of c.args.crew.now) c.loop-i.i c.result.ensures.0 c.result.result c.in-Some.chunk c.result.ensures.1 c.requires.small c.result.ensures.2 c.in-Some.is)

pub returns-in-Err-clause-stopped : goal.returns-in-Err-clause-stopped
returns-in-Err-clause-stopped g c before text was =
    let inputs = texts c.args.blocks.now in
    let f = λ (b : List ℕ). chunk_bytes (layout c.args.job) b in
    let within : c.loop-i.i < length inputs = omega (arith, length-texts c.args.blocks.now, c.loop-i-test.true) in
    let p = in_part f inputs c.loop-i.i 0 [] within in
    (p.0, c.loop-i.invariant.added before text was ∙ ap (λ (t : List ℕ). with_bytes before c.args.name.now (text ++ t)) (sym (append-nil (all_chunks c.args.job (take c.loop-i.i inputs))) ∙ p.1))

pub put-requires : goal.put-requires
put-requires g c =
    let h = c.requires.held in
    record { held = (h.0, h.1 ++ all_chunks c.args.job (take c.loop-i.i (texts c.args.blocks.now)), c.loop-i.invariant.added h.0 h.1 h.2) }

pub returns-in_err-put-clause-stopped : goal.returns-in_err-put-clause-stopped
returns-in_err-put-clause-stopped g c before text was =
    let name = c.args.name.now in
    let inputs = texts c.args.blocks.now in
    let f = λ (b : List ℕ). chunk_bytes (layout c.args.job) b in
    let i = c.loop-i.i in
    let within : i < length inputs = omega (arith, length-texts c.args.blocks.now, c.loop-i-test.true) in
    let done = all_chunks c.args.job (take i inputs) in
    let room = c.result.ensures.0 in
    let piece = lent_is c.result.result _ c.in-Some.chunk (f (get_or inputs i [])) c.result.ensures.2 (answer_there (IsChunk c.args.job) inputs (rooms_of c.args.crew.now) i room c.result.ensures.1 c.requires.answers) c.in-Some.is in
    let left = c.in_err-put.ensures.stopped before (text ++ done) (c.loop-i.invariant.added before text was) in
    let p = in_part f inputs i left.0 [] within in
    let made : with_bytes before name ((text ++ done) ++ take left.0 c.in-Some.chunk.now) ≡ with_bytes before name (text ++ take p.0 (all_chunks c.args.job inputs)) =
    ap (with_bytes before name) (append_assoc text done (take left.0 c.in-Some.chunk.now) ∙ ap (λ (t : List ℕ). text ++ (done ++ take left.0 t)) piece ∙ ap (λ (t : List ℕ). text ++ t) p.1) in
    if_err _ c.from_residual.result _ c.from_residual.ensures.1 (p.0, subst (λ (o : Outside). Stops c.in_err-put.field-0.0 o (g.F.Files.seen c.put.new.files)) made left.1)

pub loop-i-preserved : goal.loop-i-preserved
loop-i-preserved g c =
    let name = c.args.name.now in
    let inputs = texts c.args.blocks.now in
    let f = λ (b : List ℕ). chunk_bytes (layout c.args.job) b in
    let i = c.loop-i.i in
    let within : i < length inputs = omega (arith, length-texts c.args.blocks.now, c.loop-i-test.true) in
    let done = all_chunks c.args.job (take i inputs) in
    let room = c.result.ensures.0 in
    let piece = lent_is c.result.result _ c.in-Some.chunk (f (get_or inputs i [])) c.result.ensures.2 (answer_there (IsChunk c.args.job) inputs (rooms_of c.args.crew.now) i room c.result.ensures.1 c.requires.answers) c.in-Some.is in
    let sizes = map (λ (t : List ℕ). length t) (chunks c.args.job (take i inputs)) in
    record {
      added = λ before text was. c.in_ok-put.ensures.added before (text ++ done) (c.loop-i.invariant.added before text was)
          ∙ ap (with_bytes before name) (append_assoc text done c.in-Some.chunk.now ∙ ap (λ (t : List ℕ). text ++ (done ++ t)) piece ∙ ap (λ (t : List ℕ). text ++ t) (sym (joined_more f inputs i [] within)));
      writes = only_writes-trans _ _ _ c.loop-i.invariant.writes c.in_ok-put.ensures.writes;
      lengths = c.in-Ok.ensures.items ∙ ap (λ (t : List ℕ). t ++ length c.in-Some.chunk.now ∷ []) c.loop-i.invariant.lengths ∙ append_assoc c.args.lengths.now.items sizes (length c.in-Some.chunk.now ∷ []) ∙ ap (λ (n : ℕ). c.args.lengths.now.items ++ (sizes ++ n ∷ [])) (ap (λ (t : List ℕ). length t) piece) ∙ ap (λ (t : List ℕ). c.args.lengths.now.items ++ t) (sym (sizes_more f inputs i [] within));
    }
