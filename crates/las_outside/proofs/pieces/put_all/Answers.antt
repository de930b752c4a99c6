use Rattle.std.proofs.Common.{inr, List, ℕ, [], Bor, arith, ◌∙◌}
use Rattle.las_outside.proofs.Rooms.{on_err}
use Rattle.las_outside.proofs.Texts.{put_more, cut_off}
use Rattle.las_outside.proofs.pieces.put_all.Goals as goal

-- what stands in for a piece past the last one
no_piece : Bor (List ℕ)
no_piece = record { ref_ptr = (0, 0); now = [] }

pub loop-piece-preserved : goal.loop-piece-preserved
unfolding no_piece
loop-piece-preserved g c =
    let l = c.loop-piece in
    record {
      put = put_more c.args.pieces.now l.piece-index no_piece _ _ _ c.loop-piece-test.true l.invariant.put c.in_ok-put.ensures.ok;
      later = record {
        known = c.in_ok-put.ensures.later.known ∙ l.invariant.later.known;
        faults = omega (arith, l.invariant.later.faults, c.in_ok-put.ensures.later.faults);
      };
    }

pub returns-in_err-put-clause-err : goal.returns-in_err-put-clause-err
unfolding no_piece
returns-in_err-put-clause-err g c =
    let l = c.loop-piece in
    let h = c.in_err-put.ensures in
    on_err c.from_residual.result (cut_off c.args.pieces.now l.piece-index h.err.0 no_piece _ _ _ c.loop-piece-test.true l.invariant.put h.err.1)

pub returns-in_err-put-clause-puts : goal.returns-in_err-put-clause-puts
unfolding no_piece
returns-in_err-put-clause-puts g c =
    let l = c.loop-piece in
    let h = c.in_err-put.ensures in
    inr (cut_off c.args.pieces.now l.piece-index h.err.0 no_piece _ _ _ c.loop-piece-test.true l.invariant.put h.err.1)
