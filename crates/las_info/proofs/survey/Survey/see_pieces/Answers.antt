use Rattle.std.proofs.Common.{◌≡◌, ℕ, ◌+◌, ◌-◌, ◌*◌, ◌/◌, ◌≤◌, ◌++◌, [], length, ap, arith, refl, subst, ◌∙◌}
use Rattle.std.proofs.lemmas.Result.{on_ok_weaker}
use Rattle.las_header.proofs.Public.{left_first}
use Rattle.las_header.specs.Plain.{cut_records}
use Rattle.las_info.proofs.Cuts.{Cuts, cuts_none}
use Rattle.las_info.proofs.Pieces.{count_of, groups_all, groups_fit, none_more, piece_fits, piece_room, piece_shown, piece_taken, rest_shown, whole_of}
use Rattle.las_info.proofs.survey.Survey.see_pieces.Goals as goal

pub loop-piece-init : goal.loop-piece-init
loop-piece-init g c =
    let none : 0 ≡ c.args.each * 0 = omega arith in
    let n = length c.args.block.now / c.args.size in
    record {
      number = refl;
      left = left_first c.args.size c.args.block.now c.requires.whole ∙ ap (λ (k : ℕ). c.args.size * (n - k)) none;
      done = (
        [],
        subst (λ (k : ℕ). Cuts c.args.size n k c.args.block.now c.args.block.now []) none (cuts_none c.args.size n c.args.block.now),
        λ taps before is. none_more taps before is,
      );
    }

pub split_at-requires : goal.split_at-requires
split_at-requires g c =
    let n = length c.args.block.now / c.args.size in
    piece_fits c.args.size n (c.args.each * c.loop-piece._piece) c.args.each c.loop-piece.rest.now (groups_fit n c.args.each c.loop-piece._piece c.loop-piece-test.true) c.loop-piece.invariant.left

pub see_piece-requires-clause-whole : goal.see_piece-requires-clause-whole
see_piece-requires-clause-whole g c =
    let n = length c.args.block.now / c.args.size in
    let i = c.loop-piece._piece in
    let s = c.loop-piece.invariant.done in
    let p = piece_taken c.args.size n (c.args.each * i) c.args.each c.args.block.now c.loop-piece.rest.now c.split_at.result.0.now c.split_at.result.1.now s.0 (groups_fit n c.args.each i c.loop-piece-test.true) c.loop-piece.invariant.left c.split_at.ensures.front c.split_at.ensures.back s.1 in
    whole_of c.args.size c.args.each c.split_at.result.0.now (omega (arith, c.requires.size)) p.long

pub see_piece-requires-clause-shown : goal.see_piece-requires-clause-shown
see_piece-requires-clause-shown g c =
    let size = c.args.size in
    let each = c.args.each in
    let n = length c.args.block.now / size in
    let i = c.loop-piece._piece in
    let s = c.loop-piece.invariant.done in
    let h = c.requires.shown in
    let piece = c.split_at.result.0.now in
    let fit = groups_fit n each i c.loop-piece-test.true in
    let p = piece_taken size n (each * i) each c.args.block.now c.loop-piece.rest.now piece c.split_at.result.1.now s.0 fit c.loop-piece.invariant.left c.split_at.ensures.front c.split_at.ensures.back s.1 in
    (h.0, h.1 ++ s.0, s.2 h.0 h.1 h.2, h.3, piece_room h.1 s.0 n (each * i) each (length piece / size) h.4 s.1.count fit (count_of size each piece (omega (arith, c.requires.size)) p.long))

pub loop-piece-preserved : goal.loop-piece-preserved
loop-piece-preserved g c =
    let size = c.args.size in
    let each = c.args.each in
    let block = c.args.block.now in
    let n = length block / size in
    let i = c.loop-piece._piece in
    let t = each * i in
    let s = c.loop-piece.invariant.done in
    let piece = c.split_at.result.0.now in
    let further = c.split_at.result.1.now in
    let records = cut_records size each piece in
    let p = piece_taken size n t each block c.loop-piece.rest.now piece further s.0 (groups_fit n each i c.loop-piece-test.true) c.loop-piece.invariant.left c.split_at.ensures.front c.split_at.ensures.back s.1 in
    let next : t + each ≡ each * (i + 1) = omega arith in
    record {
      number = refl;
      left = p.left ∙ ap (λ (k : ℕ). size * (n - k)) next;
      done = (
        s.0 ++ records,
        subst (λ (k : ℕ). Cuts size n k block further (s.0 ++ records)) next p.cuts,
        λ taps before is. piece_shown taps before s.0 size (length piece / size) each piece (count_of size each piece (omega (arith, c.requires.size)) p.long)
            (c.in_ok-see_piece.ensures taps (before ++ s.0) (s.2 taps before is)),
      );
    }

pub see_piece-requires-2-clause-whole : goal.see_piece-requires-2-clause-whole
see_piece-requires-2-clause-whole g c =
    whole_of c.args.size (length c.args.block.now / c.args.size - c.args.each * c.loop-piece._piece) c.loop-piece.rest.now (omega (arith, c.requires.size)) c.loop-piece.invariant.left

pub see_piece-requires-2-clause-shown : goal.see_piece-requires-2-clause-shown
see_piece-requires-2-clause-shown g c =
    let size = c.args.size in
    let n = length c.args.block.now / size in
    let t = c.args.each * c.loop-piece._piece in
    let s = c.loop-piece.invariant.done in
    let h = c.requires.shown in
    let rest = c.loop-piece.rest.now in
    let within : t ≤ n = groups_all n c.args.each c.loop-piece._piece (omega (arith, c.loop-piece.auto._piece-end)) in
    (h.0, h.1 ++ s.0, s.2 h.0 h.1 h.2, h.3, piece_room h.1 s.0 n t (n - t) (length rest / size) h.4 s.1.count (omega (arith, within)) (count_of size (n - t) rest (omega (arith, c.requires.size)) c.loop-piece.invariant.left))

pub returns : goal.returns
returns g c taps before is =
    let size = c.args.size in
    let n = length c.args.block.now / size in
    let t = c.args.each * c.loop-piece._piece in
    let s = c.loop-piece.invariant.done in
    let rest = c.loop-piece.rest.now in
    on_ok_weaker c.see_piece-2.result
    (rest_shown taps before s.0 size n t (length rest / size) c.args.block.now rest (count_of size (n - t) rest (omega (arith, c.requires.size)) c.loop-piece.invariant.left) s.1)
    (c.see_piece-2.ensures taps (before ++ s.0) (s.2 taps before is))
