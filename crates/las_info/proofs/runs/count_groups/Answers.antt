use Rattle.std.proofs.Common.{◌≡◌, ℕ, ◌+◌, ◌-◌, ◌*◌, ◌/◌, ◌++◌, length, take, [], ap, arith, refl, subst, sym, ◌∙◌}
use Rattle.std.proofs.lemmas.Result.{on_err_weaker, on_ok_weaker}
use Rattle.las_header.proofs.Public.{left_first}
use Rattle.las_header.specs.Plain.{cut_records}
use Rattle.las_info.specs.Tallies.{HasRoomToCount, tally_after}
use Rattle.las_info.proofs.Cuts.{Cuts, cuts_none}
use Rattle.las_info.proofs.Pieces.{count_of, first_of_piece, groups_all, groups_fit, piece_counted, piece_fits, piece_taken, rest_counted, room_for, some_counted, whole_of}
use Rattle.las_info.proofs.runs.count_groups.Goals as goal
use Rattle.las_outside.proofs.Public.{on_err}

pub loop-group-init : goal.loop-group-init
loop-group-init g c =
    let none : 0 ≡ c.args.each * 0 = omega arith in
    let n = length c.args.block.now / c.args.size in
    record {
      number = refl;
      left = left_first c.args.size c.args.block.now c.requires.whole ∙ ap (λ (k : ℕ). c.args.size * (n - k)) none;
      counts = ([], subst (λ (k : ℕ). Cuts c.args.size n k c.args.block.now c.args.block.now []) none (cuts_none c.args.size n c.args.block.now), refl);
    }

pub split_at-requires : goal.split_at-requires
split_at-requires g c =
    let n = length c.args.block.now / c.args.size in
    piece_fits c.args.size n (c.args.each * c.loop-group._group) c.args.each c.loop-group.rest.now (groups_fit n c.args.each c.loop-group._group c.loop-group-test.true) c.loop-group.invariant.left

pub count_group-requires-clause-room : goal.count_group-requires-clause-room
count_group-requires-clause-room g c =
    let n = length c.args.block.now / c.args.size in
    let s = c.loop-group.invariant.counts in
    room_for g.B.Bins.bin_of c.args.counted.now c.loop-group.counted s.0 n (c.args.each * c.loop-group._group) c.args.each c.requires.room s.1.count (groups_fit n c.args.each c.loop-group._group c.loop-group-test.true) s.2

pub returns-in_err-count_group-clause-err : goal.returns-in_err-count_group-clause-err
returns-in_err-count_group-clause-err g c =
    let size = c.args.size in
    let each = c.args.each in
    let block = c.args.block.now in
    let n = length block / size in
    let t = each * c.loop-group._group in
    let s = c.loop-group.invariant.counts in
    let rest = c.loop-group.rest.now in
    let group = c.split_at.result.0.now in
    let further = c.split_at.result.1.now in
    let rule = g.B.Bins.bin_of in
    let old = c.args.counted.now in
    let p = piece_taken size n t each block rest group further s.0 (groups_fit n each c.loop-group._group c.loop-group-test.true) c.loop-group.invariant.left c.split_at.ensures.front c.split_at.ensures.back s.1 in
    let e = c.in_err-count_group.ensures.err in
    on_err c.from_residual.result (
      t + length (take e.0 (cut_records size each group)),
      piece_counted rule old c.loop-group.counted c.count_group.new.counted size n t block rest s.0 s.1 s.2 (take e.0 (cut_records size each group)) e.1
          ∙ ap (tally_after rule old) (first_of_piece size n t each e.0 block group rest further s.0 s.1 p),
    )

pub loop-group-preserved : goal.loop-group-preserved
loop-group-preserved g c =
    let size = c.args.size in
    let each = c.args.each in
    let block = c.args.block.now in
    let n = length block / size in
    let i = c.loop-group._group in
    let t = each * i in
    let s = c.loop-group.invariant.counts in
    let rest = c.loop-group.rest.now in
    let group = c.split_at.result.0.now in
    let further = c.split_at.result.1.now in
    let rule = g.B.Bins.bin_of in
    let old = c.args.counted.now in
    let records = cut_records size each group in
    let p = piece_taken size n t each block rest group further s.0 (groups_fit n each i c.loop-group-test.true) c.loop-group.invariant.left c.split_at.ensures.front c.split_at.ensures.back s.1 in
    let next : t + each ≡ each * (i + 1) = omega arith in
    record {
      number = refl;
      left = p.left ∙ ap (λ (k : ℕ). size * (n - k)) next;
      counts = (
        s.0 ++ records,
        subst (λ (k : ℕ). Cuts size n k block further (s.0 ++ records)) next p.cuts,
        piece_counted rule old c.loop-group.counted c.count_group.new.counted size n t block rest s.0 s.1 s.2 records c.in_ok-count_group.ensures.ok,
      );
    }

pub count_block-requires-clause-whole : goal.count_block-requires-clause-whole
count_block-requires-clause-whole g c =
    whole_of c.args.size _ c.loop-group.rest.now (omega (arith, c.requires.size)) c.loop-group.invariant.left

pub count_block-requires-clause-room : goal.count_block-requires-clause-room
count_block-requires-clause-room g c =
    let size = c.args.size in
    let n = length c.args.block.now / size in
    let t = c.args.each * c.loop-group._group in
    let s = c.loop-group.invariant.counts in
    subst (λ (k : ℕ). HasRoomToCount k c.loop-group.counted) (sym (count_of size (n - t) c.loop-group.rest.now (omega (arith, c.requires.size)) c.loop-group.invariant.left))
    (room_for g.B.Bins.bin_of c.args.counted.now c.loop-group.counted s.0 n t (n - t) c.requires.room s.1.count (omega (arith, groups_all n c.args.each c.loop-group._group (omega (arith, c.loop-group.auto._group-end)))) s.2)

pub returns-clause-ok : goal.returns-clause-ok
returns-clause-ok g c =
    let size = c.args.size in
    let block = c.args.block.now in
    let n = length block / size in
    let t = c.args.each * c.loop-group._group in
    let s = c.loop-group.invariant.counts in
    let rest = c.loop-group.rest.now in
    let rule = g.B.Bins.bin_of in
    let now = c.loop-group.counted in
    let long = count_of size (n - t) rest (omega (arith, c.requires.size)) c.loop-group.invariant.left in
    on_ok_weaker c.count_block.result (λ is.
    rest_counted rule c.args.counted.now now c.count_block.new.counted size n t block rest s.0 s.1 s.2
    (is ∙ ap (λ (k : ℕ). tally_after rule now (cut_records size k rest)) long))
    c.count_block.ensures.ok

pub returns-clause-err : goal.returns-clause-err
returns-clause-err g c =
    let size = c.args.size in
    let block = c.args.block.now in
    let n = length block / size in
    let t = c.args.each * c.loop-group._group in
    let s = c.loop-group.invariant.counts in
    let rest = c.loop-group.rest.now in
    let rule = g.B.Bins.bin_of in
    let now = c.loop-group.counted in
    let long = count_of size (n - t) rest (omega (arith, c.requires.size)) c.loop-group.invariant.left in
    on_err_weaker c.count_block.result (λ e. (
      t + e.0,
      some_counted rule c.args.counted.now now c.count_block.new.counted size n t block rest s.0 s.1 s.2 e.0
          (e.1 ∙ ap (λ (k : ℕ). tally_after rule now (take e.0 (cut_records size k rest))) long),
    ))
    c.count_block.ensures.err
