use Rattle.std.proofs.Common.{◌≡◌, ℕ, ◌+◌, ◌-◌, ◌*◌, ◌/◌, ◌<◌, ◌≤◌, ◌∷◌, ◌++◌, ◌∙◌, inl, inr, [], drop, length, ap, arith, refl, subst, sym}
use Rattle.std.proofs.lemmas.List.{take_all}
use Rattle.std.proofs.lemmas.Result.{on_err_weaker, on_ok_weaker}
use Rattle.las_header.proofs.Public.{left_first, left_next}
use Rattle.las_info.specs.Tallies.{count_at, tally_after, with_one}
use Rattle.las_info.proofs.Counting.{one_counted, room_left, two_counted}
use Rattle.las_info.proofs.Cuts.{Cuts, cuts_all, cuts_first, cuts_none, cuts_one}
use Rattle.las_info.proofs.block_count.count_block.Goals as goal
use Rattle.las_outside.proofs.Public.{on_err}

pub loop-pair-init : goal.loop-pair-init
loop-pair-init g c = record {
  number = refl;
  left = left_first c.args.size c.args.block.now c.requires.whole;
  counts = ([], cuts_none c.args.size (length c.args.block.now / c.args.size) c.args.block.now, refl);
}

pub add_two-requires-clause-first : goal.add_two-requires-clause-first
add_two-requires-clause-first g c =
    let s = c.loop-pair.invariant.counts in
    omega (arith, room_left g.B.Bins.bin_of c.args.counted.now s.0 (length c.args.block.now / c.args.size) (2 * c.loop-pair._pair) 2 c.of.result c.requires.room.fits s.1.count (omega (arith, c.loop-pair-test.true)), ap (λ t. count_at t c.of.result) s.2)

pub add_two-requires-clause-second : goal.add_two-requires-clause-second
add_two-requires-clause-second g c =
    let s = c.loop-pair.invariant.counts in
    let bin = c.of-in-loop-pair.result in
    omega (arith, room_left g.B.Bins.bin_of c.args.counted.now s.0 (length c.args.block.now / c.args.size) (2 * c.loop-pair._pair) 2 bin c.requires.room.fits s.1.count (omega (arith, c.loop-pair-test.true)), ap (λ t. count_at t bin) s.2)

pub returns-in_err-add_two-clause-err : goal.returns-in_err-add_two-clause-err
returns-in_err-add_two-clause-err g c =
    let size = c.args.size in
    let n = length c.args.block.now / size in
    let t = 2 * c.loop-pair._pair in
    let s = c.loop-pair.invariant.counts in
    let rule = g.B.Bins.bin_of in
    let old = c.args.counted.now in
    let point = c.split_at.result.0.now in
    let others = c.split_at.result.1.now in
    let cuts = cuts_one size n t c.args.block.now c.loop-pair.rest.now point others s.0 (omega (arith, c.loop-pair-test.true)) c.split_at.ensures.front c.split_at.ensures.back s.1 in
    on_err c.from_residual.result (elim c.in_err-add_two.ensures.err [
      | inl none ↦ (t, none ∙ s.2 ∙ ap (tally_after rule old) (cuts_first size n t c.args.block.now c.loop-pair.rest.now s.0 s.1))
      | inr one ↦ (
        t + 1,
        one_counted rule old c.loop-pair.counted c.add_two.new.self s.0 point c.of.result s.2 c.of.ensures one
            ∙ ap (tally_after rule old) (cuts_first size n (t + 1) c.args.block.now others (s.0 ++ point ∷ []) cuts),
      )
    ])

pub loop-pair-preserved : goal.loop-pair-preserved
loop-pair-preserved g c =
    let size = c.args.size in
    let block = c.args.block.now in
    let n = length block / size in
    let t = 2 * c.loop-pair._pair in
    let s = c.loop-pair.invariant.counts in
    let point = c.split_at.result.0.now in
    let others = c.split_at.result.1.now in
    let other = c.split_at-in-loop-pair.result.0.now in
    let further = c.split_at-in-loop-pair.result.1.now in
    let more : t + 1 < n = omega (arith, c.loop-pair-test.true) in
    let next : t + 1 + 1 ≡ 2 * (c.loop-pair._pair + 1) = omega arith in
    let one = cuts_one size n t block c.loop-pair.rest.now point others s.0 (omega (arith, more)) c.split_at.ensures.front c.split_at.ensures.back s.1 in
    let two = cuts_one size n (t + 1) block others other further (s.0 ++ point ∷ []) more c.split_at-in-loop-pair.ensures.front c.split_at-in-loop-pair.ensures.back one in
    record {
      number = refl;
      left = left_next size n (t + 1) others further more c.split_at-in-loop-pair.ensures.back
          (left_next size n t c.loop-pair.rest.now others (omega (arith, more)) c.split_at.ensures.back c.loop-pair.invariant.left)
          ∙ ap (λ (k : ℕ). size * (n - k)) next;
      counts = (
        (s.0 ++ point ∷ []) ++ other ∷ [],
        subst (λ (k : ℕ). Cuts size n k block further ((s.0 ++ point ∷ []) ++ other ∷ [])) next two,
        two_counted g.B.Bins.bin_of c.args.counted.now c.loop-pair.counted c.add_two.new.self s.0 point other c.of.result c.of-in-loop-pair.result
            s.2 c.of.ensures c.of-in-loop-pair.ensures c.in_ok-add_two.ensures.ok,
      );
    }

pub returns-then-count-eq0-clause-ok : goal.returns-then-count-eq0-clause-ok
returns-then-count-eq0-clause-ok g c =
    let size = c.args.size in
    let s = c.loop-pair.invariant.counts in
    s.2 ∙ ap (tally_after g.B.Bins.bin_of c.args.counted.now)
    (cuts_all size (length c.args.block.now / size) (2 * c.loop-pair._pair) c.args.block.now c.loop-pair.rest.now s.0 (omega (arith, c.loop-pair-test.false, c.if-count-eq0.true)) s.1)

pub add-requires : goal.add-requires
add-requires g c =
    let s = c.loop-pair.invariant.counts in
    let bin = c.of-2.result in
    omega (arith, room_left g.B.Bins.bin_of c.args.counted.now s.0 (length c.args.block.now / c.args.size) (2 * c.loop-pair._pair) 1 bin c.requires.room.fits s.1.count (omega (arith, c.loop-pair-test.false, c.if-count-eq0.false)), ap (λ t. count_at t bin) s.2)

pub returns-clause-ok : goal.returns-clause-ok
returns-clause-ok g c =
    let size = c.args.size in
    let block = c.args.block.now in
    let rest = c.loop-pair.rest.now in
    let n = length block / size in
    let t = 2 * c.loop-pair._pair in
    let s = c.loop-pair.invariant.counts in
    let rule = g.B.Bins.bin_of in
    let more : t < n = omega (arith, c.loop-pair-test.false, c.if-count-eq0.false) in
    let one : n - t ≡ 1 = omega (arith, c.loop-pair-test.false, c.if-count-eq0.false) in
    let last : length rest ≤ size = omega (arith, c.loop-pair.invariant.left ∙ ap (λ (k : ℕ). size * k) one) in
    let cuts = cuts_one size n t block rest rest (drop size rest) s.0 more (sym (take_all size rest last)) refl s.1 in
    on_ok_weaker c.add.result (λ (is : c.add.new.self ≡ with_one c.loop-pair.counted c.of-2.result).
    one_counted rule c.args.counted.now c.loop-pair.counted c.add.new.self s.0 rest c.of-2.result s.2 c.of-2.ensures is
    ∙ ap (tally_after rule c.args.counted.now) (cuts_all size n (t + 1) block (drop size rest) (s.0 ++ rest ∷ []) (omega (arith, one)) cuts))
    c.add.ensures.ok

pub returns-clause-err : goal.returns-clause-err
returns-clause-err g c =
    let size = c.args.size in
    let n = length c.args.block.now / size in
    let t = 2 * c.loop-pair._pair in
    let s = c.loop-pair.invariant.counts in
    on_err_weaker c.add.result (λ (same : c.add.new.self ≡ c.loop-pair.counted).
    (t, same ∙ s.2 ∙ ap (tally_after g.B.Bins.bin_of c.args.counted.now) (cuts_first size n t c.args.block.now c.loop-pair.rest.now s.0 s.1)))
    c.add.ensures.err
