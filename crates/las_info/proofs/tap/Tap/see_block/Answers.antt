use Rattle.std.proofs.Common.{◌/◌, ◌∷◌, ◌++◌, ◌∙◌, [], length, ap, arith, refl}
use Rattle.las_header.proofs.Public.{left_first, left_next}
use Rattle.las_info.specs.Tallies.{shown_all}
use Rattle.las_info.proofs.Counting.{same_parts, same_tap}
use Rattle.las_info.proofs.Cuts.{cuts_all, cuts_first, cuts_none, cuts_one}
use Rattle.las_info.proofs.Shown.{next_shown, room_next}
use Rattle.las_info.proofs.tap.Tap.see_block.Goals as goal
use Rattle.las_outside.proofs.Public.{on_err}

pub loop-turn-init : goal.loop-turn-init
loop-turn-init g c = record {
  left = left_first c.args.size c.args.block.now c.requires.whole;
  shows = ([], cuts_none c.args.size (length c.args.block.now / c.args.size) c.args.block.now, refl);
}

pub see-requires-clause-room : goal.see-requires-clause-room
see-requires-clause-room g c =
    let s = c.loop-turn.invariant.shows in
    room_next _ _ s.0 (length c.args.block.now / c.args.size) c.loop-turn._turn c.split_at.result.0.now c.requires.room.fits s.2 s.1.count c.loop-turn-test.true

pub loop-turn-preserved : goal.loop-turn-preserved
loop-turn-preserved g c =
    let size = c.args.size in
    let n = length c.args.block.now / size in
    let t = c.loop-turn._turn in
    let s = c.loop-turn.invariant.shows in
    let point = c.split_at.result.0.now in
    let seen = g.Self.Tap.tap_seen in
    record {
      left = left_next size n t c.loop-turn.rest.now c.split_at.result.1.now c.loop-turn-test.true c.split_at.ensures.back c.loop-turn.invariant.left;
      shows = (
        s.0 ++ point ∷ [],
        cuts_one size n t c.args.block.now c.loop-turn.rest.now point c.split_at.result.1.now s.0 c.loop-turn-test.true c.split_at.ensures.front c.split_at.ensures.back s.1,
        next_shown (seen c.args.self.now) (seen c.loop-turn.self) (seen c.see.new.self) s.0 point s.2
            (same_tap (seen c.loop-turn.self) (seen c.see.new.self) point c.in_ok-see.ensures.name c.in_ok-see.ensures.rule c.in_ok-see.ensures.ok),
      );
    }

pub returns-in_err-see-clause-err : goal.returns-in_err-see-clause-err
returns-in_err-see-clause-err g c =
    let size = c.args.size in
    let n = length c.args.block.now / size in
    let s = c.loop-turn.invariant.shows in
    let seen = g.Self.Tap.tap_seen in
    let done = s.2 ∙ ap (shown_all (seen c.args.self.now)) (cuts_first size n c.loop-turn._turn c.args.block.now c.loop-turn.rest.now s.0 s.1) in
    on_err c.from_residual.result
    (c.loop-turn._turn, same_parts (seen c.loop-turn.self) (seen c.see.new.self) c.in_err-see.ensures.name c.in_err-see.ensures.rule c.in_err-see.ensures.err ∙ done)

pub returns-clause-ok : goal.returns-clause-ok
returns-clause-ok g c =
    let size = c.args.size in
    let n = length c.args.block.now / size in
    let s = c.loop-turn.invariant.shows in
    s.2 ∙ ap (shown_all (g.Self.Tap.tap_seen c.args.self.now)) (cuts_all size n c.loop-turn._turn c.args.block.now c.loop-turn.rest.now s.0 (omega (arith, c.loop-turn-test.false)) s.1)
