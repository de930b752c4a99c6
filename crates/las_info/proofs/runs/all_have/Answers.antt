use Rattle.std.proofs.Common.{◌≡◌, ◌-◌, ◌*◌, ◌∙◌, ◌∷◌, ◌++◌, [], ℕ, List, sym, subst, ap, arith}
use Rattle.std.specs.Prelude.{All}
use Rattle.std.proofs.lemmas.List.Elements.{All-nil, All-push}
use Rattle.las_header.proofs.Public.{left_next}
use Rattle.las_info.proofs.Cuts.{cuts_all, cuts_none, cuts_one}
use Rattle.las_info.proofs.Pieces.{piece_fits}
use Rattle.las_info.proofs.runs.all_have.Goals as goal

pub loop-turn-init : goal.loop-turn-init
loop-turn-init g c =
    let all : c.args.count ≡ c.args.count - 0 = omega arith in
    record {
      left = c.requires.group ∙ ap (λ (n : ℕ). c.args.size * n) all;
      done = ([], cuts_none c.args.size c.args.count c.args.group.now, All-nil (λ (point : List ℕ). g.B.Bins.bin_of point ≡ c.args.bin));
    }

pub split_at-requires : goal.split_at-requires
split_at-requires g c = omega (arith, piece_fits c.args.size c.args.count c.loop-turn._turn 1 c.loop-turn.rest.now (omega (arith, c.loop-turn-test.true)) c.loop-turn.invariant.left)

pub loop-turn-preserved : goal.loop-turn-preserved
loop-turn-preserved g c =
    let size = c.args.size in
    let n = c.args.count in
    let t = c.loop-turn._turn in
    let s = c.loop-turn.invariant.done in
    let rest = c.loop-turn.rest.now in
    let point = c.split_at.result.0.now in
    let further = c.split_at.result.1.now in
    let is : g.B.Bins.bin_of point ≡ c.args.bin = sym c.of.ensures ∙ omega (arith, c.if-of-bin.false) in
    record {
      left = left_next size n t rest further c.loop-turn-test.true c.split_at.ensures.back c.loop-turn.invariant.left;
      done = (
        s.0 ++ point ∷ [],
        cuts_one size n t c.args.group.now rest point further s.0 c.loop-turn-test.true c.split_at.ensures.front c.split_at.ensures.back s.1,
        All-push (λ (p : List ℕ). g.B.Bins.bin_of p ≡ c.args.bin) s.0 point s.2 is,
      );
    }

pub returns : goal.returns
returns g c holds =
    let s = c.loop-turn.invariant.done in
    subst (λ (ps : List (List ℕ)). All (λ p. g.B.Bins.bin_of p ≡ c.args.bin) ps)
    (cuts_all c.args.size c.args.count c.loop-turn._turn c.args.group.now c.loop-turn.rest.now s.0 (omega (arith, c.loop-turn-test.false)) s.1) s.2
