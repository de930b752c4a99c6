use Rattle.std.proofs.Common.{◌≡◌, ◌-◌, ◌+◌, ◌≤◌, ◌++◌, ◌∙◌, sym, ap, ℕ, List, length, take, drop, length-append, arith}
use Rattle.std.proofs.lemmas.List.{length-drop, length-take}
use Rattle.tests_files.proofs.trial.push_all.Goals as goal

pub loop-i-preserved : goal.loop-i-preserved
loop-i-preserved g c =
    let b = c.loop-i.invariant.stands in
    let rest = drop c.loop-i.taken c.args.records.now in
    let left = take (length c.args.records.now - c.loop-i.taken) rest in
    let part = take c.min.result left in
    let st = c.in_ok-push.ensures.stands b.0 b.1 b.2 b.3 in
    record {
      sound = c.in_ok-push.ensures.open;
      size = st.size ∙ sym b.3.size ∙ c.loop-i.invariant.size;
      most = c.in_ok-push.ensures.most ∙ c.loop-i.invariant.most;
      within = omega (arith, c.loop-i.invariant.within, length-take c.min.result left, length-take (length c.args.records.now - c.loop-i.taken) rest, length-drop c.loop-i.taken c.args.records.now);
      stands = (b.0, b.1, b.2 ++ part, st, length-append b.2 part ∙ ap (λ (n : ℕ). n + length part) b.4);
    }

pub finish-requires-clause-stands : goal.finish-requires-clause-stands
finish-requires-clause-stands g c κs within = let b = c.loop-i.invariant.stands in (b.0, b.1, b.2, b.3)
