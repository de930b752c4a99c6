use Rattle.std.proofs.Common.{refl, subst, below_more, Option, List, ℕ}
use Rattle.std.specs.Prelude.{IsSome}
use Rattle.laz_workers.specs.Rooms.{rooms_of}
use Rattle.laz_workers.proofs.Public.{stands_below}
use Rattle.laz_reader.proofs.answers.good_answers.Goals as goal

pub result-requires : goal.result-requires
result-requires c = stands_below c.args.batch (rooms_of c.args.crew.now) c.loop-i.i c.requires.numbers c.loop-i-test.true

pub loop-i-preserved : goal.loop-i-preserved
loop-i-preserved c =
    let r = c.in-Some.ensures in
    below_more _ _ c.loop-i.invariant (r.0, r.1, subst (λ (o : Option (List ℕ)). IsSome o) r.2 refl)
