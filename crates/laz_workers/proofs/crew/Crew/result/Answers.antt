use Rattle.std.proofs.Common.{map, ap, ◌∙◌, arith}
use Rattle.laz_workers.specs.Shown.{shown}
use Rattle.laz_workers.specs.Rooms.{rooms_of, StandsIn}
use Rattle.laz_workers.proofs.RoomLists.{first_at, second_at, nowhere_in}
use Rattle.laz_workers.proofs.crew.Crew.result.Goals as goal

pub returns-then-holds : goal.returns-then-holds
returns-then-holds g c =
    let h = c.hand-item.result in
    let is = ap (map shown) c.deref-hand-items.ensures.value ∙ c.self.view_is in
    let stands : StandsIn (rooms_of c.args.self.now) c.args.number h.first =
    (first_at c.deref-hand-items.result.now c.loop-hand.hand-index h c.args.self.now c.loop-hand-test.true c.hand-item.is is, c.holds.ensures.0 c.if-holds.true) in
    (h.first, stands, c.answer.ensures)

pub returns-then-holds-2 : goal.returns-then-holds-2
returns-then-holds-2 g c =
    let h = c.hand-item.result in
    let is = ap (map shown) c.deref-hand-items.ensures.value ∙ c.self.view_is in
    let stands : StandsIn (rooms_of c.args.self.now) c.args.number h.second =
    (second_at c.deref-hand-items.result.now c.loop-hand.hand-index h c.args.self.now c.loop-hand-test.true c.hand-item.is is, c.holds-in-loop-hand.ensures.0 c.if-holds-2.true) in
    (h.second, stands, c.answer-then-holds-2.ensures)

pub unreachable-requires : goal.unreachable-requires
unreachable-requires g c =
    let is = ap (map shown) c.deref-hand-items.ensures.value ∙ c.self.view_is in
    nowhere_in c.deref-hand-items.result.now c.args.self.now c.args.number is (λ k d lt. c.loop-hand.invariant k d (omega (arith, c.loop-hand-test.false))) c.requires
