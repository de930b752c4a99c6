use Rattle.std.proofs.Common.{leb, refl, arith}
use Rattle.std.proofs.lemmas.Result.{err_from_is_err_and}
use Rattle.laz_range.specs.Cut.{Cut, IsCut}
use Rattle.laz_range.specs.Reading.{IsIn}
use Rattle.laz_range.specs.Decoding.{symbol_place}
use Rattle.laz_range.specs.Input.{decoding_of, input_reading}
use Rattle.laz_range.specs.Search.{part_of_two}
use Rattle.laz_range.proofs.Choosing.{IsCut-two, place-small}
use Rattle.laz_range.proofs.Events.{event-passes, event-stops, event-short, event-enough}
use Rattle.laz_range.proofs.decoder.Decoder.take_either.Goals as goal

pub returns-in_err-take_part-clause-reads : goal.returns-in_err-take_part-clause-reads
returns-in_err-take_part-clause-reads c =
    let p = err_from_is_err_and c.from_residual.result c.from_residual.ensures.1 in
    let w = c.self.inside.input in
    let d = decoding_of w c.self.inside.failed in
    let good = rw (← c.self.view_is) at c.requires.good in
    let found = c.either-second.ensures in
    let part : Cut = part_of_two c.args.start c.args.next c.args.after (leb c.args.next (symbol_place d)) in
    let from = rw found.second at found.from in
    let width = rw found.second at found.width in
    let below = rw (← c.self.view_is) at c.requires.below in
    let lies : IsIn (input_reading w) part = record { above = omega (arith, from, found.above); below = omega (arith, from, width, found.below) } in
    let is : IsCut part = IsCut-two c.args.start c.args.next c.args.after (symbol_place d) c.requires.two below (place-small w.value w.length (c.self.invariant.1 good) (c.self.invariant.2 good)) in
    let stops = rw (← c.self.view_is, from, width) at c.in_err-take_part.ensures in
    rw (p.1, ← c.self.view_is) (event-stops d c.take_part.new.self part is lies stops)

pub returns-in_err-take_part-clause-bad : goal.returns-in_err-take_part-clause-bad
returns-in_err-take_part-clause-bad c =
    let p = err_from_is_err_and c.from_residual.result c.from_residual.ensures.1 in
    let w = c.self.inside.input in
    let d = decoding_of w c.self.inside.failed in
    let good = rw (← c.self.view_is) at c.requires.good in
    let found = c.either-second.ensures in
    let part : Cut = part_of_two c.args.start c.args.next c.args.after (leb c.args.next (symbol_place d)) in
    let from = rw found.second at found.from in
    let width = rw found.second at found.width in
    let below = rw (← c.self.view_is) at c.requires.below in
    let lies : IsIn (input_reading w) part = record { above = omega (arith, from, found.above); below = omega (arith, from, width, found.below) } in
    let is : IsCut part = IsCut-two c.args.start c.args.next c.args.after (symbol_place d) c.requires.two below (place-small w.value w.length (c.self.invariant.1 good) (c.self.invariant.2 good)) in
    let stops = rw (← c.self.view_is, from, width) at c.in_err-take_part.ensures in
    rw (p.1, ← c.self.view_is) (λ _. event-short d c.take_part.new.self part c.self.invariant.0 lies stops, λ _. refl)

pub returns-clause-reads : goal.returns-clause-reads
returns-clause-reads c =
    let w = c.self.inside.input in
    let d = decoding_of w c.self.inside.failed in
    let good = rw (← c.self.view_is) at c.requires.good in
    let found = c.either-second.ensures in
    let part : Cut = part_of_two c.args.start c.args.next c.args.after (leb c.args.next (symbol_place d)) in
    let from = rw found.second at found.from in
    let width = rw found.second at found.width in
    let below = rw (← c.self.view_is) at c.requires.below in
    let lies : IsIn (input_reading w) part = record { above = omega (arith, from, found.above); below = omega (arith, from, width, found.below) } in
    let is : IsCut part = IsCut-two c.args.start c.args.next c.args.after (symbol_place d) c.requires.two below (place-small w.value w.length (c.self.invariant.1 good) (c.self.invariant.2 good)) in
    let passes = rw (← c.self.view_is, from, width) at c.in_ok-take_part.ensures in
    rw (← c.self.view_is) (event-passes d c.take_part.new.self part is lies passes)

pub returns-clause-bad : goal.returns-clause-bad
returns-clause-bad c =
    let w = c.self.inside.input in
    let d = decoding_of w c.self.inside.failed in
    let good = rw (← c.self.view_is) at c.requires.good in
    let found = c.either-second.ensures in
    let part : Cut = part_of_two c.args.start c.args.next c.args.after (leb c.args.next (symbol_place d)) in
    let from = rw found.second at found.from in
    let width = rw found.second at found.width in
    let below = rw (← c.self.view_is) at c.requires.below in
    let lies : IsIn (input_reading w) part = record { above = omega (arith, from, found.above); below = omega (arith, from, width, found.below) } in
    let is : IsCut part = IsCut-two c.args.start c.args.next c.args.after (symbol_place d) c.requires.two below (place-small w.value w.length (c.self.invariant.1 good) (c.self.invariant.2 good)) in
    let passes = rw (← c.self.view_is, from, width) at c.in_ok-take_part.ensures in
    rw (← c.self.view_is) (λ e. absurd (cc), λ over. absurd (event-enough d c.take_part.new.self part c.self.invariant.0 lies passes over))
