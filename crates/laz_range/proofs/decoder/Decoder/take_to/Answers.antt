use Rattle.std.proofs.Common.{drop, min, arith}
use Rattle.laz_range.specs.Cut.{Cut, Part, IsCut}
use Rattle.laz_range.specs.Input.{decoding_of, input_reading}
use Rattle.laz_range.specs.Reading.{IsIn}
use Rattle.laz_range.proofs.Ends.{place-lies}
use Rattle.laz_range.proofs.Events.{part-reads, part-bad}
use Rattle.laz_range.proofs.decoder.Decoder.take_to.Goals as goal

pub take_part-requires : goal.take_part-requires
take_part-requires c =
    let w = c.self.inside.input in
    let good = rw (← c.self.view_is) at c.requires.good in
    let above = rw (← c.self.view_is) at c.requires.above in
    let below = rw (← c.self.view_is) at c.requires.below in
    let lies = place-lies w.value w.length c.args.start (min c.args.next 32768) (drop w.taken w.bytes.now) (omega arith) (omega arith) above (λ h. omega arith) (c.self.invariant.1 good) (c.self.invariant.2 good) in
    rw (← c.self.view_is, c.part_to-from.ensures.from, c.part_to-from.ensures.width)
    (record { good = good; above = lies.above; below = lies.below })

pub returns : goal.returns
returns c =
    let w = c.self.inside.input in
    let d = decoding_of w c.self.inside.failed in
    let good = rw (← c.self.view_is) at c.requires.good in
    let above = rw (← c.self.view_is) at c.requires.above in
    let below = rw (← c.self.view_is) at c.requires.below in
    let part : Cut = Part c.args.start (min c.args.next 32768) in
    let lies : IsIn (input_reading w) part = place-lies w.value w.length c.args.start (min c.args.next 32768) (drop w.taken w.bytes.now) (omega arith) (omega arith) above (λ h. omega arith) (c.self.invariant.1 good) (c.self.invariant.2 good) in
    let is : IsCut part = (omega arith, omega arith) in
    let done = rw (← c.self.view_is, c.part_to-from.ensures.from, c.part_to-from.ensures.width) at c.take_part.ensures in
    rw (← c.self.view_is)
    (record {
      reads = part-reads c.take_part.result d c.take_part.new.self part is lies done;
      bad = part-bad c.take_part.result d c.take_part.new.self part c.self.invariant.0 lies done;
    })
