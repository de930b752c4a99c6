use Rattle.std.proofs.Common.{◌≡◌, drop, rules}
use Rattle.laz_range.specs.Cut.{Part, width_in}
use Rattle.laz_range.specs.Input.{decoding_of}
use Rattle.laz_range.proofs.Ends.{place-lies}
use Rattle.laz_range.proofs.Events.{part-reads, part-bad, part-read, part-none}
use Rattle.laz_range.proofs.decoder.Decoder.take15.Goals as goal

pub take_part-requires-clause-below : goal.take_part-requires-clause-below
take_part-requires-clause-below c =
    let w = c.self.inside.input in
    let good = rw (← c.self.view_is) at c.requires.good in
    let width : c.if-hi-eq-SYMBOL_PARTS.width ≡ width_in w.length (Part c.args.lo c.args.hi) = search rules in
    let lies = place-lies w.value w.length c.args.lo c.args.hi (drop w.taken w.bytes.now) c.requires.part c.requires.whole (rw (← c.self.view_is) at c.requires.above) (rw (← c.self.view_is) at c.requires.below) (c.self.invariant.1 good) (c.self.invariant.2 good) in
    rw (← c.self.view_is, width) lies.below

pub returns : goal.returns
returns c =
    let w = c.self.inside.input in
    let d = decoding_of w c.self.inside.failed in
    let good = rw (← c.self.view_is) at c.requires.good in
    let width : c.if-hi-eq-SYMBOL_PARTS.width ≡ width_in w.length (Part c.args.lo c.args.hi) = search rules in
    let lies = place-lies w.value w.length c.args.lo c.args.hi (drop w.taken w.bytes.now) c.requires.part c.requires.whole (rw (← c.self.view_is) at c.requires.above) (rw (← c.self.view_is) at c.requires.below) (c.self.invariant.1 good) (c.self.invariant.2 good) in
    let done = rw (← c.self.view_is, width) at c.take_part.ensures in
    rw (← c.self.view_is)
    (record {
      reads = part-reads c.take_part.result d c.take_part.new.self (Part c.args.lo c.args.hi) (c.requires.part, c.requires.whole) lies done;
      bad = part-bad c.take_part.result d c.take_part.new.self (Part c.args.lo c.args.hi) c.self.invariant.0 lies done;
      read = part-read c.take_part.result d c.take_part.new.self (Part c.args.lo c.args.hi) (c.requires.part, c.requires.whole) lies done;
      none = part-none c.take_part.result d c.take_part.new.self (Part c.args.lo c.args.hi) (c.requires.part, c.requires.whole) lies done;
    })
