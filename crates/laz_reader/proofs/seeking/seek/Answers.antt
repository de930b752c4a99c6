use Rattle.std.proofs.Common.{◌-◌, ◌<◌, ℕ, length, refl, sym, subst, arith}
use Rattle.std.proofs.lemmas.List.Elements.{recursion_from_All}
use Rattle.laz_reader.specs.declared.seeking.Ends.{Ends}
use Rattle.laz_forms.specs.Ranges.{Range}
use Rattle.laz_reader.specs.Keeping.{IsSought}
use Rattle.laz_reader.proofs.Parts.{sought, sought_none}
use Rattle.laz_reader.proofs.seeking.seek.Goals as goal

pub returns-then-start-stop : goal.returns-then-start-stop
returns-then-start-stop c =
    let range : Range = record { start = c.args.start; stop = c.args.stop } in
    let n = length c.args.points.now in
    let ends : Ends = record { first = n; last = n; skip = 0; tail = 0 } in
    sought_none range ends c.args.place c.args.points.now c.args.bytes.now (omega (arith, c.if-start-stop.true)) c.requires.same refl refl refl

pub overflow_cast-ends-2 : goal.overflow_cast-ends-2
overflow_cast-ends-2 c = record { fits = omega (arith, c.last_chunk-last.ensures.small, c.from-2.ensures) }

pub returns : goal.returns
returns c =
    let range : Range = record { start = c.args.start; stop = c.args.stop } in
    let one = c.first_chunk-first.ensures in
    let two = c.last_chunk-last.ensures in
    let before = c.first_chunk-first.result.1 in
    let reached = c.last_chunk-last.result.1 in
    let ends : Ends = record { first = c.first_chunk-first.result.0; last = c.last_chunk-last.result.0; skip = c.from.result - before; tail = reached - c.from-2.result } in
    subst (λ (at : ℕ). IsSought range c.args.place c.args.points.now c.args.bytes.now ends at) (sym one.place)
    (sought range ends c.args.place before reached c.args.points.now c.args.bytes.now (record {
      same = c.requires.same;
      some = recursion_from_All (λ n. 0 < n) c.args.points.now c.requires.some;
      order = two.order;
      within = two.within;
      before_is = one.before;
      early = one.early;
      here = one.here (omega (arith, two.order, two.within));
      reached_is = two.reached;
      least = two.least;
      skip = omega (arith, c.from.ensures);
      tail = omega (arith, c.from-2.ensures, two.past);
      any = omega (arith, c.requires.order, c.if-start-stop.false);
    }))
