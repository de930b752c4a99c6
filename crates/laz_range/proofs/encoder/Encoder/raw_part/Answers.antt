use Rattle.std.proofs.Common.{◌≤◌, ◌<◌, arith, ap, ⊎_elim}
use Rattle.std.proofs.lemmas.Bool.{cases_lt}
use Rattle.laz_range.specs.Span.{Span}
use Rattle.laz_range.specs.Coding.{Coding}
use Rattle.laz_range.specs.Output.{span_of}
use Rattle.laz_range.proofs.Cuts.{raw_some, raw_much, raw_lies}
use Rattle.laz_range.proofs.Spans.{shifts-subspan}
use Rattle.laz_range.proofs.encoder.Encoder.raw_part.Goals as goal

pub narrow-requires-clause-some : goal.narrow-requires-clause-some
narrow-requires-clause-some c = raw_some _ _ c.requires.few c.self.invariant.1.long

pub returns-clause-short : goal.returns-clause-short
returns-clause-short c few =
    let room = c.self.inside.output in
    let much = raw_much room.length c.args.bits few c.self.invariant.1.long in
    omega (
      arith,
      ap (λ (s : Span). s.shifts) c.narrow.ensures.span,
      ap (λ (k : Coding). k.left) c.self.view_is,
      shifts-subspan (span_of room) _ _ c.self.invariant.1 much (raw_lies room.length c.args.bits c.args.v c.requires.value),
    )

pub narrow-requires-clause-short : goal.narrow-requires-clause-short
narrow-requires-clause-short c few =
    let wide : 16 < c.args.bits = ⊎_elim (λ (h : 16 < c.args.bits). h)
    (λ (h : c.args.bits ≤ 16). absurd (omega (arith, few, raw_much c.self.inside.output.length c.args.bits h c.self.invariant.1.long)))
    (cases_lt 16 c.args.bits) in
    omega (arith, c.requires.wide wide, ap (λ (k : Coding). k.left) c.self.view_is)
