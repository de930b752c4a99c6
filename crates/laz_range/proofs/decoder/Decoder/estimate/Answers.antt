use Rattle.std.proofs.Common.{◌*◌, ◌/◌, ◌^◌, ◌∙◌, ap, arith}
use Rattle.std.proofs.lemmas.Nat.{le-div}
use Rattle.laz_range.specs.Decoding.{Decoding}
use Rattle.laz_range.proofs.Choosing.{place-small}
use Rattle.laz_range.proofs.decoder.Decoder.estimate.Goals as goal

pub returns-clause-below : goal.returns-clause-below
returns-clause-below c =
    let long = c.self.invariant.2 (ap (λ (d : Decoding). d.failed) c.self.view_is ∙ c.requires.good) in
    rw (← c.self.view_is) (le-div (c.estimate.result * 2 ^ c.args.bits) c.self.inside.input.value (c.self.inside.input.length / 32768) (omega (arith, long)) c.estimate.ensures.place)

pub returns-clause-guard : goal.returns-clause-guard
returns-clause-guard c =
    let good = ap (λ (d : Decoding). d.failed) c.self.view_is ∙ c.requires.good in
    let w = c.self.inside.input in
    rw (← c.self.view_is) (place-small w.value w.length (c.self.invariant.1 good) (c.self.invariant.2 good))
