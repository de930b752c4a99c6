use Rattle.std.proofs.Common.{◌*◌, ◌/◌, leb, refl}
use Rattle.std.proofs.lemmas.Result.{err_from_is_err_and}
use Rattle.laz_range.specs.Cut.{Bit}
use Rattle.laz_range.specs.Reading.{IsIn}
use Rattle.laz_range.specs.Input.{input_reading, decoding_of}
use Rattle.laz_range.proofs.Choosing.{bit-lies}
use Rattle.laz_range.proofs.Decodings.{Takes-ReadsOn, TakesNone-NoneBegins}
use Rattle.laz_range.proofs.Events.{bit-passes, bit-stops, event-short, event-enough, AreCuts-bit}
use Rattle.laz_range.proofs.decoder.Decoder.take13.Goals as goal

pub returns-in_err-take_part : goal.returns-in_err-take_part
returns-in_err-take_part c =
    let p = err_from_is_err_and c.from_residual.result c.from_residual.ensures.1 in
    let w = c.self.inside.input in
    let d = decoding_of w c.self.inside.failed in
    let bit = leb (c.args.p0 * (w.length / 8192)) w.value in
    let lies : IsIn (input_reading w) (Bit c.args.p0 bit) = bit-lies w c.args.p0 (c.self.invariant.1 (rw (← c.self.view_is) at c.requires.good)) in
    let stops = rw (← c.self.view_is, c.bit_part-from.ensures.from, c.bit_part-from.ensures.width) at c.in_err-take_part.ensures in
    let none = bit-stops d c.take_part.new.self c.args.p0 bit c.requires.some c.requires.part lies stops in
    rw (p.1, ← c.self.view_is)
    (record {
      reads = none;
      bit = tt;
      bad = (λ _. event-short d c.take_part.new.self (Bit c.args.p0 bit) c.self.invariant.0 lies stops, λ _. refl);
      read = tt;
      none = TakesNone-NoneBegins _ _ d c.take_part.new.self (λ y _. AreCuts-bit c.args.p0 y c.requires.some c.requires.part) none;
    })

pub returns : goal.returns
returns c =
    let w = c.self.inside.input in
    let d = decoding_of w c.self.inside.failed in
    let bit = leb (c.args.p0 * (w.length / 8192)) w.value in
    let lies : IsIn (input_reading w) (Bit c.args.p0 bit) = bit-lies w c.args.p0 (c.self.invariant.1 (rw (← c.self.view_is) at c.requires.good)) in
    let passes = rw (← c.self.view_is, c.bit_part-from.ensures.from, c.bit_part-from.ensures.width) at c.in_ok-take_part.ensures in
    let takes = bit-passes d c.take_part.new.self c.args.p0 bit c.requires.some c.requires.part lies passes in
    rw (← c.self.view_is)
    (record {
      reads = takes;
      bit = refl;
      bad = (λ e. absurd (cc), λ over. absurd (event-enough d c.take_part.new.self (Bit c.args.p0 bit) c.self.invariant.0 lies passes over));
      read = Takes-ReadsOn _ _ d c.take_part.new.self bit (AreCuts-bit c.args.p0 bit c.requires.some c.requires.part) takes;
      none = tt;
    })
