use Rattle.std.proofs.Common.{ℕ, ◌/◌, ◌^◌, refl, arith, inl, inr}
use Rattle.std.proofs.lemmas.Result.{err_from_is_err_and}
use Rattle.std.proofs.lemmas.Nat.{one_shl}
use Rattle.laz_range.specs.Cut.{Raw}
use Rattle.laz_range.specs.Reading.{IsIn}
use Rattle.laz_range.specs.Input.{input_reading, decoding_of}
use Rattle.laz_range.proofs.Cuts.{raw_some}
use Rattle.laz_range.proofs.Refills.{no_raw, quotient_is}
use Rattle.laz_range.proofs.Decodings.{Nothing-none}
use Rattle.laz_range.proofs.Events.{raw-passes, raw-stops, event-short, left_short, part_taken}
use Rattle.laz_range.proofs.decoder.Decoder.take_raw_part.Goals as goal

pub nonzero_div-v : goal.nonzero_div-v
nonzero_div-v c = raw_some _ _ c.requires.few (c.self.invariant.2 (rw (← c.self.view_is) at c.requires.good))

pub take_part-requires-clause-below : goal.take_part-requires-clause-below
take_part-requires-clause-below c =
    let w = c.self.inside.input in
    rw (← c.self.view_is) (quotient_is w.value (w.length / 2 ^ c.args.bits) (raw_some _ _ c.requires.few (c.self.invariant.2 (rw (← c.self.view_is) at c.requires.good)))).1

pub returns-then-v-bits : goal.returns-then-v-bits
returns-then-v-bits c =
    let w = c.self.inside.input in
    let unit : ℕ = w.length / 2 ^ c.args.bits in
    let quotient = quotient_is w.value unit (raw_some _ _ c.requires.few (c.self.invariant.2 (rw (← c.self.view_is) at c.requires.good))) in
    let large = rw (one_shl c.args.bits 32 (omega arith)) at c.if-v-bits.true in
    rw (← c.self.view_is)
    (record {
      reads = record { nothing = Nothing-none _ (Raw c.args.bits) (input_reading w) (no_raw (input_reading w) c.args.bits (w.value / unit) large quotient.0); bytes = refl; failed = refl };
      bad = (λ _. inl large, λ _. refl);
      quotient = tt;
    })

pub returns-in_err-take_part : goal.returns-in_err-take_part
returns-in_err-take_part c =
    let p = err_from_is_err_and c.from_residual.result c.from_residual.ensures.1 in
    let w = c.self.inside.input in
    let d = decoding_of w c.self.inside.failed in
    let unit : ℕ = w.length / 2 ^ c.args.bits in
    let quotient = quotient_is w.value unit (raw_some _ _ c.requires.few (c.self.invariant.2 (rw (← c.self.view_is) at c.requires.good))) in
    let lies : IsIn (input_reading w) (Raw c.args.bits (w.value / unit)) = record { above = quotient.0; below = quotient.1 } in
    let small = rw (one_shl c.args.bits 32 (omega arith)) at c.if-v-bits.false in
    let stops = rw (← c.self.view_is) at c.in_err-take_part.ensures in
    let over = event-short d c.take_part.new.self (Raw c.args.bits (w.value / unit)) c.self.invariant.0 lies stops in
    rw (p.1, ← c.self.view_is)
    (record {
      reads = raw-stops d c.take_part.new.self c.args.bits (w.value / unit) c.requires.some c.requires.few small lies stops;
      bad = (λ _. inr (left_short d c.args.bits (w.value / unit) c.self.invariant.0 over), λ _. refl);
      quotient = tt;
    })

pub returns : goal.returns
returns c =
    let w = c.self.inside.input in
    let d = decoding_of w c.self.inside.failed in
    let unit : ℕ = w.length / 2 ^ c.args.bits in
    let quotient = quotient_is w.value unit (raw_some _ _ c.requires.few (c.self.invariant.2 (rw (← c.self.view_is) at c.requires.good))) in
    let lies : IsIn (input_reading w) (Raw c.args.bits (w.value / unit)) = record { above = quotient.0; below = quotient.1 } in
    let small = rw (one_shl c.args.bits 32 (omega arith)) at c.if-v-bits.false in
    let passes = rw (← c.self.view_is) at c.in_ok-take_part.ensures in
    rw (← c.self.view_is)
    (record {
      reads = raw-passes d c.take_part.new.self c.args.bits (w.value / unit) c.requires.some c.requires.few small lies passes;
      bad = (λ e. absurd (cc), λ refused. absurd (part_taken d c.take_part.new.self c.args.bits (w.value / unit) c.self.invariant.0 small lies passes refl refused));
      quotient = refl;
    })
