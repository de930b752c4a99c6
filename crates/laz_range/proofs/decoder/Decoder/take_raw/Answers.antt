use Rattle.std.proofs.Common.{refl, arith, inl, inr}
use Rattle.std.proofs.lemmas.Result.{err_from_is_err_and}
use Rattle.laz_range.specs.Cut.{raw_cuts}
use Rattle.laz_range.proofs.Cuts.{high_whole}
use Rattle.laz_range.proofs.Decodings.{Takes-ReadsOn, TakesNone-NoneBegins, AreCuts-raw}
use Rattle.laz_range.proofs.Events.{wide-takes, wide-stops_low, wide-stops_high, wide-refused, wide-taken, narrow-takes, narrow-stops, narrow-taken}
use Rattle.laz_range.proofs.decoder.Decoder.take_raw.Goals as goal
use Rattle.laz_range.proofs.decoder.Decoder.take_raw.Goals.{then-bits-gt-MAX_RAW_BITS+in_ok-low, else-bits-gt-MAX_RAW_BITS}

pub returns-in_err-low : goal.returns-in_err-low
returns-in_err-low c =
    let p = err_from_is_err_and c.from_residual.result c.from_residual.ensures.1 in
    let d = c.args.self.now in
    let none = wide-stops_low d c.take_raw_part.new.self c.args.bits c.if-bits-gt-MAX_RAW_BITS.true c.in_err-low.ensures.reads in
    rw p.1
    (record {
      reads = none;
      bad = (λ _. inr (c.if-bits-gt-MAX_RAW_BITS.true, inl (c.in_err-low.ensures.bad.0 refl)), λ _. refl);
      read = tt;
      none = TakesNone-NoneBegins _ (raw_cuts c.args.bits) d c.take_raw_part.new.self (λ y small. AreCuts-raw c.args.bits y c.requires.some c.requires.few small) none;
    })

pub returns-in_err-high : goal.returns-in_err-high
returns-in_err-high c =
    let p = err_from_is_err_and c.from_residual-in_err-high.result c.from_residual-in_err-high.ensures.1 in
    let d = c.args.self.now in
    let b = c.args.bits in
    elim c.if-bits-gt-MAX_RAW_BITS.branch [
      | then-bits-gt-MAX_RAW_BITS+in_ok-low w ↦
          let wide = w.if-bits-gt-MAX_RAW_BITS.true in
          let stops = rw (w.self-is, w.more-is) at c.in_err-high.ensures.reads in
          let bad = rw (w.self-is, w.more-is) at c.in_err-high.ensures.bad in
          let none = wide-stops_high d w.take_raw_part.new.self c.take_raw_part-2.new.self b w.in_ok-low.low wide w.in_ok-low.ensures.reads stops in
          rw p.1
          (record {
            reads = none;
            bad = (λ _. wide-refused d w.take_raw_part.new.self b w.in_ok-low.low wide w.in_ok-low.ensures.reads w.in_ok-low.ensures.quotient (bad.0 refl), λ _. refl);
            read = tt;
            none = TakesNone-NoneBegins _ (raw_cuts b) d c.take_raw_part-2.new.self (λ y small. AreCuts-raw b y c.requires.some c.requires.few small) none;
          })
      | else-bits-gt-MAX_RAW_BITS w ↦
          let few = w.if-bits-gt-MAX_RAW_BITS.false in
          let stops = rw (w.self-is, w.more-is) at c.in_err-high.ensures.reads in
          let bad = rw (w.self-is, w.more-is) at c.in_err-high.ensures.bad in
          let none = narrow-stops d c.take_raw_part-2.new.self b few stops in
          rw p.1
          (record {
            reads = none;
            bad = (λ _. inl (few, bad.0 refl), λ _. refl);
            read = tt;
            none = TakesNone-NoneBegins _ (raw_cuts b) d c.take_raw_part-2.new.self (λ y small. AreCuts-raw b y c.requires.some c.requires.few small) none;
          })
    ]

pub returns-then-bits-gt-MAX_RAW_BITS-2 : goal.returns-then-bits-gt-MAX_RAW_BITS-2
returns-then-bits-gt-MAX_RAW_BITS-2 c =
    let d = c.args.self.now in
    let b = c.args.bits in
    elim c.if-bits-gt-MAX_RAW_BITS.branch [
      | then-bits-gt-MAX_RAW_BITS+in_ok-low w ↦
          let wide = w.if-bits-gt-MAX_RAW_BITS.true in
          let reads = rw (w.self-is, w.more-is) at c.in_ok-high.ensures.reads in
          let bad = rw (w.self-is, w.more-is) at c.in_ok-high.ensures.bad in
          let takes = wide-takes d w.take_raw_part.new.self c.take_raw_part-2.new.self b w.in_ok-low.low c.in_ok-high.high wide w.in_ok-low.ensures.reads reads in
          rw (w.low-is, high_whole b c.in_ok-high.high c.requires.few reads.choice.asked)
          (record {
            reads = takes;
            bad = (λ e. absurd (cc), λ refused. absurd (wide-taken d w.take_raw_part.new.self b w.in_ok-low.low wide w.in_ok-low.ensures.reads w.in_ok-low.ensures.quotient (λ r. absurd (cc (w.in_ok-low.ensures.bad.1 r))) (λ r. absurd (cc (bad.1 r))) refused));
            read = Takes-ReadsOn _ (raw_cuts b) d c.take_raw_part-2.new.self _ (AreCuts-raw b _ c.requires.some c.requires.few takes.choice.asked) takes;
            none = tt;
          })
      | else-bits-gt-MAX_RAW_BITS w ↦ absurd (omega (arith, w.if-bits-gt-MAX_RAW_BITS.false, c.if-bits-gt-MAX_RAW_BITS-2.true))
    ]

pub returns : goal.returns
returns c =
    let d = c.args.self.now in
    let b = c.args.bits in
    elim c.if-bits-gt-MAX_RAW_BITS.branch [
      | then-bits-gt-MAX_RAW_BITS+in_ok-low w ↦ absurd (omega (arith, w.if-bits-gt-MAX_RAW_BITS.true, c.if-bits-gt-MAX_RAW_BITS-2.false))
      | else-bits-gt-MAX_RAW_BITS w ↦
          let few = w.if-bits-gt-MAX_RAW_BITS.false in
          let reads = rw (w.self-is, w.more-is) at c.in_ok-high.ensures.reads in
          let bad = rw (w.self-is, w.more-is) at c.in_ok-high.ensures.bad in
          let takes = narrow-takes d c.take_raw_part-2.new.self b c.in_ok-high.high few reads in
          record {
            reads = takes;
            bad = (λ e. absurd (cc), λ refused. absurd (narrow-taken d b few (λ r. absurd (cc (bad.1 r))) refused));
            read = Takes-ReadsOn _ (raw_cuts b) d c.take_raw_part-2.new.self _ (AreCuts-raw b _ c.requires.some c.requires.few takes.choice.asked) takes;
            none = tt;
          }
    ]
