use Rattle.std.proofs.Common.{◌≡◌, ◌+◌, ◌-◌, ◌*◌, ◌/◌, ◌^◌, ◌<◌, ◌≤◌, ◌∙◌, drop, length, take, ap, sym, arith, length-drop}
use Rattle.laz_range.specs.Input.{input_reading}
use Rattle.laz_range.specs.Span.{number}
use Rattle.laz_range.proofs.Fronts.{number-front}
use Rattle.laz_range.proofs.LastWords.{runs_out}
use Rattle.laz_range.proofs.Reciprocals.{top-on}
use Rattle.laz_range.proofs.Streams.{IsBytes-drop}
use Rattle.laz_range.proofs.Ahead.{powers, reads_ahead, long_ahead, below_ahead}
use Rattle.laz_range.proofs.input.advance.Goals as goal
use Rattle.laz_range.proofs.input.advance.Goals.{then-left-lt4+else-left-more, else-left-lt4}

pub returns-then-left-more-clause-reads : goal.returns-then-left-more-clause-reads
returns-then-left-more-clause-reads c =
    let w = c.args.input.now in
    runs_out (input_reading w) c.args.from c.args.width (omega arith) (omega (arith, c.if-left-more.true, c.bytes_lacking-more.ensures.lacking, length-drop w.taken w.bytes.now))

pub returns-clause-reads : goal.returns-clause-reads
returns-clause-reads c =
    let w = c.args.input.now in
    let n = c.bytes_lacking-more.result in
    let rest = drop w.taken w.bytes.now in
    let read : (w.taken + n ≤ length w.bytes.now) × (c.if-left-lt4.ahead / 256 ^ (4 - n) ≡ number (take n rest)) =
    elim c.if-left-lt4.branch [
      | then-left-lt4+else-left-more b ↦
          let enough : w.taken + n ≤ length w.bytes.now = omega (arith, b.if-left-more.false, c.requires.within) in
          (enough, ap (λ a. a / 256 ^ (4 - n)) b.ahead-is ∙ b.last_word-ahead.ensures n enough)
      | else-left-lt4 b ↦
          let all : 4 ≤ length rest = omega (arith, b.if-left-lt4.false, length-drop w.taken w.bytes.now) in
          let enough : w.taken + n ≤ length w.bytes.now = omega (arith, b.if-left-lt4.false, c.requires.within, c.bytes_lacking-more.ensures.few) in
          (enough, ap (λ a. a / 256 ^ (4 - n)) (b.ahead-is ∙ b.four_at-ahead.ensures.number) ∙ sym (number-front n (4 - n) 4 rest (IsBytes-drop w.taken w.bytes.now b.four_at-ahead.ensures.bytes) (omega (arith, c.bytes_lacking-more.ensures.few)) all))
    ] in
    rw (c.with_bytes_of-input.ensures, read.1)
    (reads_ahead w.value w.length c.args.from c.args.width n w.taken w.bytes.now read.0 (omega arith) (omega arith) c.bytes_lacking-more.ensures.lacking)

pub returns-clause-below : goal.returns-clause-below
returns-clause-below c =
    let fits : c.if-left-lt4.ahead < 4294967296 =
    elim c.if-left-lt4.branch [
      | then-left-lt4+else-left-more b ↦ omega (arith, b.ahead-is)
      | else-left-lt4 b ↦ omega (arith, b.ahead-is)
    ] in
    rw c.with_bytes_of-input.ensures
    (below_ahead _ c.args.width c.if-left-lt4.ahead c.bytes_lacking-more.result (omega arith) (omega arith) fits c.bytes_lacking-more.ensures.lacking)

pub returns-clause-long : goal.returns-clause-long
returns-clause-long c = long_ahead c.args.width c.bytes_lacking-more.result (omega arith) (omega arith) c.bytes_lacking-more.ensures.lacking

pub returns-clause-top : goal.returns-clause-top
returns-clause-top c =
    let n = c.bytes_lacking-more.result in
    c.top_of-input.ensures ∙ sym (top-on c.args.width (8 * n) (omega arith) (rw (powers n c.bytes_lacking-more.ensures.few) c.bytes_lacking-more.ensures.fits))
