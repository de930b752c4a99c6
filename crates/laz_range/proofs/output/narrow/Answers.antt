use Rattle.std.proofs.Common.{◌≡◌, ◌+◌, ◌∙◌, length, arith}
use Rattle.std.proofs.lemmas.List.{with_items_is}
use Rattle.laz_range.specs.Span.{subspan}
use Rattle.laz_range.specs.Output.{low_of, span_of}
use Rattle.laz_range.proofs.Spans.{subspan-IsSpan}
use Rattle.laz_range.proofs.Windows.{room_on, window_on, span_on}
use Rattle.laz_range.proofs.output.narrow.Goals as goal

pub returns-clause-span : goal.returns-clause-span
unfolding subspan
returns-clause-span c =
    let o = c.args.output.now in
    let n = c.bytes_lacking-more.result in
    let ys = c.write-sum.new.bytes in
    let same : length ys ≡ o.bytes.len = c.write-sum.auto.bytes ∙ omega (arith, o.bytes.ok.0) in
    let spells = rw c.deref_mut.ensures.value at c.write-sum.ensures.spells in
    rw (with_items_is o.bytes ys same)
    (span_on o.at o.next c.write-sum.result n (low_of o.at o.next o.low o.bytes.items + c.args.from) c.args.width ys c.write-sum.ensures.bytes c.requires.placed.from (omega (arith, c.write-sum.auto.bytes, c.requires.placed.room)) c.requires.some (omega arith)
    c.bytes_lacking-more.ensures.lacking c.bytes_lacking-more.ensures.few c.write-sum.ensures.window spells.spelled)

pub returns-clause-reached : goal.returns-clause-reached
returns-clause-reached c = rw (returns-clause-span c) (subspan-IsSpan (span_of c.args.output.now) c.args.from c.args.width c.requires.reached c.requires.some c.requires.part)

pub returns-clause-placed : goal.returns-clause-placed
returns-clause-placed c =
    let o = c.args.output.now in
    let n = c.bytes_lacking-more.result in
    let ys = c.write-sum.new.bytes in
    let same : length ys ≡ o.bytes.len = c.write-sum.auto.bytes ∙ omega (arith, o.bytes.ok.0) in
    let items = with_items_is o.bytes ys same in
    record {
      from = omega (arith, c.requires.placed.from);
      room = rw items (room_on c.args.width n o.next (length ys) c.bytes_lacking-more.ensures.fits c.bytes_lacking-more.ensures.few (omega (arith, c.write-sum.auto.bytes, c.requires.left)) (λ few. omega (arith, c.write-sum.auto.bytes, c.requires.short few)));
      bytes = rw items c.write-sum.ensures.bytes;
      window = rw items (window_on o.next c.write-sum.result n ys c.write-sum.ensures.bytes c.bytes_lacking-more.ensures.few (omega (arith, c.write-sum.auto.bytes, c.requires.placed.room)) c.write-sum.ensures.window);
      size = rw items (omega (arith, c.write-sum.auto.bytes, c.requires.placed.size));
      capacity = c.requires.placed.capacity;
    }
