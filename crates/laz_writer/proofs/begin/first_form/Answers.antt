use Rattle.std.proofs.Common.{Bool, if◌then◌else◌, [], List, ℕ, sym, ◌∙◌, ap}
use Rattle.las_header.specs.Counting.{with_counts}
use Rattle.las_points.specs.Tally.{counts_of}
use Rattle.laz_writer.specs.Writing.{written_head}
use Rattle.laz_writer.proofs.Pushing.{zero_written}
use Rattle.laz_writer.proofs.begin.first_form.Goals as goal

pub returns-then-counted : goal.returns-then-counted
returns-then-counted c =
    let h = c.args.head.now.bytes in
    c.with_counts.ensures.bytes ∙ ap (λ (b : List ℕ). with_counts (counts_of []) b) c.in_ok-written.ensures ∙ zero_written c.args.chunk h c.bytes.ensures.head
    ∙ ap (λ (b : Bool). written_head c.args.chunk (if b then with_counts (counts_of []) h else h)) (sym c.if-counted.true)
