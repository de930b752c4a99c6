use Rattle.las_header.specs.Heads.{HeadView, KeepsLayout}
use Rattle.std.proofs.Common.{List, ℕ, subst, sym, ◌∙◌, ap, arith, length, ◌≡◌}
use Rattle.las_header.specs.Counting.{short_bytes, with_count_bytes}
use Rattle.las_header.proofs.CountLemmas.{IsCounted, counted_head}
use Rattle.las_header.proofs.head.Head.with_sums.Goals as goal
use Rattle.las_header.proofs.head.Head.with_sums.Goals.{After-put_sums}

counted : (c : After-put_sums) → IsCounted c.head.inside.bytes.items c.put_sums.new.head.items c.args.points
counted c =
    let short = c.short_bytes-short.ensures in
    let long = c.long_bytes-long.ensures in
    let head = c.head.inside.bytes.items in
    subst (λ (h : List ℕ). IsCounted head h c.args.points)
    (sym (c.put_sums.ensures ∙ ap (λ (b : List ℕ). with_count_bytes b c.long_bytes-long.result head) short.bytes ∙ ap (λ (b : List ℕ). with_count_bytes (short_bytes c.args.points c.args.returns) b head) long.bytes))
    (counted_head c.args.points c.args.returns c.args.long_returns head c.head.invariant (omega arith) (ap length (sym short.bytes) ∙ short.len) (ap length (sym long.bytes) ∙ long.len))

pub invariant_of-head : goal.invariant_of-head
invariant_of-head c = (counted c).is_head

pub returns-clause-points : goal.returns-clause-points
returns-clause-points c = (counted c).points

pub returns-clause-kept : goal.returns-clause-kept
returns-clause-kept c =
    let same : c.head.inside.bytes.items ≡ c.args.self.bytes = ap (λ (v : HeadView). v.bytes) c.head.view_is in
    subst (λ (b : List ℕ). KeepsLayout b c.put_sums.new.head.items) same (counted c).kept
