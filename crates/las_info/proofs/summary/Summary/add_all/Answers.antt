use Rattle.std.proofs.Common.{◌≡◌, ℕ, ◌/◌, List, [], ◌∷◌, ◌++◌, length, append_assoc, sym, ◌∙◌, ap, arith}
use Rattle.las_header.specs.declared.counts.Counts.{Counts}
use Rattle.las_header.specs.Plain.{cut_records}
use Rattle.las_info.specs.Extents.{extents_with}
use Rattle.las_info.specs.Summaries.{SummarySeen, summary_of}
use Rattle.las_info.proofs.Running.{first_cut, none_cut, others_fewer, others_whole}
use Rattle.las_info.proofs.Widening.{one_more_extends}
use Rattle.las_info.proofs.summary.Summary.add_all.Goals as goal

pub summed-requires-clause-whole : goal.summed-requires-clause-whole
summed-requires-clause-whole c =
    others_whole c.args.size c.args.block.now c.split_at.result.1.now c.requires.whole (omega arith) c.split_at.ensures.back

pub summed-requires-clause-fewer : goal.summed-requires-clause-fewer
summed-requires-clause-fewer c =
    let start : c.self.inside.counts.points ≡ c.args.self.now.counts.points = ap (λ (s : SummarySeen). s.counts.points) c.self.view_is in
    omega (
      arith,
      start,
      ap (λ (x : Counts). x.points) c.count_in.ensures.counts,
      c.requires.fewer,
      others_fewer c.args.size c.args.block.now c.split_at.result.1.now (omega arith) (omega arith) c.split_at.ensures.back,
    )

pub returns-then-block-size : goal.returns-then-block-size
returns-then-block-size c records is =
    is ∙ ap (λ (r : List (List ℕ)). summary_of r) (sym (none_cut c.args.size c.args.block.now records (omega (arith, c.if-block-size.true))))

pub returns : goal.returns
returns c records is =
    let size = c.args.size in
    let block = c.args.block.now in
    let point = c.split_at.result.0.now in
    let others = c.split_at.result.1.now in
    let seen = c.self.view_is ∙ is in
    let counted = c.count_in.ensures.list records (ap (λ (s : SummarySeen). s.counts) seen) in
    let extended = c.extended.ensures ∙ ap (λ (s : SummarySeen). extents_with s.extents point) seen ∙ sym (one_more_extends records point) in
    let cut = first_cut size block point others (omega arith) (omega arith) c.split_at.ensures.front c.split_at.ensures.back in
    let joined = append_assoc records (point ∷ []) (cut_records size (length others / size) others) ∙ ap (λ (r : List (List ℕ)). records ++ r) cut in
    sym (c.summed.ensures.list (records ++ point ∷ []) counted extended) ∙ ap (λ (r : List (List ℕ)). summary_of r) joined
