use Rattle.std.proofs.Common.{◌≡◌, ◌<◌, ◌∙◌, ℕ, ap, sym, arith, take}
use Rattle.std.proofs.lemmas.Result.{on_err_weaker, on_ok_weaker}
use Rattle.las_header.specs.Plain.{cut_records}
use Rattle.las_header.proofs.Public.{cut_length}
use Rattle.las_info.specs.Tallies.{tally_after, with_many}
use Rattle.las_info.proofs.Pieces.{count_of, one_bin}
use Rattle.las_info.proofs.runs.count_group.Goals as goal

pub returns-then-all_have-clause-ok : goal.returns-then-all_have-clause-ok
returns-then-all_have-clause-ok g c =
    let rule = g.B.Bins.bin_of in
    let old = c.args.counted.now in
    let bin = c.of-bin.result in
    let records = cut_records c.args.size c.args.count c.args.group.now in
    on_ok_weaker c.add_more.result (λ (is : c.add_more.new.self ≡ with_many old bin c.args.count).
    is ∙ ap (with_many old bin) (sym (cut_length c.args.size c.args.count c.args.group.now)) ∙ one_bin rule old bin records (c.all_have.ensures c.if-all_have.true))
    c.add_more.ensures.ok

pub returns-clause-ok : goal.returns-clause-ok
returns-clause-ok g c =
    let rule = g.B.Bins.bin_of in
    let old = c.args.counted.now in
    let some : 0 < c.args.size = omega (arith, c.requires.size) in
    on_ok_weaker c.count_block.result (λ is.
    is ∙ ap (λ (n : ℕ). tally_after rule old (cut_records c.args.size n c.args.group.now)) (count_of c.args.size c.args.count c.args.group.now some c.requires.group))
    c.count_block.ensures.ok

pub returns-clause-err : goal.returns-clause-err
returns-clause-err g c =
    let rule = g.B.Bins.bin_of in
    let old = c.args.counted.now in
    let some : 0 < c.args.size = omega (arith, c.requires.size) in
    on_err_weaker c.count_block.result (λ s.
    (s.0, s.1 ∙ ap (λ (n : ℕ). tally_after rule old (take s.0 (cut_records c.args.size n c.args.group.now))) (count_of c.args.size c.args.count c.args.group.now some c.requires.group)))
    c.count_block.ensures.err
