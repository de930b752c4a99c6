use Rattle.std.proofs.Common.{◌≡◌, sym, subst, arith, ◌/◌, length}
use Rattle.std.specs.Prelude.{All}
use Rattle.las_filter.specs.declared.rule.Rule.{Rule}
use Rattle.las_split.specs.Parts.{numbers_from}
use Rattle.las_split.proofs.Runs.{every_all}
use Rattle.las_split.proofs.running.all_have.Goals as goal
use Rattle.las_header.specs.Plain.{cut_all}
use Rattle.las_header.proofs.Public.{cut_length}

pub returns-in-Every : goal.returns-in-Every
returns-in-Every c holds =
    let size = c.args.size in
    let group = c.args.group.now in
    subst (λ (rule : Rule). All (λ n. n ≡ c.args.number) (numbers_from rule c.args.index (cut_all size group))) (sym c.in-Every.is)
    (every_all c.in-Every.n c.args.index c.args.number (cut_all size group)
    (λ k lt. c.lie_in.ensures holds k (omega (arith, lt, cut_length size (length group / size) group))))
