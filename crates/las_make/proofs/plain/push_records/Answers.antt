use Rattle.std.proofs.Common.{◌≡◌, ℕ, subst, arith}
use Rattle.std.specs.List.{concat}
use Rattle.laz_writer.specs.Writing.{Stands}
use Rattle.las_make.specs.Made.{records_from}
use Rattle.las_make.proofs.plain.push_records.Goals as goal

pub returns-clause-stands : goal.returns-clause-stands
returns-clause-stands g c before out s =
    let all : c.loop-from.from ≡ c.args.settings.points = omega (arith, c.loop-from-test.false, c.loop-from.invariant.within) in
    subst (λ (n : ℕ). Stands before (g.F.Files.seen c.loop-from.files) c.loop-from.writer out (concat (records_from c.args.settings 0 n))) all (c.loop-from.invariant.stands before out s)
