use Rattle.std.proofs.Common.{◌-◌, arith}
use Rattle.laz_models.proofs.Lookups.{last_at}
use Rattle.laz_models.proofs.lookup.last_at.Goals as goal

pub returns-then-v-ge-SYMBOL_PARTS : goal.returns-then-v-ge-SYMBOL_PARTS
returns-then-v-ge-SYMBOL_PARTS c =
    let n = c.args.size in
    let starts = c.requires.dist.starts in
    last_at n _ c.args.v (n - 1) starts (omega arith) (omega (arith, starts.within (n - 1) (omega arith))) (λ h. absurd (omega arith))
