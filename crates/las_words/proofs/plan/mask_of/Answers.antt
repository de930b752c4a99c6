use Rattle.std.proofs.Common.{ℕ, ◌^◌, ◌+◌, ◌<◌, take, sym, subst}
use Rattle.std.proofs.lemmas.Nat.{pow_pos}
use Rattle.las_words.specs.Texts.{texts}
use Rattle.las_words.proofs.Ranges.{masks_range}
use Rattle.las_words.proofs.plan.mask_of.Goals as goal

pub returns-clause-range : goal.returns-clause-range
returns-clause-range c =
    let IsSmall : ℕ → Type 0 = λ n. n < 2 ^ (c.args.most + 1) in
    subst IsSmall (sym c.loop-k.invariant) (masks_range c.args.most 0 (take c.loop-k.k (texts c.args.after.now)) (pow_pos (c.args.most + 1)))
