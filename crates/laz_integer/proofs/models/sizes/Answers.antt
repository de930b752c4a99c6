use Rattle.std.proofs.Common.{◌≡◌, ℕ, ◌+◌, ◌*◌, ◌^◌, ◌%◌, ◌<◌, ◌∙◌, ap, min, replicate, arith, rules}
use Rattle.std.proofs.lemmas.Nat.{one_shl}
use Rattle.laz_integer.specs.Integer.{int_sizes}
use Rattle.laz_integer.proofs.States.{sizes-more}
use Rattle.laz_integer.proofs.models.sizes.Goals as goal

pub loop-k-preserved : goal.loop-k-preserved
loop-k-preserved c =
    let least : c.min.result ≡ min c.loop-k.k 8 = c.min.ensures in
    let small : c.min.result < 32 = omega arith in
    let size : 1 * 2 ^ c.min.result % 4294967296 ≡ 2 ^ min c.loop-k.k 8 = one_shl c.min.result 32 small ∙ ap (λ (n : ℕ). 2 ^ n) least in
    c.in_ok-push.ensures.items ∙ sizes-more (replicate c.args.contexts (c.args.bits + 1)) c.loop-k.sizes.items c.loop-k.k _ c.loop-k.auto.k size c.loop-k.invariant

pub returns : goal.returns
unfolding int_sizes
returns c = search rules
