use Rattle.std.proofs.Common.{◌*◌, ◌/◌, ◌%◌, ◌^◌, ◌∙◌, ap, arith}
use Rattle.std.proofs.Math.Nat.{mod-eq_of_lt}
use Rattle.laz_range.proofs.Reciprocals.{led-fits, led-masked}
use Rattle.laz_range.proofs.reciprocal.top_of.Goals as goal

pub returns : goal.returns
returns c =
    let len = c.args.len in
    ap (λ z. len * 2 ^ z % 4294967296 / 2097152) (led-masked len c.requires (omega arith))
    ∙ ap (λ n. n / 2097152) (mod-eq_of_lt (led-fits len c.requires (omega arith)))
