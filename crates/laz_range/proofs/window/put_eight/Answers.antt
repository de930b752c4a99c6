use Rattle.std.proofs.Common.{◌∙◌, arith}
use Rattle.laz_range.proofs.Renewals.{low_byte}
use Rattle.laz_range.proofs.Windows.{eight_written, eight_digits}
use Rattle.laz_range.proofs.window.put_eight.Goals as goal

pub returns : goal.returns
returns c =
    eight_written c.args.bytes.now _ _ _ _ _ _ _ _ c.requires ∙ simp low_byte (eight_digits c.args.value (omega arith))
