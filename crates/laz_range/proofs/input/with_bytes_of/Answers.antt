use Rattle.std.proofs.Common.{arith}
use Rattle.laz_range.proofs.Ahead.{joined}
use Rattle.laz_range.proofs.input.with_bytes_of.Goals as goal

pub returns : goal.returns
returns c = joined c.args.value c.args.word c.args.more c.requires.few c.requires.fits (omega arith)
