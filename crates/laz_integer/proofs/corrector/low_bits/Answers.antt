use Rattle.std.proofs.lemmas.Nat.{and_mask}
use Rattle.laz_integer.proofs.Correctors.{mask_is}
use Rattle.laz_integer.proofs.corrector.low_bits.Goals as goal

pub returns : goal.returns
returns c = rw (mask_is c.args.bits c.requires.few) (and_mask c.args.word c.args.bits)
