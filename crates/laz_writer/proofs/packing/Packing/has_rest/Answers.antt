use Rattle.std.proofs.Common.{rules}
use Rattle.laz_writer.proofs.packing.Packing.has_rest.Goals as goal

pub returns : goal.returns
returns c = search rules
