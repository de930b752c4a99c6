use Rattle.laz_integer.proofs.Public.{reset-stands}
use Rattle.laz_rgb.proofs.bytes.Bytes.start.Goals as goal

pub returns : goal.returns
returns c = record { models = reset-stands c.self.inside.bank c.reset.new.self c.reset.ensures.sizes c.reset.ensures.stands; last = c.copy_from_slice.ensures.items }
