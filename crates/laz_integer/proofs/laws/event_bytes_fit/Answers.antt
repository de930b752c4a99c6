use Rattle.std.proofs.Common.{[]}
use Rattle.laz_integer.specs.Events.{cuts_of}
use Rattle.laz_integer.proofs.Ranges.{AreCuts-ranged}
use Rattle.laz_integer.proofs.laws.event_bytes_fit.Goals as goal

pub returns : goal.returns
returns c sizes events all = c.bytes_fit.ensures (cuts_of events) (AreCuts-ranged sizes [] events tt all)
