use Rattle.std.proofs.Common.{◌≡◌, ◌<◌, ◌^◌, take}
use Rattle.laz_range.specs.Span.{number}
use Rattle.laz_range.proofs.number.number_of.Given as goal

abbrev pub invariant-loop-byte : goal.invariant-loop-byte
invariant-loop-byte l = (l.value ≡ number (take l.byte-index l.bytes)) × (l.value < 256 ^ l.byte-index)
