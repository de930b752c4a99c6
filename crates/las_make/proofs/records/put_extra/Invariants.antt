use Rattle.std.proofs.Common.{◌≡◌, ◌+◌, ◌++◌, take}
use Rattle.las_make.specs.Records.{extra_bytes}
use Rattle.las_make.proofs.records.put_extra.Given as goal

abbrev pub invariant-loop-j : goal.invariant-loop-j
invariant-loop-j l = take (l.at + l.j) l.place ≡ take l.at l.fn.place ++ extra_bytes l.j l.k
