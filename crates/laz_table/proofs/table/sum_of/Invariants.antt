use Rattle.std.proofs.Common.{◌≡◌, ◌≤◌, ◌*◌, take}
use Rattle.std.specs.Prelude.{sum}
use Rattle.laz_table.proofs.table.sum_of.Given as goal

abbrev pub invariant-loop-number : goal.invariant-loop-number
invariant-loop-number l = record { sum : l.all ≡ sum (take l.number-index l.numbers); few : l.all ≤ 4294967296 * l.number-index }
