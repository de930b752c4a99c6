use Rattle.std.proofs.Common.{◌≡◌, [], take, drop}
use Rattle.las_words.specs.Texts.{texts}
use Rattle.las_words.specs.Faults.{first_fault}
use Rattle.las_words.proofs.faults.first_fault.Given as goal

abbrev pub invariant-loop-i : goal.invariant-loop-i
invariant-loop-i l = first_fault (texts l.names) (texts l.options.words.now) (take l.i l.options.pieces.now) (drop l.i l.options.pieces.now) ≡ first_fault (texts l.names) (texts l.options.words.now) [] l.options.pieces.now
