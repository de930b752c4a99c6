use Rattle.std.proofs.Common.{◌≡◌, ◌+◌, drop}
use Rattle.std.specs.List.{prefix_len}
use Rattle.las_words.specs.Texts.{texts}
use Rattle.las_words.specs.Numbers.{is_digits}
use Rattle.las_words.proofs.pieces.digit_words.Given as goal

abbrev pub invariant-loop-index : goal.invariant-loop-index
invariant-loop-index l = l.index + prefix_len is_digits (drop l.index (texts l.words)) ≡ prefix_len is_digits (texts l.words)
