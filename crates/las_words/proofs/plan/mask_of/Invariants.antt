use Rattle.std.proofs.Common.{◌≡◌, ◌^◌, take}
use Rattle.std.specs.Prelude.{bit_or, fold}
use Rattle.las_words.specs.Texts.{texts}
use Rattle.las_words.specs.Numbers.{number_or_zero}
use Rattle.las_words.proofs.plan.mask_of.Given as goal

abbrev pub invariant-loop-k : goal.invariant-loop-k
invariant-loop-k l = l.mask ≡ fold (λ mask word. bit_or mask (2 ^ number_or_zero l.most word)) 0 (take l.k (texts l.after))
