use Rattle.std.proofs.Common.{◌≡◌, ◌+◌, ◌-◌, ◌%◌, ◌^◌, ap, ◌∙◌}
use Rattle.std.specs.Int.{w32, cast_unsigned}
use Rattle.std.proofs.lemmas.Int.{to_z-of_z}
use Rattle.laz_integer.proofs.Correctors.{low-mod}
use Rattle.laz_integer.proofs.corrector.between.Goals as goal

pub returns-clause-difference : goal.returns-clause-difference
returns-clause-difference c =
    let real : c.cast_unsigned.result ≡ cast_unsigned w32 c.args.real = c.cast_unsigned.ensures ∙ ap (cast_unsigned w32) (to_z-of_z w32 c.args.real c.ranges.real) in
    let pred : c.cast_unsigned-2.result ≡ cast_unsigned w32 c.args.pred = c.cast_unsigned-2.ensures ∙ ap (cast_unsigned w32) (to_z-of_z w32 c.args.pred c.ranges.pred) in
    c.low_bits.ensures ∙ (low-mod _ c.args.bits c.requires.few ∙ (ap (λ n. (n + (4294967296 - c.cast_unsigned-2.result)) % 2 ^ c.args.bits) real ∙ ap (λ n. (cast_unsigned w32 c.args.real + (4294967296 - n)) % 2 ^ c.args.bits) pred))
