use Rattle.std.proofs.Common.{◌≡◌, ◌+◌, ◌%◌, ◌^◌, ap, ◌∙◌}
use Rattle.std.specs.Int.{w32, cast_signed, cast_unsigned}
use Rattle.std.proofs.lemmas.Int.{of_z-to_z, to_z-of_z}
use Rattle.laz_integer.specs.Corrector.{corrector}
use Rattle.laz_integer.proofs.Correctors.{low-mod}
use Rattle.laz_integer.proofs.corrector.correct.Goals as goal

pub returns : goal.returns
returns c =
    let sum : c.low_bits.result ≡ (cast_unsigned w32 c.args.pred + corrector c.args.bits c.args.k c.args.v) % 2 ^ c.args.bits =
    c.low_bits.ensures ∙ (low-mod _ c.args.bits c.requires.few ∙ (c.corrector_word.ensures c.cast_unsigned.result ∙ ap (λ n. (n + corrector c.args.bits c.args.k c.args.v) % 2 ^ c.args.bits) (c.cast_unsigned.ensures ∙ ap (cast_unsigned w32) (to_z-of_z w32 c.args.pred c.ranges.pred)))) in
    ap (λ z. cast_signed w32 (cast_unsigned w32 z)) c.cast_signed.ensures ∙ (ap (cast_signed w32) (of_z-to_z w32 c.low_bits.result c.low_bits.type_inv) ∙ ap (cast_signed w32) sum)
