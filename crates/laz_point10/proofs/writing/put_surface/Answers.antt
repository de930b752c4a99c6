use Rattle.std.proofs.Common.{◌<◌, rules}
use Rattle.laz_range.proofs.Public.{Codes-append}
use Rattle.laz_integer.proofs.Public.{byte-model}
use Rattle.laz_point10.proofs.writing.put_surface.Goals as goal

pub returns-clause-codes : goal.returns-clause-codes
returns-clause-codes c =
    Codes-append _ _ _ _ _ (rw (c.has_bit.ensures, c.intensity_context-context.ensures.context) at c.put_word.ensures.codes) (rw c.has_bit-2.ensures at c.put_byte.ensures.codes)

pub put_byte-requires-clause-size : goal.put_byte-requires-clause-size
put_byte-requires-clause-size c =
    let small : c.args.e.now.previous.classification < 256 = search rules in
    (byte-model 256 c.args.e.now.previous.classification c.args.models.now.classifications c.requires.models.classifications small).1
