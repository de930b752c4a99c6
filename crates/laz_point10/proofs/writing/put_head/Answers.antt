use Rattle.std.proofs.Common.{◌<◌, rules}
use Rattle.laz_integer.proofs.Public.{byte-model}
use Rattle.laz_point10.proofs.writing.put_head.Goals as goal

pub put_byte-requires-clause-size : goal.put_byte-requires-clause-size
put_byte-requires-clause-size c =
    let small : c.args.previous.now.flags < 256 = search rules in
    (byte-model 256 c.args.previous.now.flags c.args.models.now.flags c.requires.models.flags small).1
