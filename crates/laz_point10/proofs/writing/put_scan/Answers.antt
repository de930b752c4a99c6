use Rattle.std.proofs.Common.{◌<◌, rules}
use Rattle.laz_integer.proofs.Public.{byte-model}
use Rattle.laz_point10.proofs.writing.put_scan.Goals as goal

pub put_byte-requires-2-clause-size : goal.put_byte-requires-2-clause-size
put_byte-requires-2-clause-size c =
    let small : c.args.e.now.previous.user_data < 256 = search rules in
    (byte-model 256 c.args.e.now.previous.user_data c.args.models.now.users c.requires.models.users small).1
