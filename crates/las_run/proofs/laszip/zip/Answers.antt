use Rattle.std.proofs.Common.{sym, ap}
use Rattle.std.specs.Prelude.{is_some}
use Rattle.las_run.proofs.Zipping.{ends_packing, ends_unpacking}
use Rattle.las_run.proofs.laszip.zip.Goals as goal

pub returns-in-None-clause-ends : goal.returns-in-None-clause-ends
returns-in-None-clause-ends g c =
    let h = c.pack.ensures in
    λ out. ends_packing c.args.reader c.args.output.now c.args.chunk (g.F.Files.seen c.args.files.now) (g.F.Files.seen c.pack.new.files) out c.requires.stands
    (sym c.in-None.ensures) c.pack.result h.never h.ends

pub returns-in-Some-clause-ends : goal.returns-in-Some-clause-ends
returns-in-Some-clause-ends g c =
    let h = c.unpack.ensures in
    λ out. ends_unpacking c.args.reader c.args.output.now c.args.chunk (g.F.Files.seen c.args.files.now) (g.F.Files.seen c.unpack.new.files) out c.requires.stands
    (ap is_some (sym c.in-Some.ensures)) c.unpack.result h.bad h.ends
