use Rattle.std.proofs.Common.{◌++◌, take}
use Rattle.las_outside.proofs.Public.{changed_after, failed_after, known_of}
use Rattle.laz_writer.proofs.put.put.Goals as goal

pub append-requires : goal.append-requires
append-requires g c = let h = c.requires.held in known_of h.0 c.args.name.now h.1 (λ _. Unit {0}) _ h.2 tt

pub returns-in-Ok-clause-added : goal.returns-in-Ok-clause-added
returns-in-Ok-clause-added g c before text was = changed_after before c.args.name.now text (λ b. b ++ c.args.bytes.now) _ _ was c.in-Ok.ensures.ok

pub returns-in-Err-clause-stopped : goal.returns-in-Err-clause-stopped
returns-in-Err-clause-stopped g c before text was =
    let h = c.in-Err.ensures.err in
    (h.0, failed_after before c.args.name.now text (λ b. b ++ take h.0 c.args.bytes.now) _ _ was h.1)
