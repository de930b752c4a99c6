use Rattle.std.proofs.Common.{arith}
use Rattle.std.proofs.lemmas.List.{take_all, take-append-le}
use Rattle.las_outside.proofs.known_files.KnownFiles.add_unless_there.Goals as goal

pub returns-clause-kept : goal.returns-clause-kept
returns-clause-kept c = grind (arith, take_all, take-append-le)

pub returns-then-any-clause-kept : goal.returns-then-any-clause-kept
returns-then-any-clause-kept c = take_all _ _ (omega (arith, c.args.self.now.files.ok.0))
