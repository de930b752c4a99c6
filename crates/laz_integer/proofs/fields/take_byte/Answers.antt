use Rattle.laz_models.specs.Bank.{model_at}
use Rattle.laz_integer.proofs.SymbolParts.{sized-takes}
use Rattle.laz_integer.proofs.fields.take_byte.Goals as goal

pub returns-then-marked-clause-reads : goal.returns-then-marked-clause-reads
returns-then-marked-clause-reads c =
    rw c.if-marked.true (sized-takes (model_at c.args.bank.now c.args.m) c.in_ok-byte.byte 256 _ _ c.requires.size c.in_ok-byte.ensures.reads)
