use Rattle.std.proofs.lemmas.Result.{err_from_is_err_and}
use Rattle.laz_models.specs.Bank.{model_at}
use Rattle.laz_integer.proofs.SymbolParts.{symbol-read, symbol-nothing}
use Rattle.laz_integer.proofs.symbols.take_symbol_of.Goals as goal

pub returns-in_err-symbol-clause-none : goal.returns-in_err-symbol-clause-none
returns-in_err-symbol-clause-none c h stands =
    let p = err_from_is_err_and c.from_residual.result c.from_residual.ensures.1 in
    rw p.1 (symbol-nothing (model_at c.args.bank.now c.args.m) c.args.decoder.now c.take_next_of.new.decoder h c.take_next_of.ensures.starts stands c.in_err-symbol.ensures.reads)

pub returns-clause-read : goal.returns-clause-read
returns-clause-read c h stands =
    symbol-read (model_at c.args.bank.now c.args.m) c.args.decoder.now c.take_next_of.new.decoder c.in_ok-symbol.symbol h c.take_next_of.ensures.starts stands c.in_ok-symbol.ensures.reads
