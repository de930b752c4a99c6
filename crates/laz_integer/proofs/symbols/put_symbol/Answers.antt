use Rattle.laz_integer.proofs.symbols.put_symbol.Goals as goal

pub returns-clause-stands : goal.returns-clause-stands
returns-clause-stands c = rw (← c.model.view_is) c.put_symbol_of.ensures.stands
