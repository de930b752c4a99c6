use Rattle.laz_integer.proofs.symbols.take_symbol.Goals as goal

pub returns-clause-reads : goal.returns-clause-reads
returns-clause-reads c = rw (← c.model.view_is) c.take_symbol_of.ensures.reads

pub returns-clause-read : goal.returns-clause-read
returns-clause-read c = rw (← c.model.view_is) c.take_symbol_of.ensures.read

pub returns-clause-stands : goal.returns-clause-stands
returns-clause-stands c = rw (← c.model.view_is) c.take_symbol_of.ensures.stands

pub returns-clause-none : goal.returns-clause-none
returns-clause-none c = rw (← c.model.view_is) c.take_symbol_of.ensures.none
