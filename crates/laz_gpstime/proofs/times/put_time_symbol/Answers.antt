use Rattle.std.proofs.Common.{List, subst, sym}
use Rattle.laz_range.specs.Coding.{Codes}
use Rattle.laz_range.specs.Cut.{Cut}
use Rattle.laz_gpstime.specs.State.{state_of}
use Rattle.laz_gpstime.proofs.Models.{symbol-piece, symbol-stands, symbol-state}
use Rattle.laz_gpstime.proofs.times.put_time_symbol.Goals as goal

pub returns-clause-state : goal.returns-clause-state
returns-clause-state c = symbol-state (state_of c.args.times.now) c.put_symbol_of.new.bank c.requires.state c.put_symbol_of.ensures.sizes

pub returns-clause-codes : goal.returns-clause-codes
returns-clause-codes c earlier h =
    subst (λ (cs : List Cut). Codes c.args.encoder.now c.put_symbol_of.new.encoder cs) (sym ((symbol-piece (state_of c.args.times.now) c.args.symbol c.requires.state c.requires.symbol).cut earlier h)) (rw (c.model_of.ensures, c.current-difference.ensures) at c.put_symbol_of.ensures.codes)

pub returns-clause-stands : goal.returns-clause-stands
returns-clause-stands c earlier h = symbol-stands earlier (state_of c.args.times.now) c.args.symbol c.put_symbol_of.new.bank c.requires.state c.requires.symbol (rw (c.model_of.ensures, c.current-difference.ensures) at c.put_symbol_of.ensures.after_symbol) h
