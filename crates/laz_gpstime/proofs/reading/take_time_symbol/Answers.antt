use Rattle.std.proofs.Common.{◌<◌, refl, arith}
use Rattle.laz_models.specs.Bank.{model_at}
use Rattle.laz_models.specs.Dist.{alphabet_size}
use Rattle.laz_integer.proofs.Public.{Reads-equal}
use Rattle.laz_gpstime.specs.Choices.{time_symbol_cuts}
use Rattle.laz_gpstime.specs.State.{state_of}
use Rattle.laz_gpstime.specs.Slots.{difference_of}
use Rattle.laz_gpstime.specs.Times.{model_of, symbols_of}
use Rattle.laz_gpstime.proofs.Models.{model-size, symbol-state}
use Rattle.laz_gpstime.proofs.reading.take_time_symbol.Goals as goal

pub returns-clause-reads : goal.returns-clause-reads
returns-clause-reads c =
    let st = state_of c.args.times.now in
    let size = model-size st (difference_of st) c.requires.state in
    let reads = rw (c.model_of.ensures, c.current-difference.ensures) at c.take_frequent_symbol_of.ensures.reads in
    Reads-equal c.take_frequent_symbol_of.result (λ s. s < alphabet_size (model_at st.symbols (model_of (difference_of st)))) (λ s. s < symbols_of (difference_of st)) (time_symbol_cuts st) (time_symbol_cuts st) c.args.decoder.now c.take_frequent_symbol_of.new.decoder (λ x q. omega (arith, q, size)) (λ x q. omega (arith, q, size)) (λ x. refl) reads

pub returns-clause-state : goal.returns-clause-state
returns-clause-state c = symbol-state (state_of c.args.times.now) c.take_frequent_symbol_of.new.bank c.requires.state c.take_frequent_symbol_of.ensures.sizes
