use Rattle.std.proofs.lemmas.Result.{err_from_is_err_and}
use Rattle.laz_gpstime.specs.Choices.{IsFront, IsRest, Front, Rest, front_cuts, front_next, rest_cuts}
use Rattle.laz_gpstime.specs.State.{state_of}
use Rattle.laz_gpstime.specs.Slots.{difference_of}
use Rattle.laz_gpstime.proofs.Rests.{all-after}
use Rattle.laz_range.proofs.Public.{Refuses-first}
use Rattle.laz_gpstime.proofs.reading.take_time.Goals as goal

pub returns-in_err-symbol-clause-reads : goal.returns-in_err-symbol-clause-reads
returns-in_err-symbol-clause-reads g c =
    let p = err_from_is_err_and c.from_residual.result c.from_residual.ensures.1 in
    let st = state_of c.args.times.now in
    rw p.1 (Refuses-first {X = Front} {Y = Rest} (IsFront st) (λ x. IsRest (difference_of (front_next st x)) x.1) (front_cuts st) (λ x. rest_cuts (front_next st x) x.1) c.args.decoder.now c.take_symbols.new.decoder c.in_err-symbol.ensures.reads)

pub returns-clause-reads : goal.returns-clause-reads
returns-clause-reads g c =
    let h = c.in_ok-symbol.ensures.reads in
    all-after c.take_rest.result (state_of c.args.times.now) (state_of c.take_symbols.new.times) (state_of c.take_rest.new.times) c.args.decoder.now c.take_symbols.new.decoder c.take_rest.new.decoder (h.0, c.in_ok-symbol.symbol) h.1 h.2 c.take_rest.ensures.reads
