use Rattle.std.proofs.Common.{◌+◌, ◌-◌, arith, refl, set}
use Rattle.laz_integer.specs.Models.{state_of}
use Rattle.laz_integer.proofs.States.{high-size, high-in}
use Rattle.laz_models.specs.Counting.{after_symbol}
use Rattle.laz_integer.specs.Integer.{high_at}
use Rattle.laz_integer.proofs.Sounds.{asked_of, bank-after, IsIntState-high}
use Rattle.laz_integer.proofs.Choices.{Reads-equal}
use Rattle.laz_integer.proofs.models.take_high.Goals as goal

pub take_symbol_of-requires-clause-model : goal.take_symbol_of-requires-clause-model
take_symbol_of-requires-clause-model c = high-in (state_of c.args.models.now) c.args.k c.requires.state c.requires.some c.requires.range

pub returns-clause-reads : goal.returns-clause-reads
returns-clause-reads c =
    let size = high-size (state_of c.args.models.now) c.args.k c.requires.state c.requires.some c.requires.range in
    Reads-equal c.take_symbol_of.result _ _ _ _ c.args.decoder.now c.take_symbol_of.new.decoder (λ x q. omega (arith, q, size)) (λ x q. omega (arith, q, size)) (λ x. refl) c.take_symbol_of.ensures.reads

pub returns-clause-state : goal.returns-clause-state
returns-clause-state c =
    let st = state_of c.args.models.now in
    let size = high-size st c.args.k c.requires.state c.requires.some c.requires.range in
    let asked = asked_of c.take_symbol_of.result _ _ c.args.decoder.now c.take_symbol_of.new.decoder c.take_symbol_of.ensures.reads in
    bank-after c.take_symbol_of.result _ (λ s. set st.bank (st.contexts + (c.args.k - 1)) (after_symbol (high_at st c.args.k) s)) st c.take_symbol_of.new.bank c.requires.state asked
    (λ s small. IsIntState-high st c.args.k s c.requires.state c.requires.some c.requires.range (omega (arith, small, size))) c.take_symbol_of.ensures.after_symbol c.take_symbol_of.ensures.kept
