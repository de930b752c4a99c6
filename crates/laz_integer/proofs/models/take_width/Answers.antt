use Rattle.std.proofs.Common.{arith, refl, set}
use Rattle.laz_integer.specs.Models.{state_of}
use Rattle.laz_integer.proofs.States.{models-count, width-size}
use Rattle.laz_models.specs.Counting.{after_symbol}
use Rattle.laz_models.specs.Bank.{model_at}
use Rattle.laz_integer.proofs.Sounds.{asked_of, bank-after, IsIntState-width}
use Rattle.laz_integer.proofs.Choices.{Reads-equal}
use Rattle.laz_integer.proofs.models.take_width.Goals as goal

pub returns-clause-reads : goal.returns-clause-reads
returns-clause-reads c =
    let size = width-size (state_of c.args.models.now) c.args.ctx c.requires.state c.requires.context in
    Reads-equal c.take_symbol_of.result _ _ _ _ c.args.decoder.now c.take_symbol_of.new.decoder (λ x q. omega (arith, q, size)) (λ x q. omega (arith, q, size)) (λ x. refl) c.take_symbol_of.ensures.reads

pub returns-clause-state : goal.returns-clause-state
returns-clause-state c =
    let st = state_of c.args.models.now in
    let size = width-size st c.args.ctx c.requires.state c.requires.context in
    let asked = asked_of c.take_symbol_of.result _ _ c.args.decoder.now c.take_symbol_of.new.decoder c.take_symbol_of.ensures.reads in
    bank-after c.take_symbol_of.result _ (λ k. set st.bank c.args.ctx (after_symbol (model_at st.bank c.args.ctx) k)) st c.take_symbol_of.new.bank c.requires.state asked
    (λ k small. IsIntState-width st c.args.ctx k c.requires.state c.requires.context (omega (arith, small, size))) c.take_symbol_of.ensures.after_symbol c.take_symbol_of.ensures.kept

pub take_symbol_of-requires-clause-model : goal.take_symbol_of-requires-clause-model
take_symbol_of-requires-clause-model c = omega (arith, models-count (state_of c.args.models.now) c.requires.state, c.requires.context)
