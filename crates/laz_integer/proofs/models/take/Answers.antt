use Rattle.std.proofs.Common.{◌<◌, ◌≤◌, [], ◌∷◌}
use Rattle.std.proofs.lemmas.Result.{err_from_is_err_and}
use Rattle.laz_range.proofs.Public.{Takes-then, TakesNone-first, TakesNone-second}
use Rattle.laz_models.specs.Bank.{model_at}
use Rattle.laz_integer.specs.Corrector.{choices}
use Rattle.laz_integer.specs.Integer.{symbol_cut, symbol_next}
use Rattle.laz_integer.specs.Integer.{digit_cuts}
use Rattle.laz_integer.specs.Models.{state_of}
use Rattle.laz_integer.proofs.models.take.Goals as goal

pub returns-in_err-k-clause-reads : goal.returns-in_err-k-clause-reads
returns-in_err-k-clause-reads c =
    let p = err_from_is_err_and c.from_residual.result c.from_residual.ensures.1 in
    let st = state_of c.args.models.now in
    rw p.1 (TakesNone-first (λ k. k ≤ st.bits) (λ k v. v < choices k) (λ k. symbol_cut (model_at st.bank c.args.ctx) k ∷ []) (λ k. digit_cuts (symbol_next st c.args.ctx k) k) c.args.decoder.now c.take_width.new.decoder c.in_err-k.ensures.reads)

pub returns-in_err-v-clause-reads : goal.returns-in_err-v-clause-reads
returns-in_err-v-clause-reads c =
    let p = err_from_is_err_and c.from_residual-in_err-v.result c.from_residual-in_err-v.ensures.1 in
    let st = state_of c.args.models.now in
    let rest = rw c.in_ok-k.ensures.next at c.in_err-v.ensures.reads in
    rw p.1 (TakesNone-second (λ k. k ≤ st.bits) (λ k v. v < choices k) (λ k. symbol_cut (model_at st.bank c.args.ctx) k ∷ []) (λ k. digit_cuts (symbol_next st c.args.ctx k) k) c.args.decoder.now c.take_width.new.decoder c.take_rest.new.decoder c.in_ok-k.k c.in_ok-k.ensures.reads rest)

pub returns-clause-reads : goal.returns-clause-reads
returns-clause-reads c =
    let st = state_of c.args.models.now in
    let rest = rw c.in_ok-k.ensures.next at c.in_ok-v.ensures.reads in
    Takes-then (λ k. k ≤ st.bits) (λ k v. v < choices k) (λ k. symbol_cut (model_at st.bank c.args.ctx) k ∷ []) (λ k. digit_cuts (symbol_next st c.args.ctx k) k) c.args.decoder.now c.take_width.new.decoder c.take_rest.new.decoder c.in_ok-k.k c.in_ok-v.v c.in_ok-k.ensures.reads rest
