use Rattle.std.proofs.Common.{◌≡◌, ◌↔◌, ◌-◌, ◌/◌, ◌^◌, ℕ, true, false, sym, ap, ◌∙◌, subst, arith}
use Rattle.std.proofs.Math.Nat.{div-mul-le_self}
use Rattle.std.proofs.lemmas.Result.{err_from_is_err_and}
use Rattle.laz_range.specs.Cut.{Cut, IsLike, one_event, symbol}
use Rattle.laz_range.specs.Decoding.{Takes, TakesNone, RunsOut, symbol_place}
use Rattle.laz_models.specs.Dist.{alphabet_size}
use Rattle.laz_models.specs.Bank.{model_at}
use Rattle.laz_models.specs.Lookup.{search_bits}
use Rattle.laz_models.proofs.Public.{step-below}
use Rattle.laz_integer.proofs.Nears.{chosen-first}
use Rattle.laz_integer.proofs.SymbolParts.{symbol_at-last, symbol-takes, symbol-none}
use Rattle.laz_integer.proofs.symbols.take_next_by_guess.Goals as goal

pub near-guess-requires-clause-below : goal.near-guess-requires-clause-below
near-guess-requires-clause-below c =
    let m = model_at c.args.bank.now c.args.m in
    let bits : ℕ = 15 - search_bits (alphabet_size m) in
    let same : c.step_bits.result ≡ bits = c.step_bits.ensures.is in
    rw same (step-below (alphabet_size m) (16384 / 2 ^ bits) (omega (arith, div-mul-le_self 16384 (2 ^ bits))))

pub returns-in_err-take_to-clause-reads : goal.returns-in_err-take_to-clause-reads
returns-in_err-take_to-clause-reads c =
    let p = err_from_is_err_and c.from_residual.result c.from_residual.ensures.1 in
    let m = (model_at c.args.bank.now c.args.m) in
    let d = c.args.decoder.now in
    let guess = c.near-guess.result in
    let place = symbol_place d in
    let n = alphabet_size m in
    let are = c.near-guess.ensures.starts in
    let here = c.is_in.ensures.0 c.if-is_in.true in
    let choice = chosen-first n m.starts _ place guess are c.near-guess.ensures.near here.0 here.1 in
    let none = subst (λ (part : Cut). TakesNone (IsLike part) one_event d c.take_to.new.self) choice.part c.in_err-take_to.ensures.reads in
    rw p.1 (symbol-none n m.starts d c.take_to.new.self _ are choice.within none)

pub returns-in_err-take_to-clause-bad : goal.returns-in_err-take_to-clause-bad
returns-in_err-take_to-clause-bad c =
    let p = err_from_is_err_and c.from_residual.result c.from_residual.ensures.1 in
    let m = (model_at c.args.bank.now c.args.m) in
    let d = c.args.decoder.now in
    let guess = c.near-guess.result in
    let place = symbol_place d in
    let n = alphabet_size m in
    let are = c.near-guess.ensures.starts in
    let here = c.is_in.ensures.0 c.if-is_in.true in
    let choice = chosen-first n m.starts _ place guess are c.near-guess.ensures.near here.0 here.1 in
    let same = ap (symbol m.starts) (symbol_at-last n m.starts place _ are choice.last) in
    rw p.1 (subst (λ (part : Cut). (true ≡ true) ↔ RunsOut d part) (choice.part ∙ sym same) c.in_err-take_to.ensures.bad)

pub returns-then-is_in-clause-reads : goal.returns-then-is_in-clause-reads
returns-then-is_in-clause-reads c =
    let m = (model_at c.args.bank.now c.args.m) in
    let d = c.args.decoder.now in
    let guess = c.near-guess.result in
    let place = symbol_place d in
    let n = alphabet_size m in
    let are = c.near-guess.ensures.starts in
    let here = c.is_in.ensures.0 c.if-is_in.true in
    let choice = chosen-first n m.starts _ place guess are c.near-guess.ensures.near here.0 here.1 in
    let takes = subst (λ (part : Cut). Takes (IsLike part) one_event d c.take_to.new.self part) choice.part c.in_ok-take_to.ensures.reads in
    symbol-takes n m.starts d c.take_to.new.self _ are choice.within takes

pub returns-then-is_in-clause-bad : goal.returns-then-is_in-clause-bad
returns-then-is_in-clause-bad c =
    let m = (model_at c.args.bank.now c.args.m) in
    let d = c.args.decoder.now in
    let guess = c.near-guess.result in
    let place = symbol_place d in
    let n = alphabet_size m in
    let are = c.near-guess.ensures.starts in
    let here = c.is_in.ensures.0 c.if-is_in.true in
    let choice = chosen-first n m.starts _ place guess are c.near-guess.ensures.near here.0 here.1 in
    let same = ap (symbol m.starts) (symbol_at-last n m.starts place _ are choice.last) in
    subst (λ (part : Cut). (false ≡ true) ↔ RunsOut d part) (choice.part ∙ sym same) c.in_ok-take_to.ensures.bad
