use Rattle.std.proofs.Common.{◌≡◌, ◌-◌, ◌*◌, ◌^◌, ◌≤◌, ℕ, true, arith}
use Rattle.laz_range.specs.Decoding.{symbol_place}
use Rattle.laz_models.specs.Bank.{model_at}
use Rattle.laz_models.specs.Dist.{alphabet_size}
use Rattle.laz_models.specs.Lookup.{search_bits}
use Rattle.laz_models.proofs.Public.{step-below}
use Rattle.laz_integer.proofs.Nears.{near-small, reached-first, reached-more, reached-next}
use Rattle.laz_integer.proofs.symbols.near_next_of.Goals as goal

pub near-near-requires-clause-below : goal.near-near-requires-clause-below
near-near-requires-clause-below c =
    let m = model_at c.args.bank.now c.args.m in
    let same : c.step_bits.result ≡ 15 - search_bits (alphabet_size m) = c.step_bits.ensures.is in
    step-below (alphabet_size m) c.estimate.result (rw same at c.estimate.ensures.within)

pub loop-near-init : goal.loop-near-init
loop-near-init c =
    let m = model_at c.args.bank.now c.args.m in
    let place = symbol_place c.args.decoder.now in
    let bits : ℕ = 15 - search_bits (alphabet_size m) in
    let same : c.step_bits.result ≡ bits = c.step_bits.ensures.is in
    let low : c.estimate.result * 2 ^ bits ≤ place = rw same at c.estimate.ensures.below in
    reached-first (alphabet_size m) m.starts (c.estimate.result * 2 ^ bits) place c.near-near.result c.near-near.ensures.starts c.near-near.ensures.near low

pub overflow_add-near : goal.overflow_add-near
overflow_add-near c =
    let m = model_at c.args.bank.now c.args.m in
    omega (arith, near-small (alphabet_size m) m.starts c.loop-near.near.start c.loop-near.near true c.near-near.ensures.starts c.loop-near.invariant.is)

pub near_symbol-near-requires-clause-symbol : goal.near_symbol-near-requires-clause-symbol
near_symbol-near-requires-clause-symbol c =
    let m = model_at c.args.bank.now c.args.m in
    let above : c.loop-near.near.after ≤ symbol_place c.args.decoder.now = c.is_from.ensures.0 c.loop-near-test.true in
    omega (arith, reached-more (alphabet_size m) m.starts (symbol_place c.args.decoder.now) c.loop-near.near c.near-near.ensures.starts c.loop-near.invariant above c.estimate.ensures.guard)

pub loop-near-preserved : goal.loop-near-preserved
loop-near-preserved c =
    let m = model_at c.args.bank.now c.args.m in
    let above : c.loop-near.near.after ≤ symbol_place c.args.decoder.now = c.is_from.ensures.0 c.loop-near-test.true in
    reached-next (alphabet_size m) m.starts (symbol_place c.args.decoder.now) c.loop-near.near c.near_symbol-near.result c.near-near.ensures.starts c.loop-near.invariant above c.estimate.ensures.guard c.near_symbol-near.ensures.symbol c.near_symbol-near.ensures.near
