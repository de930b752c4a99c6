use Rattle.std.proofs.Common.{◌≡◌, true, false, sym, ◌∙◌, arith}
use Rattle.std.proofs.lemmas.Result.{on_ok_weaker}
use Rattle.laz_writer.proofs.Ending.{keeps_none, keeps_one}
use Rattle.laz_writer.proofs.packing.Packing.keep_rest.Goals as goal

pub returns-then-has_rest-clause-kept : goal.returns-then-has_rest-clause-kept
returns-then-has_rest-clause-kept c =
    on_ok_weaker c.keep.result (λ is. keeps_one c.args.self.now c.keep.new.self (c.has_rest.ensures.0 c.if-has_rest.true) c.requires.short is) c.keep.ensures.kept

pub returns-clause-kept : goal.returns-clause-kept
returns-clause-kept c =
    keeps_none c.args.self.now (omega (arith, c.requires.short)) (λ some. let clash : true ≡ false = sym (c.has_rest.ensures.1 some) ∙ c.if-has_rest.false in cc)
