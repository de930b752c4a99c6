use Rattle.std.proofs.Common.{◌∷◌, replicate, [], refl, ◌∙◌, arith}
use Rattle.std.proofs.lemmas.Result.{err_from_is_err_and}
use Rattle.laz_models.specs.Bank.{model_at}
use Rattle.laz_integer.proofs.Public.{sized-takes, sized-none, first-model}
use Rattle.laz_rgb.proofs.Made.{made-is}
use Rattle.laz_rgb.proofs.Takings.{bank-high, none-changes, none-high, none-low, none-red, some-high}
use Rattle.laz_rgb.proofs.Walks.{sized-rows}
use Rattle.laz_rgb.proofs.reading.take_colour.Goals as goal

pub returns-in_err-symbol-clause-reads : goal.returns-in_err-symbol-clause-reads
returns-in_err-symbol-clause-reads g c =
    let p = err_from_is_err_and c.from_residual.result c.from_residual.ensures.1 in
    let size = (first-model c.args.bank.now 128 (replicate 6 256) c.requires.sizes).1 in
    rw p.1 (none-changes c.args.bank.now c.args.decoder.now c.take_frequent_symbol_of.new.decoder (sized-none (model_at c.args.bank.now 0) 128 _ _ size c.in_err-symbol.ensures.reads))

pub returns-in_err-red-clause-reads : goal.returns-in_err-red-clause-reads
returns-in_err-red-clause-reads g c =
    let p = err_from_is_err_and c.from_residual-in_err-red.result c.from_residual-in_err-red.ensures.1 in
    let size = (first-model c.args.bank.now 128 (replicate 6 256) c.requires.sizes).1 in
    let s = c.in_ok-symbol.symbol in
    let f = sized-takes (model_at c.args.bank.now 0) s 128 _ _ size c.in_ok-symbol.ensures.reads in
    let red = rw c.colour_marks-marks.ensures at c.in_err-red.ensures.reads in
    rw p.1 (none-red c.args.bank.now s c.take_frequent_symbol_of.new.bank c.args.decoder.now c.take_frequent_symbol_of.new.decoder f c.in_ok-symbol.ensures.after_symbol c.take_red.new.decoder red)

pub take_green_blue-requires-clause-models : goal.take_green_blue-requires-clause-models
take_green_blue-requires-clause-models g c j lt =
    sized-rows 4 3 c.take_red.new.bank (128 ∷ 256 ∷ 256 ∷ []) (c.in_ok-red.ensures.sizes ∙ (c.in_ok-symbol.ensures.sizes ∙ c.requires.sizes)) refl j (omega (arith, lt))

pub take_green_blue-requires-2-clause-models : goal.take_green_blue-requires-2-clause-models
take_green_blue-requires-2-clause-models g c j lt =
    sized-rows 2 5 c.take_green_blue.new.bank (128 ∷ 256 ∷ 256 ∷ 256 ∷ 256 ∷ []) (c.in_ok-low.ensures.sizes ∙ (c.in_ok-red.ensures.sizes ∙ (c.in_ok-symbol.ensures.sizes ∙ c.requires.sizes))) refl j lt

pub returns-in_err-low-clause-reads : goal.returns-in_err-low-clause-reads
returns-in_err-low-clause-reads g c =
    let p = err_from_is_err_and c.from_residual-in_err-low.result c.from_residual-in_err-low.ensures.1 in
    let size = (first-model c.args.bank.now 128 (replicate 6 256) c.requires.sizes).1 in
    let s = c.in_ok-symbol.symbol in
    let f = sized-takes (model_at c.args.bank.now 0) s 128 _ _ size c.in_ok-symbol.ensures.reads in
    let red = rw c.colour_marks-marks.ensures at c.in_ok-red.ensures.reads in
    let low = rw c.colour_marks-marks.ensures at c.in_err-low.ensures.reads in
    rw p.1 (none-low c.args.bank.now s c.take_frequent_symbol_of.new.bank c.args.decoder.now c.take_frequent_symbol_of.new.decoder f c.in_ok-symbol.ensures.after_symbol red.0 c.take_red.new.bank c.take_red.new.decoder red.1 red.3 c.take_green_blue.new.decoder low)

pub returns-in_err-high-clause-reads : goal.returns-in_err-high-clause-reads
returns-in_err-high-clause-reads g c =
    let p = err_from_is_err_and c.from_residual-in_err-high.result c.from_residual-in_err-high.ensures.1 in
    let size = (first-model c.args.bank.now 128 (replicate 6 256) c.requires.sizes).1 in
    let s = c.in_ok-symbol.symbol in
    let f = sized-takes (model_at c.args.bank.now 0) s 128 _ _ size c.in_ok-symbol.ensures.reads in
    let red = rw c.colour_marks-marks.ensures at c.in_ok-red.ensures.reads in
    let low = rw c.colour_marks-marks.ensures at c.in_ok-low.ensures.reads in
    let high = rw c.colour_marks-marks.ensures at c.in_err-high.ensures.reads in
    rw p.1 (none-high c.args.bank.now s c.take_frequent_symbol_of.new.bank c.args.decoder.now c.take_frequent_symbol_of.new.decoder f c.in_ok-symbol.ensures.after_symbol red.0 c.take_red.new.bank c.take_red.new.decoder red.1 red.3 low.0 c.take_green_blue.new.bank c.take_green_blue.new.decoder low.1 low.3 c.take_green_blue-2.new.decoder high)

pub returns-clause-reads : goal.returns-clause-reads
returns-clause-reads g c =
    let size = (first-model c.args.bank.now 128 (replicate 6 256) c.requires.sizes).1 in
    let s = c.in_ok-symbol.symbol in
    let f = sized-takes (model_at c.args.bank.now 0) s 128 _ _ size c.in_ok-symbol.ensures.reads in
    let red = rw c.colour_marks-marks.ensures at c.in_ok-red.ensures.reads in
    let low = rw c.colour_marks-marks.ensures at c.in_ok-low.ensures.reads in
    let high = rw c.colour_marks-marks.ensures at c.in_ok-high.ensures.reads in (
      (s, (red.0, (low.0, high.0))),
      some-high c.args.bank.now s c.take_frequent_symbol_of.new.bank c.args.decoder.now c.take_frequent_symbol_of.new.decoder f c.in_ok-symbol.ensures.after_symbol red.0 c.take_red.new.bank c.take_red.new.decoder red.1 red.3 low.0 c.take_green_blue.new.bank c.take_green_blue.new.decoder low.1 low.3 c.take_green_blue-2.new.decoder high.0 high.1,
      c.colour_with.ensures ∙ made-is s c.args.last.now c.in_ok-red.red c.in_ok-low.low c.in_ok-high.high red.0 low.0 high.0 red.2.0 red.2.1 low.2.0 low.2.1 high.2.0 high.2.1,
      bank-high c.args.bank.now s c.take_frequent_symbol_of.new.bank c.args.decoder.now c.take_frequent_symbol_of.new.decoder f c.in_ok-symbol.ensures.after_symbol red.0 c.take_red.new.bank c.take_red.new.decoder red.1 red.3 low.0 c.take_green_blue.new.bank c.take_green_blue.new.decoder low.1 low.3 c.take_green_blue-2.new.bank high.0 high.3,
    )
