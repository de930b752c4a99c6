use Rattle.std.proofs.Common.{◌∷◌, replicate, [], length, refl, ap, ◌∙◌, arith}
use Rattle.laz_rgb.proofs.Walks.{sized-rows}
use Rattle.laz_integer.proofs.Public.{first-model}
use Rattle.laz_rgb.proofs.writing.put_colour.Goals as goal

pub put_symbol_of-requires-clause-symbol : goal.put_symbol_of-requires-clause-symbol
put_symbol_of-requires-clause-symbol c = omega (arith, (first-model c.args.bank.now 128 (replicate 6 256) c.requires.sizes).1, c.changes-symbol.ensures.few)

pub put_row-requires-clause-models : goal.put_row-requires-clause-models
put_row-requires-clause-models c j lt =
    sized-rows 6 1 c.put_symbol_of.new.bank (128 ∷ []) (c.put_symbol_of.ensures.sizes ∙ c.requires.sizes) refl j (omega (arith, lt, ap length c.colour_symbols-symbols.ensures))
