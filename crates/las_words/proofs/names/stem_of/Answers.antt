use Rattle.std.proofs.Common.{List, ℕ, ◌++◌, sym, ◌∙◌, ap}
use Rattle.las_words.specs.Names.{stem_of}
use Rattle.las_words.proofs.PartNames.{end_is}
use Rattle.las_words.proofs.names.stem_of.Goals as goal

pub returns-in-None : goal.returns-in-None
returns-in-None c =
    let output = c.args.output.now in
    absurd (c.in-None.ensures.cases (stem_of output) (end_is output ∙ ap (λ (t : List ℕ). stem_of output ++ t) (sym c.end_of.ensures)))
