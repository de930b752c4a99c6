use Rattle.las_words.proofs.Cutting.{texts-rest}
use Rattle.las_words.proofs.pieces.words_from.Goals as goal

pub returns-then-at-words : goal.returns-then-at-words
returns-then-at-words c = texts-rest c.args.words.now c.args.at
