use Rattle.std.proofs.Common.{sym, ◌∙◌, ap}
use Rattle.std.specs.Option.{option_map}
use Rattle.std.specs.Str.{bytes_eq}
use Rattle.las_words.specs.declared.pieces.Piece.{Piece}
use Rattle.las_words.specs.Texts.{texts, word_at}
use Rattle.las_words.proofs.Gathered.{found_later}
use Rattle.las_words.proofs.options.Options.place_of.Goals as goal

pub loop-piece-preserved : goal.loop-piece-preserved
loop-piece-preserved c =
    let words = texts c.args.self.now.words.now in
    let name = c.args.name.now in
    ap (option_map (λ (piece : Piece). piece.at))
    (found_later (λ (piece : Piece). bytes_eq (word_at words piece.at) name) c.args.self.now.pieces.now c.loop-piece.piece-index
    _ c.loop-piece-test.true
    (ap (λ word. bytes_eq word name) (sym c.word.ensures) ∙ sym c.eq.ensures ∙ c.if-eq.false))
    ∙ c.loop-piece.invariant
