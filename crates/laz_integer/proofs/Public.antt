-- The lemmas of this crate that the crates above use. All other modules of proofs/ are private.
pub use Rattle.laz_integer.proofs.BankModels.{byte-model, difference-back, first-model, new-stands, reset-stands, sized-none}
pub use Rattle.laz_integer.proofs.Bounds.{byte-few, corrector-few, int-few, length-cuts, raw-few, word-few}
pub use Rattle.laz_integer.proofs.Cases.{by-width, events-most, events-narrow, events-wide, events-zero}
pub use Rattle.laz_integer.proofs.Choices.{Reads-equal, Takes-onto, TakesNone-onto}
pub use Rattle.laz_integer.proofs.Counted.{AreIntEvents, IsInts-event, corrector-events}
pub use Rattle.laz_integer.proofs.Joins.{Both, both-first, both-second, both-takes}
pub use Rattle.laz_integer.proofs.Lists.{by-parts, cond-append, cons_same, no-elements, take-front, two_lists}
pub use Rattle.laz_integer.proofs.Named.{bits-symbol, cuts-raw, cuts_after-append, raw-short, raw-wide, same_text-refl, symbols-without, symbols_under-append}
pub use Rattle.laz_integer.proofs.Parting.{One, Part, as-one, byte-one, int-one, made-one, none-one, raw-one, symbol-one, symbols-apart, then, word-one}
pub use Rattle.laz_integer.proofs.Pieces.{Piece, Piece-both, Piece-byte, Piece-int, Piece-none, Piece-symbol, Piece-then, Piece-word, frame-bank}
pub use Rattle.laz_integer.proofs.Products.{next_suc, place-is, place-within}
pub use Rattle.laz_integer.proofs.Ranges.{AreAlike-ranged, AreCuts-ranged, AreRanged-append, AreRanged-front, Begins-more, IsCut-ranged, byte-ranged, event-from_cut, int-ranged, raw-ranged, word-ranged}
pub use Rattle.laz_integer.proofs.Spellings.{AreCuts-int, corrected-passed, fixed-none, fixed-reads, word_of}
pub use Rattle.laz_integer.proofs.SymbolParts.{sized-takes}
pub use Rattle.laz_integer.proofs.Uses.{Silent-append, Silent-int, Silent-none, Silent-other, Silent-raws, all-silent, bank-silent, both_true, first-other, int-silent}
pub use Rattle.laz_integer.proofs.Words.{word-bits, word-fits, word-made}
pub use Rattle.laz_integer.proofs.Writing.{IsCorrector-written, spells-written}
pub use Rattle.laz_integer.proofs.Parting.{same_pair}
