-- The lemmas of this crate that the crates above use. All other modules of proofs/ are private.
pub use Rattle.laz_range.proofs.Chain.{follows_both, follows_front, same_pair, some_injective}
pub use Rattle.laz_range.proofs.Composition.{Codes-none, Takes-empty, Takes-fewer, Takes-start, Takes-step, Takes-then, Takes-through, TakesNone-first, TakesNone-second, TakesNone-step, TakesNone-through}
pub use Rattle.laz_range.proofs.Cuts.{raw_high}
pub use Rattle.laz_range.proofs.Decodings.{AreCuts-append, Takes-ReadsOn, Takes-begins, TakesNone-NoneBegins}
pub use Rattle.laz_range.proofs.Distributions.{AreAlike-symbols, IsCut-symbol, IsLike-symbols, end-last, end-more, symbol-le}
pub use Rattle.laz_range.proofs.Events.{Takes-pull, TakesNone-pull}
pub use Rattle.laz_range.proofs.Loops.{Nothing-more, Nothing-push, Only-push, all_cuts-push, state_after-push}
pub use Rattle.laz_range.proofs.Reach.{after-IsSpan, bytes-fit, initial_span-IsSpan, last-within, length-digits}
pub use Rattle.laz_range.proofs.Refusals.{Refuses-NoneBegins, Refuses-first, Refuses-none, Refuses-second, Refuses-step, Refuses-through}
pub use Rattle.laz_range.proofs.Streams.{Fits-Begins, IsBytes-drop, IsBytes-take, after-few, none-fits, one-fits, read-fits, unopened-fits}
pub use Rattle.laz_range.proofs.Whole.{Codes-append, CodesInSteps-none, CodesInSteps-step, fronts, one}
