-- The lemmas of this crate that the crates above use. All other modules of proofs/ are private.
pub use Rattle.laz_models.proofs.Banks.{StandsFor-new_model, StandsFor-push, size-at, sizes-set}
pub use Rattle.laz_models.proofs.BitStand.{BitStandsFor-new_bit_model, BitStandsFor-push}
pub use Rattle.laz_models.proofs.Layouts.{sizes-new_model}
pub use Rattle.laz_models.proofs.Lists.{dist-AreStarts, p0-below, p0-some}
pub use Rattle.laz_models.proofs.Lookups.{last_at, step-below}
pub use Rattle.laz_models.proofs.Sounds.{AreSound-new_model, AreSound-set, IsBitCounting-after_bit, IsBitCounting-new_bit_model}
pub use Rattle.laz_models.proofs.Parts.{sum-cons}
