-- The lemmas of this crate that the crates above use. All other modules of proofs/ are private.
pub use Rattle.las_filter.proofs.Keeping.{grows}
pub use Rattle.las_filter.proofs.PartNaming.{value_is}
