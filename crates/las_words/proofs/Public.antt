-- The lemmas of this crate that the crates above use. All other modules of proofs/ are private.
pub use Rattle.las_words.proofs.Chosen.{bytes_eq-swap}
