-- The lemmas of this crate that the crates above use. All other modules of proofs/ are private.
pub use Rattle.las_make.proofs.Ended.{faults_left, whole_form}
