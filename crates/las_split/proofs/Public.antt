-- The lemmas of this crate that the crates above use. All other modules of proofs/ are private.
pub use Rattle.las_split.proofs.BatchesTaken.{head_some}
pub use Rattle.las_split.proofs.Changing.{distinct, firsts_once}
pub use Rattle.las_split.proofs.Making.{only_parts}
pub use Rattle.las_split.proofs.Opening.{not_there}
pub use Rattle.las_split.proofs.PuttingFiles.{AreDistinct, IsAbsent}
pub use Rattle.las_split.proofs.SomeSplits.{splits_some}
pub use Rattle.las_split.proofs.Joining.{next_div, low}
