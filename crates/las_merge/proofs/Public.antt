-- The lemmas of this crate that the crates above use. All other modules of proofs/ are private.
pub use Rattle.las_merge.proofs.CopiedOnce.{copied_by_one, copied_once, kept_or_copied}
pub use Rattle.las_merge.proofs.Existing.{bytes_of_first}
pub use Rattle.las_merge.proofs.Kept.{kept_by_one, kept_or_merged, merged_once}
pub use Rattle.las_merge.proofs.Parts.{parts_merge}
