-- The lemmas of this crate that the crates above use. All other modules of proofs/ are private.
pub use Rattle.laz_copied.proofs.Chunks.{piece_counts}
pub use Rattle.laz_copied.proofs.Copies.{accepted, records}
pub use Rattle.laz_copied.proofs.Merged.{all_there, merged, plain_head_is, records_whole}
pub use Rattle.laz_copied.proofs.PackedFiles.{IsChunked, chunked, packed_front_known}
