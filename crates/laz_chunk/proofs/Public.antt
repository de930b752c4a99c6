-- The lemmas of this crate that the crates above use. All other modules of proofs/ are private.
pub use Rattle.laz_chunk.proofs.Bounds.{chunk-holds, chunk-least, chunk-most, room_is}
pub use Rattle.laz_chunk.proofs.Ends.{count-is}
pub use Rattle.laz_chunk.proofs.Lengths.{are-enough, are-whole}
