-- The lemmas of this crate that the crates above use. All other modules of proofs/ are private.
pub use Rattle.laz_workers.proofs.RoomLists.{contains_head, contains_tail}
pub use Rattle.laz_workers.proofs.Standing.{answer_there, stands_below}
pub use Rattle.laz_workers.proofs.Texts.{length-texts}
