-- The lemmas of this crate that the crates above use. All other modules of proofs/ are private.
pub use Rattle.las_outside.proofs.ByName.{get-insert_same, get-with_value, same, same_named, same_or_not, same_other}
pub use Rattle.las_outside.proofs.FileLaws.{after, changed_after, failed_after, known_after, known_of, with_file-twice}
pub use Rattle.las_outside.proofs.FileLaws.{is_known}
pub use Rattle.las_outside.proofs.Frames.{calm-refl, calm-trans, later-refl, later-trans, only_reads-trans, only_writes-refl, only_writes-trans, reads-more, reads-trans}
pub use Rattle.las_outside.proofs.Rooms.{on_err}
pub use Rattle.las_outside.proofs.Texts.{with_more-none, prefix_of}
