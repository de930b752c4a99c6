-- The lemmas of this crate that the crates above use. All other modules of proofs/ are private.
pub use Rattle.laz_writer.proofs.Arms.{held_text, kept_part, packed_form, plain_stopped}
pub use Rattle.laz_writer.proofs.Finishing.{no_records}
pub use Rattle.laz_writer.proofs.Pushing.{cut-append}
pub use Rattle.laz_writer.proofs.Stopping.{front_unfinished, stopped_short, stopped_unfinished}
