-- The lemmas of this crate that the crates above use. All other modules of proofs/ are private.
pub use Rattle.laz_table.proofs.TableBytes.{IsBytes-append, IsBytes-little, fixed-bytes, stream-bytes}
pub use Rattle.laz_table.proofs.TableLaws.{AreEntries, front-holds, holds-counted, holds-fixed, one-held}
pub use Rattle.laz_table.proofs.VlrCauseLemmas.{payload-decides, payload-is, payload_within}
pub use Rattle.laz_table.proofs.TableLaws.{counted-entries}
