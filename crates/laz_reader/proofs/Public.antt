-- The lemmas of this crate that the crates above use. All other modules of proofs/ are private.
pub use Rattle.laz_reader.proofs.Accepting.{one_vlr}
pub use Rattle.laz_reader.proofs.AllParts.{all_of}
pub use Rattle.laz_reader.proofs.FirstPieces.{fewer_first, hold_length, inside, more_first, no_length}
pub use Rattle.laz_reader.proofs.Frames.{after_writes, then_writes}
pub use Rattle.laz_reader.proofs.Heads.{head_given}
pub use Rattle.laz_reader.proofs.Joins.{joined}
pub use Rattle.laz_reader.proofs.LeftSizes.{left_asked, left_size, if_less}
pub use Rattle.laz_reader.proofs.Opened.{all_points}
pub use Rattle.laz_reader.proofs.Parts.{empty_parts}
pub use Rattle.laz_reader.proofs.PieceLists.{summed}
pub use Rattle.laz_reader.proofs.PiecesRead.{even_whole, length_whole}
pub use Rattle.laz_reader.proofs.PiecesRead.{read_begins}
pub use Rattle.laz_reader.proofs.TableFront.{accepted_lists, accepted_points, points_summed, accepted_bytes}
pub use Rattle.laz_reader.proofs.Turns.{come_first, concat_last, lent_is, lent_turn, next_may, none_come}
