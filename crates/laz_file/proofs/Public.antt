-- The lemmas of this crate that the crates above use. All other modules of proofs/ are private.
pub use Rattle.laz_reader.proofs.Public.{even_whole, length_whole, read_begins}
pub use Rattle.laz_file.proofs.Copies.{calm_ok, end_err, end_ok, even_for, few_come}
pub use Rattle.laz_file.proofs.Copies.{records_come}
pub use Rattle.laz_file.proofs.Endings.{leaves_end, leaves_part, part_unfinished}
pub use Rattle.laz_file.proofs.EvenBlocks.{even_in, even_of}
pub use Rattle.laz_file.proofs.Making.{ends_err, ends_same, finished_form, left_before, left_done}
pub use Rattle.laz_file.proofs.Making.{packed_left, packed_stands, done_texts}
pub use Rattle.laz_file.proofs.OneBlock.{begins-with, only-blocks}
pub use Rattle.laz_file.proofs.RangeLaws.{all_records_in, records_in_before, whole_of_all}
pub use Rattle.laz_file.proofs.Taking.{cause_push, cause_since, file_beside, held_after, known_after}
pub use Rattle.laz_file.proofs.Taking.{known_before, known_taken, part_push, part_stands, part_then, stands_read}
pub use Rattle.laz_file.proofs.Taking.{takes_none, takes_push, takes_read, takes_then}
pub use Rattle.laz_file.proofs.WholeOutputs.{all_records, create_left, err_at, hold_ready, left_is}
pub use Rattle.laz_file.proofs.WholeOutputs.{records_before, stands_ready}
pub use Rattle.laz_file.proofs.Writers.{begun_now, read_between, room_for_all, room_now, same_size, taken_apart}
pub use Rattle.laz_file.proofs.Making.{all_done, named_done, some_files, left_one}
