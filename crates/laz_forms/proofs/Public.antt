-- The lemmas of this crate that the crates above use. All other modules of proofs/ are private.
pub use Rattle.laz_forms.proofs.Accepted.{IsFirst-none, accepted_is_head, both_none, head_long, plain_file}
pub use Rattle.laz_forms.proofs.Accepted.{plain_records}
pub use Rattle.laz_forms.proofs.Blocks.{count-few, cut-joined}
pub use Rattle.laz_forms.proofs.Chunked.{sum-lengths, whole_cut}
pub use Rattle.laz_forms.proofs.Counted.{counted_format, counted_lengths, counted_packed, length-counted, packed_long}
pub use Rattle.laz_forms.proofs.Counted.{packed_longer}
pub use Rattle.laz_forms.proofs.CountedForms.{are_counted, IsBytes-splice, short-are, long-are, set-are}
pub use Rattle.laz_forms.proofs.Examples.{chunk, head, last_pointer, one, one_packed, pointer, vlr}
pub use Rattle.laz_forms.proofs.Existing.{has_an_answer, has_pieces, has_records, has_records_in}
pub use Rattle.laz_forms.proofs.Filling.{read_more}
pub use Rattle.laz_forms.proofs.Finished.{counted_file_is, finished_is, head-by, long-size, short-size}
pub use Rattle.laz_forms.proofs.Fronts.{layout-length}
pub use Rattle.laz_forms.proofs.Knowing.{if_ok, known_as, known_at, known_both, known_then, known_three, on_ok}
pub use Rattle.laz_forms.proofs.Knowing.{on_ok_both, not_missing, not_both, ok_no_fault}
pub use Rattle.laz_forms.proofs.OneAnswer.{one_pieces, refused_once}
pub use Rattle.laz_forms.proofs.Packed.{packed-is, packed_accepted, packed_chunks}
pub use Rattle.laz_forms.proofs.Packed.{plain-is, unpacks_again, plain_itself}
pub use Rattle.laz_forms.proofs.Patching.{LiesIn, all_patched, length-with_patches, patched_part, unpatched}
pub use Rattle.laz_forms.proofs.Patching.{with_patches-more}
pub use Rattle.laz_forms.proofs.Payloads.{payload-short, few-items, length-payload}
pub use Rattle.laz_forms.proofs.Payloads.{payload-by, payload-chunk}
pub use Rattle.laz_forms.proofs.PlainForms.{accepted_pack, accepted_plain, head-is, offset-is, plain-kept, records-is}
pub use Rattle.laz_forms.proofs.Putting.{All-unmap, concat-append, if_err, in_part}
pub use Rattle.laz_forms.proofs.Putting.{is_lent, joined-append, joined_more, lent_is, lent_small, prefix_append}
pub use Rattle.laz_forms.proofs.Putting.{sizes-append, sizes_more}
pub use Rattle.laz_forms.proofs.RecordLengths.{record_is, record_least, whole_both, even_all, block_fits, rest_next}
pub use Rattle.laz_forms.proofs.Slices.{AreWhole, parts_cut, slice}
pub use Rattle.laz_forms.proofs.Splices.{splice-again, splice-splice}
pub use Rattle.laz_forms.proofs.Sums.{sum-sizes, sum-times}
pub use Rattle.laz_forms.proofs.Tallying.{Counted, all_counted, none_counted, one_counted}
pub use Rattle.laz_forms.proofs.Whole.{hold-plain, is_plain_form, no_bad_piece, not_bad_before, once}
pub use Rattle.laz_forms.proofs.Whole.{only-plain, pieces-joined, plain_read, read_once, reads_back, reads_plain}
pub use Rattle.laz_forms.proofs.Whole.{some_same}
pub use Rattle.laz_forms.proofs.Forms.{IsForm, form_accepted, form_after, form_head, form_packed, form_pieces}
pub use Rattle.laz_forms.proofs.Forms.{form_plain}
