-- The lemmas of this crate that the crates above use. All other modules of proofs/ are private.
pub use Rattle.las_header.proofs.CauseLemmas.{CanRead, IsAcceptedHead, IsFront, accepted_front, accepted_head, can_read, first_of_both, front_decides, front_is_fine, is_head, least_any, least_block, none_first, packed_is_fine, points_fit}
pub use Rattle.las_header.proofs.ConditionLemmas.{IsFirst-append_none, IsFirst-append_some, IsFirst-one, IsFirst-tests, first_is_tested}
pub use Rattle.las_header.proofs.CountLemmas.{IsCounted, counted_head, splice-layout}
pub use Rattle.las_header.proofs.Cutting.{left_first, left_next, cut_length, cut_none, cut_whole, length_whole}
pub use Rattle.las_header.proofs.LayoutLemmas.{IsRelaid, after_relaid, drop_part, front_relaid, layout_bytes, size_relaid}
pub use Rattle.las_header.proofs.NumberLemmas.{drop-splice, length-splice, length_part, number_at-drop, number_at-part, number_at-splice, number_at-take, number_at-with_number_at, reads_back, slice_index-splice, take-splice}
pub use Rattle.las_header.proofs.PackingLemmas.{CanPack, packs}
pub use Rattle.las_header.proofs.UnpackingLemmas.{can_unpack, plains}
pub use Rattle.las_header.proofs.VlrLemmas.{SameIn-tail, found_within, header_before, vlr_head_fits, vlr_start-same}
pub use Rattle.las_header.proofs.CauseLemmas.{limit-bound, no_extended, first_none}
