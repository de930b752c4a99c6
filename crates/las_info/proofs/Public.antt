-- The lemmas of this crate that the crates above use. All other modules of proofs/ are private.
pub use Rattle.las_info.proofs.Counting.{shown-few, tap_room}
pub use Rattle.las_info.proofs.Shown.{all_seen, mapped, none_shown, none_taps, taps-both}
