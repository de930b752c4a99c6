-- The lemmas of this crate that the crates above use. All other modules of proofs/ are private.
pub use Rattle.laz_rgb.proofs.Parting.{colour-one, extra-one}
pub use Rattle.laz_rgb.proofs.Proved.{colours-lawful, colours-spelled, extras-lawful, extras-spelled, others-leave_colours, others-leave_extras}
