-- The lemmas of this crate that the crates above use. All other modules of proofs/ are private.
pub use Rattle.laz_point10.proofs.Lawful.{others-leave_points, points-lawful}
pub use Rattle.laz_point10.proofs.Parting.{point-one}
pub use Rattle.laz_point10.proofs.Parts.{parts-of-points}
pub use Rattle.laz_point10.proofs.Written.{points-spelled}
