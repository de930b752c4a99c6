-- The lemmas of this crate that the crates above use. All other modules of proofs/ are private.
pub use Rattle.laz_gpstime.proofs.Lawful.{others-leave, points-hold, times-lawful}
pub use Rattle.laz_gpstime.proofs.Parting.{time-one}
pub use Rattle.laz_gpstime.proofs.Spelled.{times-spelled}
