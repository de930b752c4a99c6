-- The lemmas of this crate that the crates above use. All other modules of proofs/ are private.
pub use Rattle.las_thin.proofs.Behind.{first_keeps_one_by_one, keeps_as_the_plan, keeps_one_by_one, keeps_what_stays, passing-push}
pub use Rattle.las_thin.proofs.Members.{by_bool}
