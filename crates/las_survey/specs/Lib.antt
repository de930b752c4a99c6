pub use Rattle.las_info.specs.Summaries
pub use Rattle.las_info.specs.Surveys
pub use Rattle.las_info.specs.Tallies
pub use Rattle.laz_file.specs.Copying
pub use Rattle.laz_file.specs.Endings
pub use Rattle.laz_forms.specs.Outputs
pub mod Surveying
