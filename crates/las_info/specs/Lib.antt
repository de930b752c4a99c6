pub mod Tallies
pub mod Bins
pub mod Cells
pub mod Extents
pub mod Summaries
pub mod Report
pub mod Surveys
