pub mod Masks
pub mod Filters
pub mod Coordinates
pub mod Changes
pub mod Kept
pub mod Parts
