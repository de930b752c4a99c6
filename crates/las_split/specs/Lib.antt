pub mod Parts
pub mod Files
pub mod Outputs
pub mod Splitting
pub mod Splitters
pub mod Sorting
pub mod Steps
pub mod Laws
