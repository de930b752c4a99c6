pub mod Adding
pub mod Passing
pub mod Converting
pub mod Laws
