pub mod Signed
pub mod Examples
