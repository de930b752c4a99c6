mod Keeping
mod PartNaming
mod Examples
pub mod Public
