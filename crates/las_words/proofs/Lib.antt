mod Parsing
mod Commands
mod Cutting
mod Gathered
mod Wrong
mod Ranges
mod Chosen
mod PartNames
mod Inputs
mod Places
mod Sieves
mod Saying
mod Examples
pub mod Public
