pub mod Record
pub mod Tally
