mod Examples
mod Walks
mod Takings
mod Made
mod Rowed
mod Spelled
mod Extras
mod Written
mod Proved
mod Parting
pub mod Public
