mod Drawn
mod Examples
mod Blank
mod Bytes
mod MadeBytes
mod Accepting
mod Written
mod Reread
mod Since
mod Ended
mod Placed
mod Steps
pub mod Public
