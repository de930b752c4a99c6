mod Leaves
mod Reading
mod Whole
mod Fields
mod Written
mod Lists
mod Lawful
mod Ends
mod Coding
mod Steps
mod Chunk
mod Bounds
mod Lengths
mod Parting
mod Examples
pub mod Public
