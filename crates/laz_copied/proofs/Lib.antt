mod Tables
mod Payloads
mod Chunks
mod PackedFiles
mod Heads
mod Copies
mod Merged
mod Examples
pub mod Public
