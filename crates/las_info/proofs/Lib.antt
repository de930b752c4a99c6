mod Counting
mod Cuts
mod Examples
mod Finding
mod Lanes
mod Maps
mod Parts
mod Pieces
mod Places
mod Running
mod Tallying
mod Texts
mod Widening
mod Zips
mod Shown
pub mod Public
