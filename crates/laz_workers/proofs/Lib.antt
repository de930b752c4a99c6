mod Counting
mod Rule
mod Steps
mod Runs
mod Examples
mod RoomLists
mod Standing
mod Texts
mod Working
mod Finish
mod Lengths
mod Spread
pub mod Public
