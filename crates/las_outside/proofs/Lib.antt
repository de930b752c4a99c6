mod Counting
mod DraftNames
mod ByName
mod Examples
mod FileLaws
mod Frames
mod LeftDrafts
mod Rooms
mod Texts
pub mod Public
