mod Rooms
mod Cutting
mod Standing
mod Ending
mod Faults
mod Pushing
mod Finishing
mod Arms
mod Stopping
pub mod Public
