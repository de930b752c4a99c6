mod Adding
mod Passing
mod Cuts
mod Shown
mod Going
mod Unchanged
mod Only
mod Endings
mod Converts
mod Readings
mod Looks
mod Wholes
mod Making
mod AllPlaces
mod OneWay
mod Existing
mod Examples
pub mod Public
