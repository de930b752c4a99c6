mod Examples
mod Meanings
mod Slots
mod Points
mod Models
mod Fronts
mod Rests
mod Coded
mod Written
mod Starts
mod Lawful
mod Spelled
mod Spellings
mod SpelledRests
mod Extremes
mod Parting
pub mod Public
