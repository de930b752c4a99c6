mod Maps
mod Medians
mod Histories
mod Parts
mod Takings
mod PointTakings
mod PointPieces
mod Choices
mod Lawful
mod Standing
mod Written
mod Examples
mod Parting
pub mod Public
