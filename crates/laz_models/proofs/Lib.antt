mod BitParts
mod BitStand
mod Banks
mod Cycling
mod Examples
mod Layouts
mod Lists
mod Lookups
mod Models
mod Parts
mod Places
mod Sounds
mod Stand
mod Tables
pub mod Public
