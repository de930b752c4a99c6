pub mod Numbers
pub mod Claims
pub mod Seen
pub mod Rooms
pub mod Work
pub mod Shown
pub mod Run
pub use Rattle.atomic_table.specs.Seated
