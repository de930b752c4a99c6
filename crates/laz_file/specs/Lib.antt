pub use Rattle.las_header.specs.Refusals
pub use Rattle.las_header.specs.Conditions
pub use Rattle.las_outside.specs.Drafts
pub use Rattle.las_outside.specs.Faults
pub use Rattle.las_outside.specs.Files
pub use Rattle.las_outside.specs.Frames
pub use Rattle.las_outside.specs.Limits
pub use Rattle.las_outside.specs.Outside
pub use Rattle.laz_workers.specs.Rooms
pub use Rattle.laz_workers.specs.Work
pub use Rattle.laz_chunk.specs.Layouts
pub use Rattle.laz_chunk.specs.Chunks
pub use Rattle.laz_table.specs.Chunks as TableChunks
pub mod Copying
pub mod Endings
