pub use Rattle.las_header.specs.Refusals
pub use Rattle.laz_chunk.specs.Layouts
pub use Rattle.laz_chunk.specs.Chunks
pub use Rattle.laz_table.specs.Payload
pub use Rattle.laz_table.specs.Table
pub mod Arguments
pub mod Heads
pub mod Tables
