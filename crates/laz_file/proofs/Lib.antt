mod Taking
mod Copies
mod Writers
mod Endings
mod WholeOutputs
mod Making
mod Examples
mod RangeLaws
mod SliceLaw
mod OneBlock
mod EvenBlocks
pub mod Public
