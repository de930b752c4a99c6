mod NumberLemmas
mod VlrLemmas
mod CauseLemmas
mod CountLemmas
mod LayoutLemmas
mod PackingLemmas
mod UnpackingLemmas
mod ConditionLemmas
mod Examples
mod Cutting
pub mod Public
