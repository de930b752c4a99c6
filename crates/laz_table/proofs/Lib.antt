mod VlrCauseLemmas
mod Examples
mod WritingLemmas
mod ReadingLemmas
mod Bridge
mod TableLemmas
mod OneSpelling
mod TableLaws
mod TableBytes
pub mod Public
