mod Causes
mod Examples
mod Reading
mod TableLists
