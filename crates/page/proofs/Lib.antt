pub mod Buffers
pub mod EntryLists
pub mod EntryWords
pub mod Layouts
pub mod PageRuns
