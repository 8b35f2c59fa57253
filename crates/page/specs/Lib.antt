pub mod Buffers
pub mod Entries
pub mod Memory
pub mod Pages
