pub mod Folding
pub mod Meanings
pub mod Names
pub mod Padding
pub mod Shelf
pub mod Words
