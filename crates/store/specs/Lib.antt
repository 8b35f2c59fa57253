pub mod Check
pub mod Columns
pub mod Overlay
pub mod Test
pub mod Text
pub mod Words
