pub mod Jobs
pub mod Indexes
pub mod Searches
pub mod Turns
pub mod Parents
pub mod Pairs
pub mod Sweeps
pub mod Tickets
