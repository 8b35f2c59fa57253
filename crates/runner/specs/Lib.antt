pub mod Lines
pub mod Runs
pub mod RunPromises
pub mod Programs
