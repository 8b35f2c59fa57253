pub mod Comparisons
pub mod Laws
pub mod Loads
pub mod PlaceNames
pub mod Places
pub mod Refusals
