-- pages
pub mod Reading
pub mod PageWords
-- making an index
pub mod FreeChains
-- turn
pub mod Searches
-- post and merge
pub mod Children
pub mod Places
pub mod Posting
pub mod Merging
-- raise and sweep
pub mod Raising
pub mod Marks
pub mod Freeing
pub mod Turning
