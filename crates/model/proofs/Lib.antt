-- the order of keys and bounds
pub mod Bounds
-- what holds of every index
pub mod Invariant
-- lists and numbers
pub mod Lists
pub mod Counting
-- pages that change, and those that do not
pub mod Frames
pub mod Updates
-- the words of a store
pub mod Views
pub mod Plains
pub mod Writes
-- a new index
pub mod Formats
pub mod NewIndex
-- levels from left to right, and the entries in order
pub mod Levels
pub mod Chains
pub mod Entries
pub mod Rows
-- each step on the pages
pub mod Edits
pub mod LeafEdits
pub mod Halves
pub mod Split
pub mod Post
pub mod MergePairs
pub mod MergeParents
pub mod MergePages
pub mod MergeTrees
pub mod Merge
pub mod Raise
pub mod Sweep
pub mod Moves
-- each call
pub mod Kept
pub mod JobCalls
pub mod FreePages
pub mod Turns
pub mod UpkeepCalls
-- every history
pub mod Histories
pub mod Soundness
-- the same jobs, the same answers
pub mod OneKey
pub mod KeyJobs
pub mod SameAnswers
-- a job alone
pub mod Alone
pub mod Arriving
pub mod Finishing
pub mod AloneFinishes
-- the promises of one call
pub mod CallPromises
-- the worked example
pub mod Example
