-- The reverse suffix tree, from sorted paths.
pub mod Paths
pub mod Siblings
pub mod SoFar
pub mod OneSibling
pub mod Groups
pub mod Rising
pub mod Distinct
pub mod Nodes
pub mod Counts
pub mod Rooted
pub mod EntryRooms
pub mod Starts
pub mod Alone
