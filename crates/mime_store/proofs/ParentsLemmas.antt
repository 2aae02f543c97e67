-- The parent list, from runs of sorted pairs.
pub mod Runs
pub mod RunLoops
pub mod ParentLists
