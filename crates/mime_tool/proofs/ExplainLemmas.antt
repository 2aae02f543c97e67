-- Lemmas on what `explain` prints.
pub mod Decisions
pub mod Matching
pub mod Reading
pub mod Runs
pub mod Sections
