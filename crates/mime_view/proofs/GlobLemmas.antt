-- Lemmas on the glob list.
pub mod GlobEntries
pub mod GlobLists
