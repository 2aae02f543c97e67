-- Lemmas on `build`.
pub mod BuildOvers
pub mod Builds
pub mod Prints
