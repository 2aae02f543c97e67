-- Lemmas on readers of a content, and on what is read.
pub mod Tallies
pub mod Healths
pub mod Reads
pub mod Scripts
pub mod ReadHalves
