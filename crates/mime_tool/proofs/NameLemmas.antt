-- Lemmas on the names of a list, and on how they are read.
pub mod FirstNames
pub mod Pieces
pub mod Takings
pub mod Readings
pub mod LastSlash
