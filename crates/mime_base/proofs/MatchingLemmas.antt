-- Lemmas on matching: sets and places of a pattern, matching one element on, what an attempt says of the whole, what
-- is left after the last star, and counts.
pub mod Sets
pub mod Places
pub mod Matches
pub mod Attempts
pub mod Slides
pub mod Costs
pub mod Ends
pub mod Counts
pub mod Lasts
pub mod Endings
pub mod Literals
pub mod Refused
