-- Lemmas on a search in a sorted list by halving.
pub mod Halving
pub mod Places
pub mod Lookups
