-- Texts and rules that a cache stores, and how they are sorted.
pub mod Texts
pub mod Fits
pub mod Sorting
