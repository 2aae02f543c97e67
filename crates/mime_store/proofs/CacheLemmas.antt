-- All parts of a cache, and what they take.
pub mod Packing
pub mod Spelled
pub mod Spelling
