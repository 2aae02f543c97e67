-- Lemmas on a cache that is asked.
pub mod Caches
pub mod Headers
pub mod ListedRules
pub mod Spelled
