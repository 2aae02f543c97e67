-- Lemmas on a cache that is read back.
pub mod Checks
pub mod LineCounts
pub mod RuleCounts
