pub mod FallingLemmas
pub mod MatchingLemmas
pub mod KeptLemmas
pub mod MagicLemmas
pub mod CacheLemmas
mod DatabaseLemmas
pub mod FormatLemmas
pub mod NameLemmas
