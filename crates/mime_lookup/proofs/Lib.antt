pub mod HitLemmas
pub mod OrderLemmas
pub mod ContentLemmas
pub mod AncestryLemmas
mod NameMapLemmas
pub mod SniffLemmas
pub mod CostLemmas
pub mod LookUpLemmas
pub mod StopLemmas
pub mod IndexLemmas
pub mod SpellingLemmas
