-- Lemmas on what steps cost.
pub mod Costs
pub mod VisitCounts
