-- Lemmas on the format: a cache made by hand, the order of texts, trees with their leaves, the types that have a parent, and runs of pairs.
pub mod Sample
pub mod SampleParts
pub mod SampleTree
pub mod TextOrder
pub mod TreeLeaves
pub mod DistinctTexts
pub mod Subclasses
pub mod RunKinds
pub mod RunsWhole
pub mod ParentRuns
