-- Lemmas on the search for a subclass: marks, pairs and the queue.
pub mod PairSteps
pub mod Places
pub mod Walks
pub mod Marks
pub mod MarkSets
pub mod Searches
pub mod SearchBytes
pub mod Above
pub mod OneParent
pub mod MediaTypes
pub mod Hyphens
pub mod PlaceMarks
pub mod ParentSteps
pub mod PairsLeft
pub mod Queues
