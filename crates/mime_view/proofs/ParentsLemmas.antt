-- Lemmas on the parent list and its marks.
pub mod AddedPlaces
pub mod ParentEntries
pub mod Subclasses
pub mod ParentLists
