-- Lemmas on the type of a content, and on a front of it that is enough.
pub mod Sniffs
pub mod ShortTypes
pub mod FirstSections
pub mod Findings
pub mod FoundFronts
pub mod Front
pub mod MagicTexts
pub mod TakenFronts
