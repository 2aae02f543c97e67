-- Lemmas on what a whole lookup promises.
pub mod SpelledParts
pub mod KindTexts
pub mod Askings
pub mod ContentsAlone
pub mod LookUps
pub mod Outcomes
pub mod EnoughFronts
pub mod Wants
pub mod NamesAlone
pub mod NameLookUps
