-- Lemmas on lists that stand in a cache: records, texts, pairs.
pub mod OneText
pub mod EqualTexts
pub mod PairTexts
pub mod Records
pub mod TextLists
pub mod Headers
pub mod Spelled
pub mod NameLists
