-- Lemmas on the rules that are listed.
pub mod ListedTexts
pub mod SiblingFaults
pub mod Adding
pub mod RuleSources
pub mod ListedSiblings
pub mod ListedTree
pub mod ListedEntries
pub mod RuleLists
