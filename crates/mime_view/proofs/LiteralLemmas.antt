-- Lemmas on the literal list.
pub mod LiteralEntries
pub mod LiteralRuns
pub mod LiteralPlaces
pub mod EntryRows
