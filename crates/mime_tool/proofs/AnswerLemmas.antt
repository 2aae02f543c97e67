-- Lemmas on answers, and on the lines of files.
pub mod AlikeLookups
pub mod CachedLines
pub mod CachedStops
pub mod Kinds
pub mod Lines
pub mod ListedNames
pub mod UnreadLists
pub mod AnswersFrom
pub mod AnswersOver
pub mod ContentReaders
pub mod VisibleChoices
pub mod WatchedReaders
