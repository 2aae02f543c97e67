-- Lemmas on runs: how parts of a command follow one another, and how they end.
pub mod AnswersByData
pub mod Commands
pub mod Endings
pub mod Ends
pub mod Fronts
pub mod ListedRuns
pub mod Loads
pub mod Programs
pub mod Questions
pub mod Replies
pub mod Runs
pub mod SourceCommands
pub mod Texts
