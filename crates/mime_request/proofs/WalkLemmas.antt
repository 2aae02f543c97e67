-- Lemmas on walks of clap over words.
pub mod CommandWords
pub mod FileWords
pub mod FlagWords
pub mod Flags
pub mod PlainWords
pub mod Rows
pub mod SettledWords
pub mod SourceWords
pub mod ValueWords
pub mod Walks
