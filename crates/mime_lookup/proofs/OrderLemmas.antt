-- Lemmas on the checking order: what a name keeps, and what is chosen of it.
pub mod Choices
pub mod Hits
pub mod Answering
pub mod KeptTypes
pub mod MagicFirst
pub mod ContentOnly
pub mod GlobsFirst
pub mod Candidates
pub mod FewTypes
pub mod AllGlobs
pub mod TypesBefore
pub mod ByNames
pub mod ByContents
