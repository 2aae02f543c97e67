-- Lemmas on the usual spellings of the commands.
pub mod BuildWords
pub mod TwinlessBuilds
pub mod CacheWords
pub mod UsualEnds
pub mod UsualMeanings
pub mod UsualRows
pub mod UsualWords
pub mod ExplainWords
