pub mod CommandLemmas
pub mod SpellingLemmas
pub mod WalkLemmas
pub mod MeaningLemmas
