pub mod BytesLemmas
pub mod ListLemmas
pub mod RulesLemmas
pub mod ParentsLemmas
pub mod MagicLemmas
pub mod SuffixTreeLemmas
pub mod CacheLemmas
pub mod BoundLemmas
