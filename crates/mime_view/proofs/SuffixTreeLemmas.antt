-- Lemmas on the suffix tree: its siblings, its leaves, and a walk along a name.
pub mod PathFronts
pub mod TreeBlocks
pub mod TreeScans
pub mod TreeRules
pub mod TreeStands
pub mod TreeWalks
pub mod TreePaths
pub mod TreeBegins
pub mod SiblingRows
pub mod SiblingNodes
pub mod SiblingSteps
pub mod TreeOrder
pub mod EndedRules
pub mod TreesRead
pub mod WalkedParts
