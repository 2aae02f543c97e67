pub mod LineFiles
pub mod Merges
pub mod MagicLemmas
pub mod FaultLemmas
pub mod SaidDirs
