-- Lemmas on the commands as clap builds them.
pub mod AddedRules
pub mod Shapes
