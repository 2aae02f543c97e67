-- Lemmas on what words mean.
pub mod DirectoryParts
pub mod Meanings
