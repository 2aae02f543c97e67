-- Lemmas on data directories, and on what their texts say.
pub mod DataFiles
pub mod DirectoryFiles
pub mod DirectoryLists
pub mod DirectoryLoops
pub mod DirectorySteps
pub mod MagicFiles
pub mod Merges
pub mod Missing
pub mod Notices
pub mod Passing
pub mod SaidDatabases
pub mod SaidDirs
pub mod SaidTexts
