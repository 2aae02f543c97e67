pub mod Lines
pub mod Magic
pub mod Merging
pub mod DirTexts
