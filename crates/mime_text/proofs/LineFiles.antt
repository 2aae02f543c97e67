pub mod FirstLine
pub mod Fields
pub mod Colons
pub mod Entries
