-- Sections and lines of magic.
pub mod Lines
pub mod Sections
pub mod Extents
