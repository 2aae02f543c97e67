-- Lemmas on lines and sections of magic.
pub mod ComparedBytes
pub mod LineFaults
pub mod LineParts
pub mod LineRows
pub mod LineValues
pub mod LinesAsked
pub mod LinesLeft
pub mod SectionParts
pub mod SectionRows
pub mod SectionsLeft
pub mod StandingValues
pub mod MagicLists
pub mod WalkedLines
