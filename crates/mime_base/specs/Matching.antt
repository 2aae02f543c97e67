-- Matching a pattern to a name. Read Folding, Elements, Matches and Count, in this order; Attempt says how an attempt
-- at one place of a name goes, Rows and CountRows have worked rows.
pub mod Folding
pub mod Elements
pub mod Matches
pub mod Count
pub mod CountRows
pub mod Attempt
pub mod Rows
