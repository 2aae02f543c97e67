-- Lemmas on masks, on reversed groups of bytes, and on a window against a value.
pub mod Masks
pub mod Mirroring
pub mod Windows
pub mod HoldingLines
pub mod HoldingMatchlets
pub mod Ranges
pub mod Lanes
pub mod PassedPairs
pub mod StoppedPairs
pub mod Skipping
pub mod SecondBytes
pub mod MostCompared
pub mod WindowBytes
pub mod NotedPlaces
pub mod StatedLines
pub mod Fronts
pub mod Extents
