-- Lemmas on why a lookup stops.
pub mod Openings
pub mod OpenFaults
pub mod ShownFaults
pub mod StepStops
pub mod Cause
pub mod PlacedFaults
pub mod NoMemory
