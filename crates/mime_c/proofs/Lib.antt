pub mod Slices
pub mod ParentSteps
pub mod Writing
pub mod HitSteps
pub mod HeapValues
pub mod Handles
