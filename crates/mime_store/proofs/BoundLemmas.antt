-- A database takes no more than its bound.
pub mod Fewer
pub mod Parents
pub mod Rules
