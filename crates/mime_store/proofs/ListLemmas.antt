-- A list whose members are written one after another.
pub mod Loops
pub mod Gather
pub mod Entries
