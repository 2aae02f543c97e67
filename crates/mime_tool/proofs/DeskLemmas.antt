-- Lemmas on the sinks, and on what is put into them.
pub mod Desks
pub mod Messages
pub mod Sinks
