-- Lemmas on the bytes of a cache: zeros and prefixes, numbers, where bytes stand, texts from both sides.
pub mod Zeros
pub mod Prefixes
pub mod Records
pub mod Stops
pub mod Padding
pub mod Orders
pub mod Eights
pub mod ZeroLanes
pub mod Numbers
pub mod Standing
pub mod TextsStand
pub mod TextFaults
