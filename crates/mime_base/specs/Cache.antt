-- The bytes of a cache: numbers and values in them, the place where bytes stand, and texts.
pub mod Bytes
pub mod Texts
