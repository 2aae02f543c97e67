-- The format of a cache, version 1.2 ("The mime.cache files"): what stands where in the bytes that spell a database.
pub mod Records
pub mod Sorted
pub mod Pairs
pub mod Parents
pub mod Runs
pub mod Stored
pub mod Rules
pub mod Tree
pub mod SuffixTree
pub mod Magic
pub mod Header
pub mod Spells
pub mod Packed
pub mod PackedRows
pub mod Room
pub mod Sample
