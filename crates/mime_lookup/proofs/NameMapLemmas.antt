-- Values by names.
pub mod Items
pub mod Added
pub mod Changed
