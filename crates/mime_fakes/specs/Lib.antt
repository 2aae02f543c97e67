pub mod Drawer
pub mod Shelf
