-- What was written stands, and stays.
pub mod Written
pub mod Records
pub mod Lists
pub mod Header
pub mod Ends
pub mod Orders
