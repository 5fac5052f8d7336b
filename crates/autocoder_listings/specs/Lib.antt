pub mod Rows
pub mod Coded
pub mod Narrow
pub mod Names
pub mod Listing
pub mod Reading
pub mod Widths
