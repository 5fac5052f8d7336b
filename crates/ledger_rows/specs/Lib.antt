pub mod Columns
pub mod Pages
pub mod Pictures
pub mod Pockets
pub mod Progress
pub mod Rows
