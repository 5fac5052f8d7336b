pub mod Checks
pub mod Storage
pub mod Checked
pub mod Operands
pub mod Planes
pub mod Doing
pub mod Pages
