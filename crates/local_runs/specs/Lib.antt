pub mod Statuses
pub mod Runs
pub mod Pieces
pub mod Endings
pub mod Assembling
pub mod Put
