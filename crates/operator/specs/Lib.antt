pub mod Subcommands
pub mod Printed
pub mod Values
pub mod Tasks
