pub mod Assembly
pub mod Faults
pub mod Programs
pub mod Listing
pub mod Loadable
