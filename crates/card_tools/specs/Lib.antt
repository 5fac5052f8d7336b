pub mod Checking
pub mod Comparing
pub mod Cutting
pub mod Lines
pub mod Listing
pub mod Manifests
pub mod Numbering
