pub mod Digits
pub mod Addresses
pub mod Effective
pub mod Stored
