pub mod Digests
pub mod Made
pub mod Names
pub mod Numbers
pub mod PartNames
pub mod Reading
pub mod Sending
pub mod Switches
