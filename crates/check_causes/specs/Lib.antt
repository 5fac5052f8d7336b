pub mod Words
pub mod Tested
pub mod Reading
pub mod Fields
pub mod Devices
pub mod Causes
pub mod Sentences
pub mod Worked
