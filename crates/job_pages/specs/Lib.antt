pub mod Headings
pub mod Jobs
pub mod Shown
pub mod Facts
pub mod Pages
