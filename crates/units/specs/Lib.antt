pub mod Switches
pub mod Printed
pub mod Stacked
pub mod Carriages
pub mod Pockets
pub mod Units
pub mod Ranges
pub mod Listing
