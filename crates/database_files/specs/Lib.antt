pub mod Connecting
pub mod Damage
pub mod Undoing
