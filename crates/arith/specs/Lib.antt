pub mod Decimal
pub mod Operands
pub mod Sums
pub mod Order
pub mod Bases
pub mod Joining
pub mod Columns
pub mod Words
