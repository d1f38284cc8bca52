pub mod Splits
pub mod Differences
pub mod Order
pub mod Laws
