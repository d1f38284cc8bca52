pub mod Growing
pub mod Descending
pub mod Following
pub mod Passing
