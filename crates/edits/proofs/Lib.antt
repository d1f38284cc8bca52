pub mod Pending
pub mod Writing
pub mod Seeking
pub mod Growing
pub mod Updating
pub mod Shrinking
pub mod Dropping
