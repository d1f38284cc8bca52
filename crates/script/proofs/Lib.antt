pub mod Splits
pub mod Digits
pub mod Readers
pub mod Names
pub mod Spaced
pub mod Rereading
