pub mod Work
pub mod Meets
pub mod Steps
pub mod Unites
