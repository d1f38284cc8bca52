pub mod Rooting
pub mod Changing
pub mod Refusing
