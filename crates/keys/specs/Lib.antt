pub mod Bits
pub mod Kinds
pub mod Model
pub mod Split
pub mod Cells
pub mod Binary
pub mod Same
