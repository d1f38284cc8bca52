pub mod Tree
pub mod Order
pub mod Find
pub mod Insert
pub mod Remove
pub mod Sift
pub mod Union
pub mod Theorems
