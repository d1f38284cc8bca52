pub mod Splitting
pub mod Cursor
pub mod Numerals
pub mod Readings
pub mod Values
pub mod Forms
pub mod Printing
pub mod Agreement
