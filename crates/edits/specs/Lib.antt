pub mod Clears
pub mod Owned
pub mod Seats
pub mod Writes
pub mod Inserted
pub mod Removed
pub mod Faults
