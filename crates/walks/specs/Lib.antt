pub mod Leads
pub mod Landings
pub mod Turns
pub mod Ways
