pub mod BigEndian
pub mod ClosedForms
pub mod Listing
pub mod Octets
