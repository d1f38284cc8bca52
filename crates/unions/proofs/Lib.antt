pub mod Working
pub mod Facing
pub mod Parting
pub mod Siding
pub mod Leveling
pub mod Stages
pub mod Joining
