pub mod Messages
pub mod Spots
pub mod Following
pub mod Notes
pub mod Near
pub mod Columns
