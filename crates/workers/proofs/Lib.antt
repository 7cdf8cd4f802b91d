pub mod Joined
pub mod Taking
pub mod Sharing
