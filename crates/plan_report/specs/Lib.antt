pub mod Explained
pub mod Shorter
