pub mod Choices
pub mod Hashes
