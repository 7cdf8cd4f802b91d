pub mod Below
pub mod Ranges
pub mod Causes
